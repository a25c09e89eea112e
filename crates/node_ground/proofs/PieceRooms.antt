-- Where the pieces of a list begin, and what is cut off there.
use Rattle.std.proofs.Common.{◌≡◌, ◌<◌, ◌≤◌, ◌*◌, ◌-◌, ℕ, List, length, min, take, drop, ap, ◌∙◌, arith, take_all}
use Rattle.std.proofs.lemmas.List.{length-drop, take_min}
use Rattle.mesh_model.specs.declared.table_change.Change.{Change}
use Rattle.mesh_model.specs.Tables.Pieces.{piece_at, piece_count, piece_size}

-- each piece begins among the records
pub piece_begins : (number : ℕ) (records : List Change) → number < piece_count records → number * 1024 ≤ length records
unfolding piece_count
piece_begins number records below = omega (arith, below)

-- what is cut off at a place, up to the end, is the piece there
pub piece_is : (place count : ℕ) (records : List Change) → count ≡ min 1024 (length (take (length records - place * 1024) (drop (place * 1024) records)))
    → take count (take (length records - place * 1024) (drop (place * 1024) records)) ≡ piece_at place records
unfolding piece_size
piece_is place count records is =
    let long : length (drop (place * 1024) records) ≡ length records - place * 1024 = length-drop (place * 1024) records in
    let whole : take (length records - place * 1024) (drop (place * 1024) records) ≡ drop (place * 1024) records =
    take_all (length records - place * 1024) (drop (place * 1024) records) (omega (arith, long)) in
    ap (λ n. take n (take (length records - place * 1024) (drop (place * 1024) records))) is
    ∙ ap (λ xs. take (min 1024 (length xs)) xs) whole ∙ take_min 1024 (drop (place * 1024) records)
