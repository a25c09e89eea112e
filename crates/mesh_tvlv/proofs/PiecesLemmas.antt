-- The pieces of bytes, by number and by place.
use Rattle.std.proofs.Common.{◌≡◌, ℕ, zero, suc, ◌+◌, ◌*◌, ◌<◌, ◌≤◌, ◌/◌, List, length, take, drop, slice_get, refl, ap, ◌∙◌, arith}
use Rattle.std.proofs.lemmas.List.{drop-drop}
use Rattle.std.proofs.lemmas.Option.{slice_get_past}
use Rattle.std.specs.Prelude.{Some, None}
use Rattle.mesh_model.specs.Packets.Bodies.{pieces, whole_pieces}

-- so many pieces as are wanted
pub length_pieces : (n size : ℕ) (bytes : List ℕ) → length (pieces n size bytes) ≡ n
unfolding pieces
length_pieces zero size bytes = refl
length_pieces (suc n) size bytes = ap suc (length_pieces n size (drop size bytes))

-- the piece at a place
pub slice_get-pieces : (n size : ℕ) (bytes : List ℕ) (i : ℕ) → i < n
    → slice_get (pieces n size bytes) i ≡ Some (take size (drop (size * i) bytes))
unfolding pieces
slice_get-pieces zero size bytes i within = absurd (omega arith)
slice_get-pieces (suc n) size bytes zero within =
    let none : 0 ≡ size * 0 = omega arith in
    ap (λ k. Some (take size (drop k bytes))) none
slice_get-pieces (suc n) size bytes (suc i) within =
    let step : size + size * i ≡ size * suc i = omega arith in
    slice_get-pieces n size (drop size bytes) i (omega arith)
    ∙ ap (λ xs. Some (take size xs)) (drop-drop (size * i) size bytes ∙ ap (λ k. drop k bytes) step)

-- past the last whole piece there is none
pub whole_pieces-past : (size : ℕ) (bytes : List ℕ) (i : ℕ) → length bytes / size ≤ i
    → slice_get (whole_pieces size bytes) i ≡ None
whole_pieces-past size bytes i past =
    slice_get_past (whole_pieces size bytes) i (omega (arith, length_pieces (length bytes / size) size bytes))
