-- The pieces of a table, put together.
use Rattle.std.proofs.Common.{◌≡◌, ℕ, zero, suc, ◌+◌, ◌*◌, ◌<◌, ◌≤◌, List, [], ◌∷◌, ◌++◌, length, take, drop, map, flat_map, refl, sym, ap, ap₂, ◌∙◌, arith, take-add, drop-drop, take_all, zero-mul}
use Rattle.std.proofs.lemmas.List.{map-append}
use Rattle.std.specs.List.{range_with_len}
use Rattle.mesh_base.specs.declared.client.Entry.{Entry}
use Rattle.mesh_model.specs.declared.table_change.Change.{Change}
use Rattle.mesh_model.specs.Tables.Changes.{addition}
use Rattle.mesh_laws.specs.Machine.Pieces.{piece_size, piece_count, places}
use Rattle.mesh_laws.specs.Machine.MachineLaws.{PiecesAreCounted, PiecesMakeTable, SmallTablesAreOnePiece}

-- pieces of one size that follow one another are one piece
joined : {X : Type 0} (size : ℕ) (xs : List X) (first count : ℕ) → flat_map (λ i. take size (drop (i * size) xs)) (range_with_len first count) ≡ take (count * size) (drop (first * size) xs)
joined size xs first zero = rw zero-mul refl
joined size xs first (suc count) =
    let part : List _ = drop (first * size) xs in
    let step : (first + 1) * size ≡ first * size + size = omega arith in
    let more : size + count * size ≡ suc count * size = omega arith in
    ap (λ y. take size part ++ y) (joined size xs (first + 1) count ∙ ap (λ n. take (count * size) (drop n xs)) step ∙ ap (take (count * size)) (sym (drop-drop size (first * size) xs)))
    ∙ sym (take-add size (count * size) part) ∙ ap (λ n. take n part) more

additions_joined : {X : Type 0} (f : X → List Entry) (is : List X) → flat_map (λ i. map addition (f i)) is ≡ map addition (flat_map f is)
additions_joined f [] = refl
additions_joined f (i ∷ is) = ap (λ x. map addition (f i) ++ x) (additions_joined f is) ∙ sym (map-append addition (f i) (flat_map f is))

-- pieces that are the same at each place make the same
pub same_together : (f g : ℕ → List Change) (first count : ℕ) → ((i : ℕ) → i < first + count → f i ≡ g i) → flat_map f (range_with_len first count) ≡ flat_map g (range_with_len first count)
same_together f g first zero same = refl
same_together f g first (suc count) same = ap₂ (λ x y. x ++ y) (same first (omega arith)) (same_together f g (first + 1) count (λ i below. same i (omega arith)))

-- so many pieces have room for the whole table
enough : (t : List Entry) → length t ≤ piece_count t * piece_size
unfolding piece_size piece_count
enough t = omega arith

-- a table has a piece
pub some_piece : (t : List Entry) → 0 < piece_count t
unfolding piece_count
some_piece t = omega arith

pub pieces_make_table : PiecesMakeTable
pieces_make_table t =
    additions_joined (λ i. take piece_size (drop (i * piece_size) t)) (places (piece_count t))
    ∙ ap (map addition) (joined piece_size t 0 (piece_count t) ∙ rw zero-mul (take_all (piece_count t * piece_size) t (enough t)))

pub pieces_are_counted : PiecesAreCounted
unfolding piece_size piece_count
pieces_are_counted entry = (refl, refl, refl, refl)

pub small_tables_are_one_piece : SmallTablesAreOnePiece
unfolding piece_size piece_count
small_tables_are_one_piece t small = (omega arith, ap (map addition) (take_all 1024 t small))
