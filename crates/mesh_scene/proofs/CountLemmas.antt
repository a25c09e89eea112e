-- Lemmas on counts: the sum over one node more.
use Rattle.std.proofs.Common.{◌≡◌, ◌∙◌, ◌⊎◌, inl, inr, ℕ, suc, ◌+◌, ◌<◌, ◌≤◌, List, [], ◌∷◌, ◌++◌, map, sum, length, take, slice_get, get_or, Some, None, sym, ap, arith}
use Rattle.std.proofs.lemmas.List.Sums.{sum-map, sum_by_push}
use Rattle.std.proofs.lemmas.Option.{slice_get_cases}
use Rattle.mesh_show.proofs.RowLemmas.{take-next}

-- the sum over one element more
pub sum-next : {X : Type 0} (f : X → ℕ) (xs : List X) (i : ℕ) (x : X) → slice_get xs i ≡ Some x → sum (map f (take (i + 1) xs)) ≡ sum (map f (take i xs)) + f x
sum-next f xs i x found =
    let next : i + 1 ≡ suc i = omega arith in
    ap (λ n. sum (map f (take n xs))) next ∙ ap (λ ys. sum (map f ys)) (take-next xs i x found) ∙ sum-map f (take i xs ++ x ∷ []) ∙ sum_by_push f (take i xs) x
    ∙ ap (λ n. n + f x) (sym (sum-map f (take i xs)))

-- there is an element at each place
pub found-at : {X : Type 0} (xs : List X) (i : ℕ) → i < length xs → (x : X) × (slice_get xs i ≡ Some x)
found-at {X} xs i within = either (slice_get_cases xs i).1
  where
    either : ((x : X) × (i < length xs) × (slice_get xs i ≡ Some x) × (get_or xs i x ≡ x)) ⊎ ((length xs ≤ i) × (slice_get xs i ≡ None)) → (x : X) × (slice_get xs i ≡ Some x)
    either (inl some) = (some.0, some.2)
    either (inr past) = absurd (omega (arith, within, past.0))
