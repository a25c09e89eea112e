-- Keys in order, and keys in order that differ.
use Rattle.std.proofs.Common.{◌≡◌, ◌+◌, Bool, false, List, [], ◌∷◌, is_eq, is_lt, arith, refl, sym, ap, ◌∙◌, Ordering, Less, Equal, Greater}
use Rattle.std.specs.Cmp.{IsTotalOrder}
use Rattle.std.specs.List.{IsDistinct}
use Rattle.std.specs.List.Sorted.{IsSorted, IsStrictlySortedBy}
use Rattle.std.specs.Ordering.{eq_by_cmp, ordering_reverse}
use Rattle.std.proofs.lemmas.Bool.{true≢false}
use Rattle.std.proofs.lemmas.Map.Keys.{Less-from_sorted, apart_from_distinct, sorted_from_all_adjacent}

module _ {K : Type 0} {R : K → K → Ordering} (o : IsTotalOrder R) where
  pub sorted_from_strict : (ks : List K) → IsStrictlySortedBy R ks → IsSorted R ks
  sorted_from_strict ks strict = λ k d low lt. ap is_lt (o.antisymm _ _ ∙ ap ordering_reverse (Less-from_sorted R ks k (k + 1) d strict (omega arith) lt))

  below : (a b : K) (r : Ordering) → R a b ≡ r → is_lt (R b a) ≡ false → is_eq r ≡ false → r ≡ Less
  below a b Less e lt eq = refl
  below a b Equal e lt eq = absurd (true≢false eq)
  below a b Greater e lt eq = absurd (true≢false (sym (ap is_lt (o.antisymm b a ∙ ap ordering_reverse e)) ∙ lt))

  pub strict_from : {E : K → K → Bool} → ((x y : K) → E x y ≡ eq_by_cmp R x y) → (ks : List K) → IsSorted R ks → IsDistinct E ks → IsStrictlySortedBy R ks
  unfolding IsStrictlySortedBy
  strict_from {E} exact [] sorted apart = tt
  strict_from {E} exact (first ∷ rest) sorted apart =
      sorted_from_all_adjacent o (first ∷ rest) first (λ k lt.
      below _ _ _ refl (sorted k first (omega arith) lt) (sym (exact _ _) ∙ apart_from_distinct E (first ∷ rest) k (k + 1) first apart (omega arith) lt))
