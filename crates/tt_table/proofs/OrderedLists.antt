-- Lists whose items stand in the order of their keys: what stands at a key, and what an item put in, taken out or
-- replaced changes.
use Rattle.std.proofs.Common.{filter, IsSome, option_and_then, ◌≡◌, ℕ, zero, suc, ◌+◌, ◌<◌, ◌≤◌, Bool, true, false, cond, List, [], ◌∷◌, map, length, get_or, set, Option, Some, None, is_eq, is_lt, refl, sym, ap, ◌∙◌, subst, arith, Result, Ok, Err, IfOk, IfErr, Ordering, Less, Equal, Greater}
use Rattle.std.specs.Cmp.{IsTotalOrder}
use Rattle.std.specs.List.{AllByRecursion, insert, remove}
use Rattle.std.specs.List.Sorted.{IsBinarySearchResult, IsPartitionPoint, IsSearchInRange, IsSortedBy, IsStrictlySortedBy}
use Rattle.std.specs.Ordering.{ordering_reverse}
use Rattle.std.proofs.lemmas.Bool.{true≢false}
use Rattle.std.proofs.Math.ListN.{get_or-map}
use Rattle.std.proofs.Math.Seq.{map-set_same}
use Rattle.std.proofs.lemmas.Cmp.{tied_itself}
use Rattle.std.proofs.lemmas.List.{length-map}
use Rattle.std.proofs.lemmas.List.Sorted.{searchable_from_sorted}
use Rattle.std.proofs.lemmas.Map.Keys.{Less-from_sorted}
use Rattle.std.proofs.lemmas.Map.Lookups.{CmpEqualImpliesEq}
use Rattle.mesh_laws.proofs.KeyLists.{item_at, tied}
use Rattle.tt_table.specs.Places.{IsThere, IsGap}

module _ {K X : Type 0} {R : K → K → Ordering} (o : IsTotalOrder R) (exact : CmpEqualImpliesEq R) (key : X → K) where
  abbrev pub InOrder : List X → Type 0
  InOrder xs = IsStrictlySortedBy R (map key xs)

  pub turned_less : (a b : K) → R a b ≡ Less → R b a ≡ Greater
  turned_less a b e = o.antisymm b a ∙ ap ordering_reverse e

  pub turned_greater : (a b : K) → R a b ≡ Greater → R b a ≡ Less
  turned_greater a b e = o.antisymm b a ∙ ap ordering_reverse e

  -- ---- what a search says
  pub there_from : (k : K) (xs : List X) (i : ℕ) → InOrder xs → i < length xs → ((d : X) → R (key (get_or xs i d)) k ≡ Equal) → IsThere R key k xs i
  there_from k xs i sorted within equal = record {
    within = within;
    below = λ j d lt.
        let here = exact _ _ (equal d) in
        let up = Less-from_sorted R (map key xs) j i (key d) sorted lt (subst (λ n. i < n) (sym (length-map xs key)) within) in
        subst (λ z. R (key (get_or xs j d)) z ≡ Less) here
        (subst (λ z. R z (key (get_or xs i d)) ≡ Less) (get_or-map key xs j d) (subst (λ z. R (get_or (map key xs) j (key d)) z ≡ Less) (get_or-map key xs i d) up));
    same = λ d. exact _ _ (equal d);
  }

  pub gap_from : (k : K) (xs : List X) (i : ℕ) → InOrder xs → i ≤ length xs → IsBinarySearchResult (λ y. R (key y) k) xs (Err i) → IsGap R key k xs i
  gap_from k xs i sorted within found =
      let keys = map key xs in
      let rises : IsSortedBy (λ a b. is_lt (R (key a) (key b))) xs = λ j d low lt.
      let up = Less-from_sorted R keys j (j + 1) (key d) sorted (omega arith) (subst (λ n. j + 1 < n) (sym (length-map xs key)) lt) in
      let up_here = subst (λ z. R z (key (get_or xs (j + 1) d)) ≡ Less) (get_or-map key xs j d) (subst (λ z. R (get_or keys j (key d)) z ≡ Less) (get_or-map key xs (j + 1) d) up) in
      ap is_lt (turned_less _ _ up_here) in
      let part : IsPartitionPoint (λ y. R (key y) k ≡ Less) (λ y. R (key y) k ≡ Greater) xs i = found (searchable_from_sorted o key xs k rises) in record {
        within = within;
        below = λ j d lt. part.0 j d (omega arith) lt;
        above = λ j d low lt. part.1 j d low lt;
      }

  pub searched : (k : K) (xs : List X) (r : Result ℕ ℕ) → InOrder xs → IsSearchInRange r (length xs) → IsBinarySearchResult (λ y. R (key y) k) xs r
      → IfOk r (λ i. IsThere R key k xs i) × IfErr r (λ i. IsGap R key k xs i)
  searched k xs (Ok i) sorted range found = (there_from k xs i sorted range found, tt)
  searched k xs (Err i) sorted range found = (tt, gap_from k xs i sorted range found)

  pub there_next : (k : K) (x : X) (xs : List X) (i : ℕ) → IsThere R key k (x ∷ xs) (suc i) → IsThere R key k xs i
  there_next k x xs i t = record {
    within = let w = t.within in omega (arith, w);
    below = λ j d lt. t.below (suc j) d (omega (arith, lt));
    same = λ d. t.same d;
  }

  pub gap_next : (k : K) (x : X) (xs : List X) (i : ℕ) → IsGap R key k (x ∷ xs) (suc i) → IsGap R key k xs i
  gap_next k x xs i t = record {
    within = let w = t.within in omega (arith, w);
    below = λ j d lt. t.below (suc j) d (omega (arith, lt));
    above = λ j d low lt. t.above (suc j) d (omega (arith, low)) (omega (arith, lt));
  }

  -- ---- an item put in
  all_put : (P : K → Type 0) (xs : List X) (i : ℕ) (x : X) → P (key x) → AllByRecursion P (map key xs) → AllByRecursion P (map key (insert xs i x))
  all_put P xs zero x p all = (p, all)
  all_put P [] (suc i) x p all = (p, tt)
  all_put P (y ∷ ys) (suc i) x p all = (all.0, all_put P ys i x p all.1)

  all_over : (k : K) (xs : List X) → ((j : ℕ) (d : X) → j < length xs → R (key (get_or xs j d)) k ≡ Greater) → AllByRecursion (λ y. R k y ≡ Less) (map key xs)
  all_over k [] above = tt
  all_over k (x ∷ xs) above = (turned_greater (key x) k (above 0 x (omega arith)), all_over k xs (λ j d lt. above (suc j) d (omega (arith, lt))))

  pub sorted_put : (x : X) (xs : List X) (i : ℕ) → IsGap R key (key x) xs i → InOrder xs → InOrder (insert xs i x)
  unfolding IsStrictlySortedBy
  sorted_put x xs zero gap sorted = (all_over (key x) xs (λ j d lt. gap.above j d (omega arith) lt), sorted)
  sorted_put x [] (suc i) gap sorted = absurd (let w = gap.within in omega (arith, w))
  sorted_put x (y ∷ ys) (suc i) gap sorted =
      (all_put (λ z. R (key y) z ≡ Less) ys i x (gap.below 0 y (omega arith)) sorted.0, sorted_put x ys i (gap_next (key x) y ys i gap) sorted.1)

  -- ---- an item taken out
  all_left : (P : K → Type 0) (xs : List X) (i : ℕ) → AllByRecursion P (map key xs) → AllByRecursion P (map key (remove xs i))
  all_left P [] zero all = tt
  all_left P [] (suc i) all = tt
  all_left P (x ∷ xs) zero all = all.1
  all_left P (x ∷ xs) (suc i) all = (all.0, all_left P xs i all.1)

  pub sorted_left : (xs : List X) (i : ℕ) → InOrder xs → InOrder (remove xs i)
  unfolding IsStrictlySortedBy
  sorted_left [] zero sorted = tt
  sorted_left [] (suc i) sorted = tt
  sorted_left (x ∷ xs) zero sorted = sorted.1
  sorted_left (x ∷ xs) (suc i) sorted = (all_left (λ z. R (key x) z ≡ Less) xs i sorted.0, sorted_left xs i sorted.1)

  -- ---- an item replaced
  pub sorted_set : (k : K) (x : X) (xs : List X) (i : ℕ) → IsThere R key k xs i → key x ≡ k → InOrder xs → InOrder (set xs i x)
  sorted_set k x xs i there same sorted = subst (IsStrictlySortedBy R) (sym (map-set_same key xs i x x (same ∙ sym (there.same x)))) sorted

  -- ---- what stands at a key
  pub other : (a b : K) → R a b ≡ Less → (q : K) → is_eq (R q a) ≡ true → is_eq (R q b) ≡ false
  other a b e q t = ap is_eq (subst (λ z. R z b ≡ Less) (sym (tied R exact q a _ refl t)) e)

  none_over : (q : K) (xs : List X) → AllByRecursion (λ y. R q y ≡ Less) (map key xs) → item_at R key q xs ≡ None
  none_over q [] above = refl
  none_over q (x ∷ xs) above = ap (λ r. cond (is_eq r) (Some x) (item_at R key q xs)) above.0 ∙ none_over q xs above.1

  pub item_there : (k : K) (xs : List X) (i : ℕ) (d : X) → IsThere R key k xs i → item_at R key k xs ≡ Some (get_or xs i d)
  item_there k [] i d there = absurd (let w = there.within in omega (arith, w))
  item_there k (x ∷ xs) zero d there = ap (λ b. cond b (Some x) (item_at R key k xs)) (ap (λ z. is_eq (R k z)) (there.same x) ∙ ap is_eq (tied_itself o k))
  item_there k (x ∷ xs) (suc i) d there =
      ap (λ b. cond b (Some x) (item_at R key k xs)) (ap is_eq (turned_less (key x) k (there.below 0 x (omega arith)))) ∙ item_there k xs i d (there_next k x xs i there)

  pub some_item : (k : K) (xs : List X) (i : ℕ) → IsThere R key k xs i → IsSome (item_at R key k xs)
  some_item k [] i there = absurd (let w = there.within in omega (arith, w))
  some_item k (x ∷ xs) i there = subst (λ o. IsSome o) (sym (item_there k (x ∷ xs) i x there)) refl

  pub none_in_gap : (k : K) (xs : List X) (i : ℕ) → IsGap R key k xs i → item_at R key k xs ≡ None
  none_in_gap k [] i gap = refl
  none_in_gap k (x ∷ xs) zero gap = none_over k (x ∷ xs) (all_over k (x ∷ xs) (λ j d lt. gap.above j d (omega arith) lt))
  none_in_gap k (x ∷ xs) (suc i) gap =
      ap (λ b. cond b (Some x) (item_at R key k xs)) (ap is_eq (turned_less (key x) k (gap.below 0 x (omega arith)))) ∙ none_in_gap k xs i (gap_next k x xs i gap)

  pub one_of_two : (a b : Bool) (x y : Option X) (z : Option X) → (a ≡ true → b ≡ false) → cond a x (cond b y z) ≡ cond b y (cond a x z)
  one_of_two true true x y z never = absurd (true≢false (never refl))
  one_of_two true false x y z never = refl
  one_of_two false b x y z never = refl

  pub item_put : (q : K) (x : X) (xs : List X) (i : ℕ) → IsGap R key (key x) xs i → item_at R key q (insert xs i x) ≡ cond (is_eq (R q (key x))) (Some x) (item_at R key q xs)
  item_put q x xs zero gap = refl
  item_put q x [] (suc i) gap = refl
  item_put q x (y ∷ ys) (suc i) gap =
      ap (cond (is_eq (R q (key y))) (Some y)) (item_put q x ys i (gap_next (key x) y ys i gap))
      ∙ one_of_two (is_eq (R q (key y))) (is_eq (R q (key x))) (Some y) (Some x) (item_at R key q ys) (other (key y) (key x) (gap.below 0 y (omega arith)) q)

  pub item_set : (q k : K) (x : X) (xs : List X) (i : ℕ) → IsThere R key k xs i → key x ≡ k → item_at R key q (set xs i x) ≡ cond (is_eq (R q k)) (Some x) (item_at R key q xs)
  item_set q k x [] i there same = absurd (let w = there.within in omega (arith, w))
  item_set q k x (y ∷ ys) zero there same =
      ap (λ z. cond (is_eq (R q z)) (Some x) (item_at R key q ys)) same
      ∙ shadowed (is_eq (R q k)) (is_eq (R q (key y))) (ap (λ z. is_eq (R q z)) (sym (there.same y)))
    where
      shadowed : (a b : Bool) → a ≡ b → cond a (Some x) (item_at R key q ys) ≡ cond a (Some x) (cond b (Some y) (item_at R key q ys))
      shadowed true b e = refl
      shadowed false b e = ap (λ c. cond c (Some y) (item_at R key q ys)) e
  item_set q k x (y ∷ ys) (suc i) there same =
      ap (cond (is_eq (R q (key y))) (Some y)) (item_set q k x ys i (there_next k y ys i there) same)
      ∙ one_of_two (is_eq (R q (key y))) (is_eq (R q k)) (Some y) (Some x) (item_at R key q ys) (other (key y) k (there.below 0 y (omega arith)) q)

  pub item_left : (q k : K) (xs : List X) (i : ℕ) → IsThere R key k xs i → InOrder xs → item_at R key q (remove xs i) ≡ cond (is_eq (R q k)) None (item_at R key q xs)
  unfolding IsStrictlySortedBy
  item_left q k [] i there sorted = absurd (let w = there.within in omega (arith, w))
  item_left q k (y ∷ ys) zero there sorted =
      elim (is_eq (R q k)) as (λ b. is_eq (R q k) ≡ b → item_at R key q ys ≡ cond b None (cond (is_eq (R q (key y))) (Some y) (item_at R key q ys))) [
        | true ↦ λ t. none_over q ys (subst (λ z. AllByRecursion (λ u. R z u ≡ Less) (map key ys)) (there.same y ∙ sym (tied R exact q k _ refl t)) sorted.0)
        | false ↦ λ t. ap (λ b. cond b (Some y) (item_at R key q ys)) (sym (ap (λ z. is_eq (R q z)) (there.same y) ∙ t))
      ] refl
  item_left q k (y ∷ ys) (suc i) there sorted =
      ap (cond (is_eq (R q (key y))) (Some y)) (item_left q k ys i (there_next k y ys i there) sorted.1)
      ∙ one_of_two (is_eq (R q (key y))) (is_eq (R q k)) (Some y) None (item_at R key q ys) (other (key y) k (there.below 0 y (omega arith)) q)

  -- ---- what a filter leaves
  all_kept : (P : K → Type 0) (p : X → Bool) (xs : List X) → AllByRecursion P (map key xs) → AllByRecursion P (map key (filter p xs))
  all_kept P p [] all = tt
  all_kept P p (x ∷ xs) all =
      elim (p x) as (λ b. AllByRecursion P (map key (cond b (x ∷ filter p xs) (filter p xs)))) [ true ↦ (all.0, all_kept P p xs all.1) | false ↦ all_kept P p xs all.1 ]

  pub sorted_kept : (p : X → Bool) (xs : List X) → InOrder xs → InOrder (filter p xs)
  unfolding IsStrictlySortedBy
  sorted_kept p [] sorted = tt
  sorted_kept p (x ∷ xs) sorted =
      elim (p x) as (λ b. InOrder (cond b (x ∷ filter p xs) (filter p xs))) [ true ↦ (all_kept (λ y. R (key x) y ≡ Less) p xs sorted.0, sorted_kept p xs sorted.1) | false ↦ sorted_kept p xs sorted.1 ]

  pub item_kept : (p : X → Bool) (q : K) (xs : List X) → InOrder xs → item_at R key q (filter p xs) ≡ option_and_then (λ x. cond (p x) (Some x) None) (item_at R key q xs)
  unfolding IsStrictlySortedBy
  item_kept p q [] sorted = refl
  item_kept p q (x ∷ xs) sorted =
      let keep : X → Option X = λ y. cond (p y) (Some y) None in
      elim (is_eq (R q (key x))) as (λ t. is_eq (R q (key x)) ≡ t → item_at R key q (filter p (x ∷ xs)) ≡ option_and_then keep (cond t (Some x) (item_at R key q xs))) [
        | true ↦ λ e.
            let above = subst (λ z. AllByRecursion (λ y. R z y ≡ Less) (map key xs)) (sym (tied R exact q (key x) _ refl e)) sorted.0 in
            elim (p x) as (λ b. item_at R key q (cond b (x ∷ filter p xs) (filter p xs)) ≡ cond b (Some x) None) [
              | true ↦ ap (λ b. cond b (Some x) (item_at R key q (filter p xs))) e
              | false ↦ none_over q (filter p xs) (all_kept (λ y. R q y ≡ Less) p xs above)
            ]
        | false ↦ λ e.
            elim (p x) as (λ b. item_at R key q (cond b (x ∷ filter p xs) (filter p xs)) ≡ option_and_then keep (item_at R key q xs)) [
              | true ↦ ap (λ b. cond b (Some x) (item_at R key q (filter p xs))) e ∙ item_kept p q xs sorted.1
              | false ↦ item_kept p q xs sorted.1
            ]
      ] refl
