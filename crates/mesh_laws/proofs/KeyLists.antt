-- Lists whose items stand in the order of their keys: a look-up of a key, what a filter leaves, and when two are one.
use Rattle.std.proofs.Common.{◌≡◌, Bool, true, false, cond, T, List, [], ◌∷◌, map, find, filter_map, IfSome, Option, Some, None, option_and_then, is_eq, is_lt, refl, sym, ap, ◌∙◌, subst, Ordering, Less, Equal, Greater}
use Rattle.std.specs.Cmp.{IsTotalOrder}
use Rattle.std.specs.FinMap.Entries.{find as find_entry, is_sorted, below_all, same_entries}
use Rattle.std.specs.List.{AllByRecursion, cons_option}
use Rattle.std.specs.List.Sorted.{IsStrictlySortedBy}
use Rattle.std.proofs.lemmas.Bool.{and_from, false≢true}
use Rattle.std.proofs.lemmas.Map.Lookups.{CmpEqualImpliesEq}

-- what a search finds passes its test
pub found_passes : {X : Type 0} (p : X → Bool) (xs : List X) → IfSome (find p xs) (λ x. p x ≡ true)
found_passes p [] = tt
found_passes p (x ∷ xs) =
    elim (p x) as (λ b. p x ≡ b → IfSome (cond b (Some x) (find p xs)) (λ y. p y ≡ true)) [
      | true ↦ λ e. e
      | false ↦ λ e. found_passes p xs
    ] refl

-- keys that tie are equal
pub tied : {K : Type 0} (R : K → K → Ordering) → CmpEqualImpliesEq R → (x y : K) (r : Ordering) → R x y ≡ r → is_eq r ≡ true → x ≡ y
tied R exact x y Less e t = absurd (false≢true t)
tied R exact x y Equal e t = exact x y e
tied R exact x y Greater e t = absurd (false≢true t)

module _ {K : Type 0} (R : K → K → Ordering) where
  -- each key of a list is above k
  abbrev AreAbove : K → List K → Type 0
  AreAbove k ks = AllByRecursion (λ y. R k y ≡ Less) ks

  module _ {X : Type 0} (key : X → K) where
    -- the item at a key
    abbrev pub item_at : K → List X → Option X
    item_at q xs = find (λ x. is_eq (R q (key x))) xs

    -- no item is found at a key below them all
    none_above : (q : K) (xs : List X) → AreAbove q (map key xs) → item_at q xs ≡ None
    none_above q [] above = refl
    none_above q (x ∷ xs) above = ap (λ r. cond (is_eq r) (Some x) (item_at q xs)) above.0 ∙ none_above q xs above.1

  module _ {X Y : Type 0} (key : X → K) (key_after : Y → K) (f : X → Option Y) (keeps : (x : X) → IfSome (f x) (λ y. key_after y ≡ key x)) where
    above_filter : (k : K) (xs : List X) → AreAbove k (map key xs) → AreAbove k (map key_after (filter_map f xs))
    above_filter k [] above = tt
    above_filter k (x ∷ xs) above =
        elim (f x) as (λ r. IfSome r (λ y. key_after y ≡ key x) → AreAbove k (map key_after (cons_option r (filter_map f xs)))) [
          | None ↦ λ h. above_filter k xs above.1
          | Some y ↦ λ h. (subst (λ z. R k z ≡ Less) (sym h) above.0, above_filter k xs above.1)
        ] (keeps x)

    -- what a filter leaves stands in order
    pub sorted_filter : (xs : List X) → IsStrictlySortedBy R (map key xs) → IsStrictlySortedBy R (map key_after (filter_map f xs))
    unfolding IsStrictlySortedBy
    sorted_filter [] sorted = tt
    sorted_filter (x ∷ xs) sorted =
        elim (f x) as (λ r. IfSome r (λ y. key_after y ≡ key x) → IsStrictlySortedBy R (map key_after (cons_option r (filter_map f xs)))) [
          | None ↦ λ h. sorted_filter xs sorted.1
          | Some y ↦ λ h. (subst (λ z. AreAbove z (map key_after (filter_map f xs))) (sym h) (above_filter (key x) xs sorted.0), sorted_filter xs sorted.1)
        ] (keeps x)

    -- what a filter leaves at a key is what it makes of the item there
    pub item_at_filter : CmpEqualImpliesEq R → (q : K) (xs : List X) → IsStrictlySortedBy R (map key xs) → item_at key_after q (filter_map f xs) ≡ option_and_then f (item_at key q xs)
    unfolding IsStrictlySortedBy
    item_at_filter exact q [] sorted = refl
    item_at_filter exact q (x ∷ xs) sorted =
        elim (is_eq (R q (key x))) as (λ b. is_eq (R q (key x)) ≡ b → item_at key_after q (filter_map f (x ∷ xs)) ≡ option_and_then f (cond b (Some x) (item_at key q xs))) [
          | true ↦ λ t.
              let above : AreAbove q (map key xs) = subst (λ z. AreAbove z (map key xs)) (sym (tied R exact q (key x) _ refl t)) sorted.0 in
              elim (f x) as (λ r. IfSome r (λ y. key_after y ≡ key x) → item_at key_after q (cons_option r (filter_map f xs)) ≡ r) [
                | None ↦ λ h. item_at_filter exact q xs sorted.1 ∙ ap (option_and_then f) (none_above key q xs above)
                | Some y ↦ λ h. ap (λ z. cond (is_eq (R q z)) (Some y) (item_at key_after q (filter_map f xs))) h ∙ ap (λ b. cond b (Some y) (item_at key_after q (filter_map f xs))) t
              ] (keeps x)
          | false ↦ λ t.
              elim (f x) as (λ r. IfSome r (λ y. key_after y ≡ key x) → item_at key_after q (cons_option r (filter_map f xs)) ≡ option_and_then f (item_at key q xs)) [
                | None ↦ λ h. item_at_filter exact q xs sorted.1
                | Some y ↦ λ h. ap (λ z. cond (is_eq (R q z)) (Some y) (item_at key_after q (filter_map f xs))) h ∙ ap (λ b. cond b (Some y) (item_at key_after q (filter_map f xs))) t ∙ item_at_filter exact q xs sorted.1
              ] (keeps x)
        ] refl

  module _ {X : Type 0} (key : X → K) where
    pairs : List X → List (K × X)
    pairs xs = map (λ x. (key x, x)) xs

    items_of_pairs : (xs : List X) → map (λ (e : K × X). e.1) (pairs xs) ≡ xs
    unfolding pairs
    items_of_pairs [] = refl
    items_of_pairs (x ∷ xs) = ap (λ l. x ∷ l) (items_of_pairs xs)

    find_in_pairs : (q : K) (xs : List X) → find_entry R q (pairs xs) ≡ item_at key q xs
    unfolding pairs
    find_in_pairs q [] = refl
    find_in_pairs q (x ∷ xs) = ap (cond (is_eq (R q (key x))) (Some x)) (find_in_pairs q xs)

    below_pairs : (k : K) (xs : List X) → AreAbove k (map key xs) → below_all R k (pairs xs) ≡ true
    unfolding pairs
    below_pairs k [] above = refl
    below_pairs k (x ∷ xs) above = and_from _ _ (ap is_lt above.0) (below_pairs k xs above.1)

    sorted_pairs : (xs : List X) → IsStrictlySortedBy R (map key xs) → is_sorted R (pairs xs) ≡ true
    unfolding pairs IsStrictlySortedBy
    sorted_pairs [] sorted = refl
    sorted_pairs (x ∷ xs) sorted = and_from _ _ (below_pairs (key x) xs sorted.0) (sorted_pairs xs sorted.1)

    -- two lists in order with the same item at each key are one
    pub same_items : IsTotalOrder R → CmpEqualImpliesEq R → (xs ys : List X) → IsStrictlySortedBy R (map key xs) → IsStrictlySortedBy R (map key ys) → ((q : K) → item_at key q xs ≡ item_at key q ys) → xs ≡ ys
    same_items o exact xs ys sorted_xs sorted_ys same =
        let holds : (b : Bool) → b ≡ true → T b = λ b e. subst T (sym e) tt in
        let entries = same_entries R o exact (pairs xs) (pairs ys) (holds _ (sorted_pairs xs sorted_xs)) (holds _ (sorted_pairs ys sorted_ys)) (λ q. find_in_pairs q xs ∙ same q ∙ sym (find_in_pairs q ys)) in
        sym (items_of_pairs xs) ∙ ap (map (λ (e : K × X). e.1)) entries ∙ items_of_pairs ys
