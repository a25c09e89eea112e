-- Entries whose keys ascend: what an insertion, a filter and a removal leave of a look-up and of the
-- order, and which entries an insertion by hash into sorted ones leaves.
use Rattle.std.proofs.Common.{◌≡◌, ◌∙◌, refl, sym, ap, subst, get_or, ◌+◌, Ordering, Bool, T, true, false, cond, List, [], ◌∷◌, filter, Some, None, is_eq, is_lt, arith, Less, Equal, Greater}
use Rattle.std.proofs.Math.Path.{fun_ext}
use Rattle.std.specs.BTreeMap.{insert_entry}
use Rattle.std.specs.Cmp.{IsTotalOrder}
use Rattle.std.specs.FinMap.Entries.{same_entries, is_sorted, below_all, find as find_entry}
use Rattle.std.specs.List.{AllByRecursion, IsDistinct}
use Rattle.std.specs.List.Sorted.{IsStrictlySortedBy, IsSorted}
use Rattle.std.specs.Map.{keys_of, lookup, remove_entry}
use Rattle.std.specs.Ordering.{match_ordering, ordering_reverse, eq_by_cmp}
use Rattle.std.proofs.lemmas.Bool.{false≢true, and_from}
use Rattle.std.proofs.lemmas.Cmp.{eq_by_cmp_equiv}
use Rattle.std.proofs.lemmas.Map.{lookup-remove_entry}
use Rattle.std.proofs.lemmas.Map.Entries.{lookup-filter-values, option_filter}
use Rattle.std.proofs.lemmas.Map.Keys.{IsDistinct-from_sorted, apart_from_distinct, sorted_from_all_adjacent, Less-from_sorted}
use Rattle.std.proofs.lemmas.Map.Lookups.{CmpEqualImpliesEq}
use Rattle.mesh_laws.proofs.KeyLists.{tied}

cond_again : {X : Type 0} (b : Bool) (x y z : X) → cond b x z ≡ cond b x (cond b y z)
cond_again true x y z = refl
cond_again false x y z = refl

module _ {K : Type 0} {R : K → K → Ordering} (o : IsTotalOrder R) (exact : CmpEqualImpliesEq R) where
  tied_keys : (x y : K) → eq_by_cmp R x y ≡ true → x ≡ y
  tied_keys x y t = tied R exact x y (R x y) refl t

  pub swap_test : (x y : K) → eq_by_cmp R x y ≡ eq_by_cmp R y x
  swap_test x y = (eq_by_cmp_equiv o).symm x y

  apart : (q k j : K) → R k j ≡ Greater → eq_by_cmp R q j ≡ true → eq_by_cmp R q k ≡ false
  apart q k j t h = swap_test q k ∙ ap (λ z. is_eq (R k z)) (tied_keys q j h) ∙ ap is_eq t

  less_from : (x y : K) → is_lt (R y x) ≡ false → eq_by_cmp R x y ≡ false → R x y ≡ Less
  less_from x y h a = elim (R x y) as (λ r. R x y ≡ r → r ≡ Less) [
    | Less ↦ λ t. refl
    | Equal ↦ λ t. let f : true ≡ false = sym (ap is_eq t) ∙ a in absurd (false≢true (sym f))
    | Greater ↦ λ t. let f : true ≡ false = sym (ap is_lt (o.antisymm y x ∙ ap ordering_reverse t)) ∙ h in absurd (false≢true (sym f))
  ] refl

module _ {K X : Type 0} {R : K → K → Ordering} (o : IsTotalOrder R) (exact : CmpEqualImpliesEq R) where
  abbrev Above : K → List (K × X) → Type 0
  Above k es = AllByRecursion (λ y. R k y ≡ Less) (keys_of es)

  abbrev pub Ascend : List (K × X) → Type 0
  Ascend es = IsStrictlySortedBy R (keys_of es)

  -- ---- the order
  above_less : (k j : K) (es : List (K × X)) → R k j ≡ Less → Above j es → Above k es
  above_less k j [] t h = tt
  above_less k j (e ∷ es) t h = (o.trans k j e.0 t h.0, above_less k j es t h.1)

  above_inserted : (j : K) (es : List (K × X)) (k : K) (v : X) → R j k ≡ Less → Above j es → Above j (insert_entry R es k v)
  above_inserted j [] k v p h = (p, tt)
  above_inserted j (e ∷ es) k v p h = elim (R k e.0) as (λ r. Above j (match_ordering r ((k, v) ∷ e ∷ es) ((e.0, v) ∷ es) (e ∷ insert_entry R es k v))) [
    | Less ↦ (p, h)
    | Equal ↦ h
    | Greater ↦ (h.0, above_inserted j es k v p h.1)
  ]

  pub ascend_inserted : (es : List (K × X)) (k : K) (v : X) → Ascend es → Ascend (insert_entry R es k v)
  unfolding IsStrictlySortedBy
  ascend_inserted [] k v s = (tt, tt)
  ascend_inserted (e ∷ es) k v s = elim (R k e.0) as (λ r. R k e.0 ≡ r → Ascend (match_ordering r ((k, v) ∷ e ∷ es) ((e.0, v) ∷ es) (e ∷ insert_entry R es k v))) [
    | Less ↦ λ t. ((t, above_less k e.0 es t s.0), s)
    | Equal ↦ λ t. s
    | Greater ↦ λ t. (above_inserted e.0 es k v (o.antisymm e.0 k ∙ ap ordering_reverse t) s.0, ascend_inserted es k v s.1)
  ] refl

  above_filtered : (j : K) (p : K × X → Bool) (es : List (K × X)) → Above j es → Above j (filter p es)
  above_filtered j p [] h = tt
  above_filtered j p (e ∷ es) h = elim (p e) as (λ b. Above j (cond b (e ∷ filter p es) (filter p es))) [
    | true ↦ (h.0, above_filtered j p es h.1)
    | false ↦ above_filtered j p es h.1
  ]

  pub ascend_filtered : (p : K × X → Bool) (es : List (K × X)) → Ascend es → Ascend (filter p es)
  unfolding IsStrictlySortedBy
  ascend_filtered p [] s = tt
  ascend_filtered p (e ∷ es) s = elim (p e) as (λ b. Ascend (cond b (e ∷ filter p es) (filter p es))) [
    | true ↦ (above_filtered e.0 p es s.0, ascend_filtered p es s.1)
    | false ↦ ascend_filtered p es s.1
  ]

  above_removed : (j : K) (test : K → Bool) (es : List (K × X)) → Above j es → Above j (remove_entry test es)
  above_removed j test [] h = tt
  above_removed j test (e ∷ es) h = elim (test e.0) as (λ b. Above j (cond b es (e ∷ remove_entry test es))) [
    | true ↦ h.1
    | false ↦ (h.0, above_removed j test es h.1)
  ]

  pub ascend_removed : (test : K → Bool) (es : List (K × X)) → Ascend es → Ascend (remove_entry test es)
  unfolding IsStrictlySortedBy
  ascend_removed test [] s = tt
  ascend_removed test (e ∷ es) s = elim (test e.0) as (λ b. Ascend (cond b es (e ∷ remove_entry test es))) [
    | true ↦ s.1
    | false ↦ (above_removed e.0 test es s.0, ascend_removed test es s.1)
  ]

  -- ---- look-ups
  distinct : (es : List (K × X)) → Ascend es → IsDistinct (eq_by_cmp R) (keys_of es)
  distinct es s = IsDistinct-from_sorted R (keys_of es) s

  found_at : (q : K) (es : List (K × X)) (k : K) (v : X) → lookup (eq_by_cmp R q) (insert_entry R es k v) ≡ cond (eq_by_cmp R q k) (Some v) (lookup (eq_by_cmp R q) es)
  found_at q [] k v = refl
  found_at q (e ∷ es) k v = elim (R k e.0) as (λ r. R k e.0 ≡ r → lookup (eq_by_cmp R q) (match_ordering r ((k, v) ∷ e ∷ es) ((e.0, v) ∷ es) (e ∷ insert_entry R es k v)) ≡ cond (eq_by_cmp R q k) (Some v) (cond (eq_by_cmp R q e.0) (Some e.1) (lookup (eq_by_cmp R q) es))) [
    | Less ↦ λ t. refl
    | Equal ↦ λ t. subst (λ z. cond (eq_by_cmp R q e.0) (Some v) (lookup (eq_by_cmp R q) es) ≡ cond (eq_by_cmp R q z) (Some v) (cond (eq_by_cmp R q e.0) (Some e.1) (lookup (eq_by_cmp R q) es))) (sym (exact k e.0 t)) (cond_again (eq_by_cmp R q e.0) (Some v) (Some e.1) (lookup (eq_by_cmp R q) es))
    | Greater ↦ λ t. elim (eq_by_cmp R q e.0) as (λ b. eq_by_cmp R q e.0 ≡ b → cond b (Some e.1) (lookup (eq_by_cmp R q) (insert_entry R es k v)) ≡ cond (eq_by_cmp R q k) (Some v) (cond b (Some e.1) (lookup (eq_by_cmp R q) es))) [
      | true ↦ λ h. ap (λ b. cond b (Some v) (Some e.1)) (sym (apart o exact q k e.0 t h))
      | false ↦ λ h. found_at q es k v
    ] refl
  ] refl

  -- what a key finds after an insertion
  pub found_inserted : (q : K) (es : List (K × X)) (k : K) (v : X) → lookup (eq_by_cmp R q) (insert_entry R es k v) ≡ cond (eq_by_cmp R k q) (Some v) (lookup (eq_by_cmp R q) es)
  found_inserted q es k v = found_at q es k v ∙ ap (λ b. cond b (Some v) (lookup (eq_by_cmp R q) es)) (swap_test o exact q k)

  -- what a key finds among the entries whose values pass
  pub found_filtered : (p : X → Bool) (q : K) (es : List (K × X)) → Ascend es → lookup (eq_by_cmp R q) (filter (λ e. p e.1) es) ≡ option_filter p (lookup (eq_by_cmp R q) es)
  found_filtered p q es s = lookup-filter-values (eq_by_cmp_equiv o) p q es (distinct es s)

  -- what a key finds after a removal
  pub found_removed : (q k : K) (es : List (K × X)) → Ascend es → lookup (eq_by_cmp R q) (remove_entry (eq_by_cmp R k) es) ≡ cond (eq_by_cmp R k q) None (lookup (eq_by_cmp R q) es)
  found_removed q k es s = lookup-remove_entry (eq_by_cmp_equiv o) (eq_by_cmp R k) (λ x y h. (eq_by_cmp_equiv o).congr k x y h) q es (distinct es s)

  -- ---- entries that are kept in order by a table that tells keys apart by `same`
  ascend_from : (es : List (K × X)) → IsSorted R (keys_of es) → IsDistinct (eq_by_cmp R) (keys_of es) → Ascend es
  unfolding IsStrictlySortedBy
  ascend_from [] s d = tt
  ascend_from (e ∷ es) s d = sorted_from_all_adjacent o (keys_of (e ∷ es)) e.0 (λ k lt. less_from o exact _ _ (s k e.0 (omega arith) lt) (apart_from_distinct (eq_by_cmp R) (keys_of (e ∷ es)) k (k + 1) e.0 d (omega arith) lt))

  -- keys that ascend are sorted
  pub sorted_from : (es : List (K × X)) → Ascend es → IsSorted R (keys_of es)
  sorted_from es s = λ k d low lt. ap is_lt (o.antisymm (get_or (keys_of es) (k + 1) d) (get_or (keys_of es) k d) ∙ ap ordering_reverse (Less-from_sorted R (keys_of es) k (k + 1) d s (omega arith) lt))

  below_from : (j : K) (es : List (K × X)) → Above j es → below_all R j es ≡ true
  below_from j [] h = refl
  below_from j (e ∷ es) h = and_from _ _ (ap is_lt h.0) (below_from j es h.1)

  is_sorted_from : (es : List (K × X)) → Ascend es → is_sorted R es ≡ true
  unfolding IsStrictlySortedBy
  is_sorted_from [] s = refl
  is_sorted_from (e ∷ es) s = and_from _ _ (below_from e.0 es s.0) (is_sorted_from es s.1)

  found_is : (q : K) (es : List (K × X)) → find_entry R q es ≡ lookup (eq_by_cmp R q) es
  found_is q [] = refl
  found_is q (e ∷ es) = ap (cond (eq_by_cmp R q e.0) (Some e.1)) (found_is q es)

  -- ascending entries that find alike are one
  pub same_from : (es fs : List (K × X)) → Ascend es → Ascend fs → ((q : K) → lookup (eq_by_cmp R q) es ≡ lookup (eq_by_cmp R q) fs) → es ≡ fs
  same_from es fs s t h =
      let holds : (b : Bool) → b ≡ true → T b = λ b e. subst T (sym e) tt in
      same_entries R o exact es fs (holds _ (is_sorted_from es s)) (holds _ (is_sorted_from fs t)) (λ q. found_is q es ∙ h q ∙ sym (found_is q fs))

  -- what a sorted insertion leaves
  pub inserted : (same : K → K → Bool) → ((x y : K) → same x y ≡ eq_by_cmp R x y) → (es after : List (K × X)) (k : K) (v : X) → Ascend es → IsSorted R (keys_of after) → IsDistinct same (keys_of after)
      → ((q : K) → lookup (same q) after ≡ cond (same k q) (Some v) (lookup (same q) es)) → after ≡ insert_entry R es k v
  inserted same is es after k v s sorted once updates =
      let alike : same ≡ eq_by_cmp R = fun_ext (λ x. fun_ext (λ y. is x y)) in
      let updated : (q : K) → lookup (eq_by_cmp R q) after ≡ cond (eq_by_cmp R k q) (Some v) (lookup (eq_by_cmp R q) es)
      = subst (λ (f : K → K → Bool). (q : K) → lookup (f q) after ≡ cond (f k q) (Some v) (lookup (f q) es)) alike updates in
      same_from after (insert_entry R es k v) (ascend_from after sorted (subst (λ f. IsDistinct f (keys_of after)) alike once)) (ascend_inserted es k v s)
      (λ q. updated q ∙ sym (found_inserted q es k v))
