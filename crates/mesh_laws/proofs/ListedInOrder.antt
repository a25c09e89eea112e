-- Values that are listed in an order, each once: they ascend, they are those that were given, and
-- the rows of a table that is kept in the order of its keys are those of the listed keys.
use Rattle.std.proofs.Common.{◌≡◌, Bool, true, false, cond, ◌||◌, List, [], ◌∷◌, map, filter_map, IfSome, Option, Some, None, option_and_then, is_eq, refl, sym, ap, ◌∙◌, subst, map-id, Ordering, Less, Equal, Greater}
use Rattle.std.specs.Bool.{Decides}
use Rattle.std.specs.Cmp.{IsTotalOrder}
use Rattle.std.specs.List.{AllByRecursion, list_any}
use Rattle.std.specs.List.Sorted.{IsStrictlySortedBy}
use Rattle.std.specs.Map.{keys_of, lookup}
use Rattle.std.specs.Ordering.{eq_by_cmp, match_ordering, ordering_reverse}
use Rattle.std.proofs.lemmas.Cmp.{tied_itself}
use Rattle.std.proofs.lemmas.Map.Lookups.{CmpEqualImpliesEq}
use Rattle.std.proofs.lemmas.Map.Made.{find_same}
use Rattle.mesh_base.specs.Ordered.{in_order, placed}
use Rattle.mesh_laws.proofs.KeyLists.{item_at, item_at_filter, same_items, sorted_filter, tied}

twice : (a b : Bool) → (a || b) ≡ (a || (a || b))
twice true b = refl
twice false b = refl

swapped : (a b c : Bool) → (a || (b || c)) ≡ (b || (a || c))
swapped true true c = refl
swapped true false c = refl
swapped false b c = refl

module _ {A : Type 0} {R : A → A → Ordering} (o : IsTotalOrder R) (exact : CmpEqualImpliesEq R) where
  abbrev AreAbove : A → List A → Type 0
  AreAbove low values = AllByRecursion (λ y. R low y ≡ Less) values

  -- ---- the order
  above_placed : (low value : A) (values : List A) → R low value ≡ Less → AreAbove low values → AreAbove low (placed R value values)
  above_placed low value [] below above = (below, tt)
  above_placed low value (first ∷ rest) below above =
      elim (R value first) as (λ r. AreAbove low (match_ordering r (value ∷ first ∷ rest) (first ∷ rest) (first ∷ placed R value rest))) [
        | Less ↦ (below, above)
        | Equal ↦ above
        | Greater ↦ (above.0, above_placed low value rest below above.1)
      ]

  above_first : (value first : A) (rest : List A) → R value first ≡ Less → AreAbove first rest → AreAbove value rest
  above_first value first [] below above = tt
  above_first value first (y ∷ rest) below above = (o.trans value first y below above.0, above_first value first rest below above.1)

  pub sorted_placed : (value : A) (values : List A) → IsStrictlySortedBy R values → IsStrictlySortedBy R (placed R value values)
  unfolding IsStrictlySortedBy
  sorted_placed value [] sorted = (tt, tt)
  sorted_placed value (first ∷ rest) sorted =
      elim (R value first) as (λ r. R value first ≡ r → IsStrictlySortedBy R (match_ordering r (value ∷ first ∷ rest) (first ∷ rest) (first ∷ placed R value rest))) [
        | Less ↦ λ p. ((p, above_first value first rest p sorted.0), sorted)
        | Equal ↦ λ p. sorted
        | Greater ↦ λ p. (above_placed first value rest (o.antisymm first value ∙ ap ordering_reverse p) sorted.0, sorted_placed value rest sorted.1)
      ] refl

  -- the values ascend
  pub sorted_in_order : (values : List A) → IsStrictlySortedBy R (in_order R values)
  unfolding IsStrictlySortedBy
  sorted_in_order [] = tt
  sorted_in_order (value ∷ rest) = sorted_placed value (in_order R rest) (sorted_in_order rest)

  -- ---- which they are
  pub has_placed : (q value : A) (values : List A) → list_any (eq_by_cmp R q) (placed R value values) ≡ (eq_by_cmp R q value || list_any (eq_by_cmp R q) values)
  has_placed q value [] = refl
  has_placed q value (first ∷ rest) =
      elim (R value first) as (λ r. R value first ≡ r → list_any (eq_by_cmp R q) (match_ordering r (value ∷ first ∷ rest) (first ∷ rest) (first ∷ placed R value rest)) ≡ (eq_by_cmp R q value || list_any (eq_by_cmp R q) (first ∷ rest))) [
        | Less ↦ λ p. refl
        | Equal ↦ λ p. twice (eq_by_cmp R q first) (list_any (eq_by_cmp R q) rest) ∙ ap (λ z. eq_by_cmp R q z || list_any (eq_by_cmp R q) (first ∷ rest)) (sym (exact value first p))
        | Greater ↦ λ p. ap (λ b. eq_by_cmp R q first || b) (has_placed q value rest) ∙ swapped (eq_by_cmp R q first) (eq_by_cmp R q value) (list_any (eq_by_cmp R q) rest)
      ] refl

  -- a value is among them where it was given
  pub has_in_order : (q : A) (values : List A) → list_any (eq_by_cmp R q) (in_order R values) ≡ list_any (eq_by_cmp R q) values
  has_in_order q [] = refl
  has_in_order q (value ∷ rest) = has_placed q value (in_order R rest) ∙ ap (λ b. eq_by_cmp R q value || b) (has_in_order q rest)

  same_decides : (a b : A) → Decides (eq_by_cmp R a b) (a ≡ b)
  same_decides a b = (λ t. tied R exact a b _ refl t, λ e. subst (λ k. eq_by_cmp R a k ≡ true) e (ap is_eq (tied_itself o a)))

  -- ---- what is made of them
  module _ {X : Type 0} (key : X → A) (row : A → Option X) (keeps : (q : A) → IfSome (row q) (λ x. key x ≡ q)) where
    where_given : (values : List A) → ((q : A) → list_any (eq_by_cmp R q) values ≡ false → row q ≡ None) → (q : A)
        → option_and_then row (cond (list_any (eq_by_cmp R q) values) (Some q) None) ≡ row q
    where_given values none q =
        elim (list_any (eq_by_cmp R q) values) as (λ b. list_any (eq_by_cmp R q) values ≡ b → option_and_then row (cond b (Some q) None) ≡ row q) [
          | true ↦ λ e. refl
          | false ↦ λ e. sym (none q e)
        ] refl

    -- the row at a value is that of the value
    pub row_at_value : (values : List A) → ((q : A) → list_any (eq_by_cmp R q) values ≡ false → row q ≡ None) → (q : A) → item_at R key q (filter_map row (in_order R values)) ≡ row q
    row_at_value values none q =
        item_at_filter R (λ (a : A). a) key row keeps exact q (in_order R values) (subst (IsStrictlySortedBy R) (sym (map-id _)) (sorted_in_order values))
        ∙ ap (option_and_then row) (find_same same_decides q (in_order R values) ∙ ap (λ b. cond b (Some q) None) (has_in_order q values))
        ∙ where_given values none q

    -- rows that ascend and are those of each value are made of the values in order
    pub rows_in_order : (values : List A) → ((q : A) → list_any (eq_by_cmp R q) values ≡ false → row q ≡ None) → (xs : List X) → IsStrictlySortedBy R (map key xs)
        → ((q : A) → item_at R key q xs ≡ row q) → xs ≡ filter_map row (in_order R values)
    rows_in_order values none xs sorted same =
        same_items R key o exact xs (filter_map row (in_order R values)) sorted
        (sorted_filter R (λ (a : A). a) key row keeps (in_order R values) (subst (IsStrictlySortedBy R) (sym (map-id _)) (sorted_in_order values)))
        (λ q. same q ∙ sym (row_at_value values none q))

  -- ---- the rows of a table
  module _ {V X : Type 0} (key : X → A) (row : A → V → Option X) (keeps : (q : A) (value : V) → IfSome (row q value) (λ x. key x ≡ q)) where
    row_of_item : (q : A) (entries : List (A × V)) → option_and_then (λ (e : A × V). row e.0 e.1) (item_at R (λ (e : A × V). e.0) q entries) ≡ option_and_then (row q) (lookup (eq_by_cmp R q) entries)
    row_of_item q [] = refl
    row_of_item q (e ∷ es) =
        elim (eq_by_cmp R q e.0) as (λ b. eq_by_cmp R q e.0 ≡ b → option_and_then (λ (d : A × V). row d.0 d.1) (cond b (Some e) (item_at R (λ (d : A × V). d.0) q es)) ≡ option_and_then (row q) (cond b (Some e.1) (lookup (eq_by_cmp R q) es))) [
          | true ↦ λ t. ap (λ k. row k e.1) (sym (tied R exact q e.0 _ refl t))
          | false ↦ λ t. row_of_item q es
        ] refl

    keeps_found : (q : A) (found : Option V) → IfSome (option_and_then (row q) found) (λ x. key x ≡ q)
    keeps_found q None = tt
    keeps_found q (Some value) = keeps q value

    -- the rows of a table whose keys ascend are those of the keys that were given, in order
    pub table_rows : (values : List A) (entries : List (A × V)) → IsStrictlySortedBy R (keys_of entries)
        → ((q : A) → list_any (eq_by_cmp R q) values ≡ false → lookup (eq_by_cmp R q) entries ≡ None)
        → filter_map (λ (e : A × V). row e.0 e.1) entries ≡ filter_map (λ q. option_and_then (row q) (lookup (eq_by_cmp R q) entries)) (in_order R values)
    table_rows values entries rise none =
        rows_in_order key (λ q. option_and_then (row q) (lookup (eq_by_cmp R q) entries)) (λ q. keeps_found q (lookup (eq_by_cmp R q) entries)) values
        (λ q absent. ap (option_and_then (row q)) (none q absent))
        (filter_map (λ (e : A × V). row e.0 e.1) entries)
        (sorted_filter R (λ (e : A × V). e.0) key (λ (e : A × V). row e.0 e.1) (λ e. keeps e.0 e.1) entries rise)
        (λ q. item_at_filter R (λ (e : A × V). e.0) key (λ (e : A × V). row e.0 e.1) (λ e. keeps e.0 e.1) exact q entries rise ∙ row_of_item q entries)
