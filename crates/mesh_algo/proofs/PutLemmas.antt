-- The rows of pairs without those of an originator, and with one more.
use Rattle.std.proofs.Common.{◌≡◌, ⊎_elim, Bool, true, false, cond, not, ◌&&◌, List, [], ◌∷◌, filter, is_some, is_none, Option, Some, None, refl, sym, ap, ◌∙◌, Less}
use Rattle.std.specs.List.{AllByRecursion}
use Rattle.std.specs.List.Sorted.{IsStrictlySortedBy}
use Rattle.std.specs.Map.{keys_of, lookup}
use Rattle.std.proofs.lemmas.Bool.{cases_Bool, not-false, not-true}
use Rattle.mesh_base.specs.declared.address.Mac.{Mac}
use Rattle.mesh_model.specs.Routes.Addresses.{same_mac}
use Rattle.mesh_laws.proofs.MacLemmas.{same_exact, same_equiv}
use Rattle.mesh_algo.specs.declared.life.Life.{Life}
use Rattle.mesh_algo.specs.declared.pair.Pair.{Pair}
use Rattle.mesh_algo.specs.Pairs.{pair_order, path_put, same_pair, rows_kept}

abbrev is_other : {X : Type 0} → Mac → Pair × X → Bool
is_other orig e = not (same_mac e.0.orig orig)

above_kept : {X : Type 0} (orig : Mac) (k : Pair) (rows : List (Pair × X)) → AllByRecursion (λ y. pair_order k y ≡ Less) (keys_of rows) → AllByRecursion (λ y. pair_order k y ≡ Less) (keys_of (filter (is_other orig) rows))
above_kept orig k [] above = tt
above_kept orig k (e ∷ rows) above =
    elim (is_other orig e) as (λ b. AllByRecursion (λ y. pair_order k y ≡ Less) (keys_of (cond b (e ∷ filter (is_other orig) rows) (filter (is_other orig) rows)))) [
      | true ↦ (above.0, above_kept orig k rows above.1)
      | false ↦ above_kept orig k rows above.1
    ]

sorted_filter : {X : Type 0} (orig : Mac) (rows : List (Pair × X)) → IsStrictlySortedBy pair_order (keys_of rows) → IsStrictlySortedBy pair_order (keys_of (filter (is_other orig) rows))
unfolding IsStrictlySortedBy
sorted_filter orig [] sorted = tt
sorted_filter orig (e ∷ rows) sorted =
    elim (is_other orig e) as (λ b. IsStrictlySortedBy pair_order (keys_of (cond b (e ∷ filter (is_other orig) rows) (filter (is_other orig) rows)))) [
      | true ↦ (above_kept orig e.0 rows sorted.0, sorted_filter orig rows sorted.1)
      | false ↦ sorted_filter orig rows sorted.1
    ]

-- the rows that are kept stand in order
pub kept_sorted : {X : Type 0} (begins : Bool) (orig : Mac) (rows : List (Pair × X)) → IsStrictlySortedBy pair_order (keys_of rows) → IsStrictlySortedBy pair_order (keys_of (rows_kept begins orig rows))
kept_sorted true orig rows sorted = sorted_filter orig rows sorted
kept_sorted false orig rows sorted = sorted

module _ {X : Type 0} (orig : Mac) (pair : Pair) where
  found_step : (e : Pair × X) (rows : List (Pair × X)) (x p : Bool) → same_mac e.0.orig orig ≡ x → same_mac pair.orig orig ≡ p
      → lookup (same_pair pair) (filter (is_other orig) rows) ≡ cond p None (lookup (same_pair pair) rows)
      → lookup (same_pair pair) (cond (not x) (e ∷ filter (is_other orig) rows) (filter (is_other orig) rows)) ≡ cond p None (lookup (same_pair pair) (e ∷ rows))
  found_step e rows true true at here h = h
  found_step e rows true false at here h =
      h ∙ sym (ap (λ b. cond (b && same_mac pair.from e.0.from) (Some e.1) (lookup (same_pair pair) rows)) (ap (λ o. same_mac pair.orig o) (same_exact e.0.orig orig at) ∙ here))
  found_step e rows false true at here h =
      ap (λ b. cond (b && same_mac pair.from e.0.from) (Some e.1) (lookup (same_pair pair) (filter (is_other orig) rows)))
      (ap (λ o. same_mac o e.0.orig) (same_exact pair.orig orig here) ∙ same_equiv.symm orig e.0.orig ∙ at) ∙ h
  found_step e rows false false at here h = ap (λ r. cond (same_pair pair e.0) (Some e.1) r) h

  -- the originator has no row, and each other row stands
  pub lookup_filter : (rows : List (Pair × X)) → lookup (same_pair pair) (filter (is_other orig) rows) ≡ cond (same_mac pair.orig orig) None (lookup (same_pair pair) rows)
  lookup_filter [] =
      let none : List (Pair × X) = [] in
      elim (same_mac pair.orig orig) as (λ b. lookup (same_pair pair) none ≡ cond b None (lookup (same_pair pair) none)) [ true ↦ refl | false ↦ refl ]
  lookup_filter (e ∷ rows) = found_step e rows (same_mac e.0.orig orig) (same_mac pair.orig orig) refl refl (lookup_filter rows)

  -- the row of another originator is kept
  pub kept_other : (begins : Bool) (rows : List (Pair × X)) → same_mac pair.orig orig ≡ false → lookup (same_pair pair) (rows_kept begins orig rows) ≡ lookup (same_pair pair) rows
  kept_other true rows other = lookup_filter rows ∙ ap (λ b. cond b None (lookup (same_pair pair) rows)) other
  kept_other false rows other = refl

  -- a row of the originator goes where a life begins
  pub kept_own : (rows : List (Pair × X)) → same_mac pair.orig orig ≡ true → lookup (same_pair pair) (rows_kept true orig rows) ≡ None
  kept_own rows own = lookup_filter rows ∙ ap (λ b. cond b None (lookup (same_pair pair) rows)) own

-- ---- a row that is put among those that are kept
module _ {X : Type 0} (put : Pair) (row : X) (begins : Bool) (old new : List (Pair × X)) (are : (pair : Pair) → lookup (same_pair pair) new ≡ path_put put row (rows_kept begins put.orig old) pair) where
  abbrev kept : Pair → Option X
  kept pair = lookup (same_pair pair) (rows_kept begins put.orig old)

  by_from : (pair : Pair) (b : Bool) → same_mac put.orig pair.orig ≡ b → lookup (same_pair pair) new ≡ cond (b && same_mac put.from pair.from) (Some row) (kept pair)
  by_from pair b t = are pair ∙ ap (λ x. cond (x && same_mac put.from pair.from) (Some row) (kept pair)) t

  -- the originator's rows are it and those kept
  pub put_own : (row_then : Option X) (pair : Pair) → same_mac put.orig pair.orig ≡ true → (same_mac put.from pair.from ≡ true → Some row ≡ row_then)
      → (same_mac put.from pair.from ≡ false → kept pair ≡ row_then) → lookup (same_pair pair) new ≡ row_then
  put_own row_then pair t own other =
      by_from pair true t
      ∙ ⊎_elim (λ s. ap (λ b. cond b (Some row) (kept pair)) s ∙ own s) (λ s. ap (λ b. cond b (Some row) (kept pair)) s ∙ other s) (cases_Bool (same_mac put.from pair.from))

  -- the rows of another originator stay
  pub put_other : (pair : Pair) → same_mac put.orig pair.orig ≡ false → lookup (same_pair pair) new ≡ lookup (same_pair pair) old
  put_other pair t = by_from pair false t ∙ kept_other put.orig pair begins old (same_equiv.symm pair.orig put.orig ∙ t)

-- the test that an option has nothing
pub none_test : (life : Option Life) (r : Bool) → is_some life ≡ not r → r ≡ is_none life
none_test None r e = not-false r (sym e)
none_test (Some row) r e = not-true r (sym e)
