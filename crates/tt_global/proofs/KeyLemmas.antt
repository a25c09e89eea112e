-- The keys of what is kept, as it is written, and what a place of it says.
use Rattle.std.proofs.Common.{◌≡◌, ◌↔◌, ◌≤◌, ℕ, Bool, true, false, not, cond, List, [], ◌∷◌, filter, length, slice_get, IsNone, IsSome, Option, Some, is_eq, refl, sym, ap, ◌∙◌, subst, arith, Less, Equal, Greater}
use Rattle.std.specs.BTreeMap.{insert_entry}
use Rattle.std.specs.List.{AllByRecursion}
use Rattle.std.specs.List.Sorted.{IsStrictlySortedBy}
use Rattle.std.specs.Map.{keys_of, lookup, remove_entry}
use Rattle.std.specs.Ordering.{match_ordering, ordering_reverse}
use Rattle.std.proofs.lemmas.Bool.{false≢true}
use Rattle.std.proofs.lemmas.Grind.{common_steps}
use Rattle.std.proofs.lemmas.Option.{gets}
use Rattle.mesh_base.specs.declared.address.Mac.{Mac}
use Rattle.mesh_model.specs.Routes.Addresses.{insert_mac, mac_order, same_mac}
use Rattle.mesh_laws.proofs.MacLemmas.{mac_total, same_by_order, same_equiv, same_exact, other_by_order}

module _ {X : Type 0} where
  -- an inserted key stands in order
  pub keys_inserted : (es : List (Mac × X)) (k : Mac) (v : X) → keys_of (insert_entry mac_order es k v) ≡ insert_mac k (keys_of es)
  keys_inserted [] k v = refl
  keys_inserted (e ∷ es) k v = elim (mac_order k e.0) as (λ r. keys_of (match_ordering r ((k, v) ∷ e ∷ es) ((e.0, v) ∷ es) (e ∷ insert_entry mac_order es k v)) ≡ match_ordering r (k ∷ e.0 ∷ keys_of es) (e.0 ∷ keys_of es) (e.0 ∷ insert_mac k (keys_of es))) [
    | Less ↦ refl
    | Equal ↦ refl
    | Greater ↦ ap (λ ks. e.0 ∷ ks) (keys_inserted es k v)
  ]

  abbrev Above : Mac → List (Mac × X) → Type 0
  Above k es = AllByRecursion (λ y. mac_order k y ≡ Less) (keys_of es)

  -- a key that is found stands above those below
  above_found : (k q : Mac) (es : List (Mac × X)) → Above k es → IsSome (lookup (same_mac q) es) → mac_order k q ≡ Less
  above_found k q [] above found = absurd (false≢true found)
  above_found k q (e ∷ es) above found = go (same_mac q e.0) refl found (above_found k q es above.1)
    where
      go : (b : Bool) → same_mac q e.0 ≡ b → IsSome (cond b (Some e.1) (lookup (same_mac q) es)) → (IsSome (lookup (same_mac q) es) → mac_order k q ≡ Less) → mac_order k q ≡ Less
      go true t found rest = subst (λ z. mac_order k z ≡ Less) (sym (same_exact q e.0 t)) above.0
      go false t found rest = rest found

  -- a key that is found is there once
  pub key_again : (q : Mac) (es : List (Mac × X)) → IsStrictlySortedBy mac_order (keys_of es) → IsSome (lookup (same_mac q) es) → insert_mac q (keys_of es) ≡ keys_of es
  unfolding IsStrictlySortedBy
  key_again q [] rise found = absurd (false≢true found)
  key_again q (e ∷ es) rise found = go (same_mac q e.0) refl found (key_again q es rise.1)
    where
      go : (b : Bool) → same_mac q e.0 ≡ b → IsSome (cond b (Some e.1) (lookup (same_mac q) es)) → (IsSome (lookup (same_mac q) es) → insert_mac q (keys_of es) ≡ keys_of es) → insert_mac q (e.0 ∷ keys_of es) ≡ e.0 ∷ keys_of es
      go true t found rest =
          ap (λ r. match_ordering r (q ∷ e.0 ∷ keys_of es) (e.0 ∷ keys_of es) (e.0 ∷ insert_mac q (keys_of es)))
          (elim (mac_order q e.0) as (λ r. is_eq r ≡ true → r ≡ Equal) [ Less ↦ λ h. absurd (false≢true h) | Equal ↦ λ h. refl | Greater ↦ λ h. absurd (false≢true h) ] (same_by_order q e.0 ∙ t))
      go false t found rest =
          ap (λ r. match_ordering r (q ∷ e.0 ∷ keys_of es) (e.0 ∷ keys_of es) (e.0 ∷ insert_mac q (keys_of es)))
          (mac_total.antisymm q e.0 ∙ ap ordering_reverse (above_found e.0 q es rise.0 found))
          ∙ ap (λ ks. e.0 ∷ ks) (rest found)

  -- ---- a key that goes
  none_same : (k : Mac) (es : List (Mac × X)) → Above k es → filter (λ other. not (same_mac k other)) (keys_of es) ≡ keys_of es
  none_same k [] above = refl
  none_same k (e ∷ es) above =
      ap (λ b. cond (not b) (e.0 ∷ filter (λ other. not (same_mac k other)) (keys_of es)) (filter (λ other. not (same_mac k other)) (keys_of es)))
      (same_equiv.symm k e.0 ∙ other_by_order k e.0 above.0)
      ∙ ap (λ ks. e.0 ∷ ks) (none_same k es above.1)

  pub keys_removed : (k : Mac) (es : List (Mac × X)) → IsStrictlySortedBy mac_order (keys_of es) → keys_of (remove_entry (same_mac k) es) ≡ filter (λ other. not (same_mac k other)) (keys_of es)
  unfolding IsStrictlySortedBy
  keys_removed k [] rise = refl
  keys_removed k (e ∷ es) rise = go (same_mac k e.0) refl (keys_removed k es rise.1)
    where
      go : (b : Bool) → same_mac k e.0 ≡ b → keys_of (remove_entry (same_mac k) es) ≡ filter (λ other. not (same_mac k other)) (keys_of es) → keys_of (cond b es (e ∷ remove_entry (same_mac k) es)) ≡ cond (not b) (e.0 ∷ filter (λ other. not (same_mac k other)) (keys_of es)) (filter (λ other. not (same_mac k other)) (keys_of es))
      go true t rest = sym (subst (λ z. filter (λ other. not (same_mac z other)) (keys_of es) ≡ keys_of es) (sym (same_exact k e.0 t)) (none_same e.0 es rise.0))
      go false t rest = ap (λ ks. e.0 ∷ ks) rest

-- a place of a list has nothing exactly where it is past the end
pub none_past_end : {X : Type 0} (rows : List X) (i : ℕ) (row : Option X) → row ≡ slice_get rows i → IsNone row ↔ (length rows ≤ i)
none_past_end rows i row is = grind (arith, common_steps, gets)
