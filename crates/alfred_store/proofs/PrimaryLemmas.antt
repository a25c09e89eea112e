-- What is kept of primaries once one more announced itself.
use Rattle.std.proofs.Common.{◌≡◌, ℕ, true, false, cond, List, [], ◌∷◌, map, find, Option, Some, option_map, refl, sym, ap, ◌∙◌, subst, Less, Equal, Greater}
use Rattle.std.specs.BTreeMap.{insert_entry}
use Rattle.std.specs.List.{IsDistinct}
use Rattle.std.specs.List.Sorted.{IsSorted, IsStrictlySortedBy}
use Rattle.std.specs.Map.{keys_of, lookup}
use Rattle.std.specs.Ordering.{eq_by_cmp, match_ordering}
use Rattle.mesh_base.specs.Ordered.{placed}
use Rattle.mesh_base.specs.declared.address.Mac.{Mac}
use Rattle.mesh_model.specs.Knowledge.FactStore.{last_announced}
use Rattle.mesh_model.specs.Knowledge.Served.{PrimaryCall}
use Rattle.mesh_model.specs.Routes.Addresses.{mac_order, same_mac}
use Rattle.mesh_laws.proofs.AscendingKeys.{inserted, sorted_from}
use Rattle.mesh_laws.proofs.ListedInOrder.{sorted_in_order}
use Rattle.mesh_laws.proofs.MacLemmas.{mac_exact, mac_total, same_by_order}
use Rattle.alfred_store.specs.PrimariesStand.{PrimariesStand}

alike : (x y : Mac) → same_mac x y ≡ eq_by_cmp mac_order x y
alike x y = sym (same_by_order x y)

-- the addresses of what is kept ascend
ascending : (kept : List (Mac × ℕ)) (calls : List PrimaryCall) → PrimariesStand kept calls → IsStrictlySortedBy mac_order (keys_of kept)
ascending kept calls stands = subst (IsStrictlySortedBy mac_order) (sym stands.addresses) (sorted_in_order mac_total mac_exact (map (λ (call : PrimaryCall). call.primary) calls))

-- an insertion places its key
keys_placed : (kept : List (Mac × ℕ)) (mac : Mac) (moment : ℕ) → keys_of (insert_entry mac_order kept mac moment) ≡ placed mac_order mac (keys_of kept)
keys_placed [] mac moment = refl
keys_placed (e ∷ es) mac moment =
    elim (mac_order mac e.0) as (λ r. keys_of (match_ordering r ((mac, moment) ∷ e ∷ es) ((e.0, moment) ∷ es) (e ∷ insert_entry mac_order es mac moment)) ≡ match_ordering r (mac ∷ e.0 ∷ keys_of es) (e.0 ∷ keys_of es) (e.0 ∷ placed mac_order mac (keys_of es))) [
      | Less ↦ refl
      | Equal ↦ refl
      | Greater ↦ ap (λ ks. e.0 ∷ ks) (keys_placed es mac moment)
    ]

-- when a primary announced itself last, once one more announcement is kept
last_after : (mac : Mac) (moment : ℕ) (old : Option ℕ) (calls : List PrimaryCall) (q : Mac) → old ≡ last_announced calls q
    → cond (same_mac mac q) (Some moment) old ≡ last_announced (record { moment = moment; primary = mac } ∷ calls) q
last_after mac moment old calls q was =
    elim (same_mac mac q) as (λ b. cond b (Some moment) old ≡ option_map (λ (call : PrimaryCall). call.moment) (cond b (Some (record { moment = moment; primary = mac })) (find (λ (call : PrimaryCall). same_mac call.primary q) calls))) [
      | true ↦ refl
      | false ↦ was
    ]

-- an announcement is noted by what a sorted insertion leaves
pub noted : (mac : Mac) (moment : ℕ) (kept after : List (Mac × ℕ)) → (IsSorted mac_order (keys_of kept) → IsSorted mac_order (keys_of after)) → IsDistinct same_mac (keys_of after)
    → ((q : Mac) → lookup (same_mac q) after ≡ cond (same_mac mac q) (Some moment) (lookup (same_mac q) kept))
    → (calls : List PrimaryCall) → PrimariesStand kept calls → PrimariesStand after (record { moment = moment; primary = mac } ∷ calls)
noted mac moment kept after sorted once updates calls stands = record {
  addresses =
      ap keys_of (inserted mac_total mac_exact same_mac alike kept after mac moment (ascending kept calls stands) (sorted (sorted_from mac_total mac_exact kept (ascending kept calls stands))) once updates)
      ∙ keys_placed kept mac moment ∙ ap (placed mac_order mac) stands.addresses;
  last = λ q. updates q ∙ last_after mac moment (lookup (same_mac q) kept) calls q (stands.last q);
}
