-- The rows of primaries: by what is kept, and by what announced itself.
use Rattle.std.proofs.Common.{◌≡◌, ℕ, cond, List, [], ◌∷◌, filter_map, map, Option, Some, option_map, refl, sym, ap, ap₂, ◌∙◌, subst, Less}
use Rattle.std.specs.List.{AllByRecursion, cons_option}
use Rattle.std.specs.List.Sorted.{IsStrictlySortedBy}
use Rattle.std.specs.Map.{keys_of, lookup}
use Rattle.std.proofs.Math.Path.{fun_ext}
use Rattle.alfred_store.specs.PrimariesStand.{PrimariesStand}
use Rattle.mesh_base.specs.declared.address.Mac.{Mac}
use Rattle.mesh_model.specs.declared.service.PrimaryRow.{PrimaryRow}
use Rattle.mesh_model.specs.Knowledge.FactStore.{announced_primaries, primary_rows}
use Rattle.mesh_model.specs.Knowledge.Known.{Knowledge}
use Rattle.mesh_model.specs.Knowledge.Served.{PrimaryCall}
use Rattle.mesh_model.specs.Routes.Addresses.{mac_order, same_mac}
use Rattle.mesh_model.specs.Routes.Queries.{Queries}
use Rattle.mesh_laws.proofs.ListedInOrder.{sorted_in_order}
use Rattle.mesh_laws.proofs.MacLemmas.{mac_exact, mac_total, other_by_order, same_self}
use Rattle.node_facts.specs.PrimaryRows.{row_at}

module _ (q : Queries) (known : Knowledge) (now : ℕ) where
  -- the row of a primary by when it announced itself last, if it did
  abbrev row_of : Mac → Option ℕ → Option PrimaryRow
  row_of mac moment = option_map (row_at q known now mac) moment

  -- addresses above one find what is behind it
  found_behind : (first : Mac) (moment : ℕ) (es : List (Mac × ℕ)) (ks : List Mac) → AllByRecursion (λ k. mac_order first k ≡ Less) ks
      → filter_map (λ k. row_of k (cond (same_mac k first) (Some moment) (lookup (same_mac k) es))) ks ≡ filter_map (λ k. row_of k (lookup (same_mac k) es)) ks
  found_behind first moment es [] above = refl
  found_behind first moment es (k ∷ ks) above =
      ap₂ (λ o xs. cons_option o xs) (ap (λ b. row_of k (cond b (Some moment) (lookup (same_mac k) es))) (other_by_order first k above.0)) (found_behind first moment es ks above.1)

  -- the row of each that is kept is the row of each address by what it finds
  found_each : (es : List (Mac × ℕ)) → IsStrictlySortedBy mac_order (keys_of es) → map (λ (e : Mac × ℕ). row_at q known now e.0 e.1) es ≡ filter_map (λ k. row_of k (lookup (same_mac k) es)) (keys_of es)
  unfolding IsStrictlySortedBy
  found_each [] rise = refl
  found_each (e ∷ es) rise =
      ap₂ (λ o xs. cons_option o xs) (ap (λ b. row_of e.0 (cond b (Some e.1) (lookup (same_mac e.0) es))) (sym (same_self e.0)))
      (found_each es rise.1 ∙ sym (found_behind e.0 e.1 es (keys_of es) rise.0))

  -- the rows of those that are kept are those of the primaries that announced themselves
  pub rows_are : (kept : List (Mac × ℕ)) → PrimariesStand kept known.services.primaries → map (λ (e : Mac × ℕ). row_at q known now e.0 e.1) kept ≡ primary_rows q known now
  rows_are kept stands =
      let calls = known.services.primaries in
      let rise : IsStrictlySortedBy mac_order (keys_of kept) = subst (IsStrictlySortedBy mac_order) (sym stands.addresses) (sorted_in_order mac_total mac_exact (map (λ (call : PrimaryCall). call.primary) calls)) in
      found_each kept rise
      ∙ ap (filter_map (λ mac. row_of mac (lookup (same_mac mac) kept))) stands.addresses
      ∙ ap (λ f. filter_map f (announced_primaries calls)) (fun_ext (λ mac. ap (row_of mac) (stands.last mac)))
