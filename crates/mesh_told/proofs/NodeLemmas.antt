-- The tables of all nodes, of which one is written.
use Rattle.std.proofs.Common.{◌≡◌, ℕ, Bool, true, false, cond, List, [], Option, Some, is_some, refl, sym, ap, ◌∙◌, subst}
use Rattle.std.specs.List.Sorted.{IsStrictlySortedBy}
use Rattle.std.specs.Map.{lookup, set_value}
use Rattle.std.specs.Option.{option_map_or}
use Rattle.std.proofs.lemmas.Map.{lookup-set_value}
use Rattle.mesh_base.specs.declared.address.Mac.{Mac}
use Rattle.mesh_model.specs.declared.route.OrigRow.{OrigRow}
use Rattle.mesh_model.specs.declared.route_line.RouteLine.{RouteLine}
use Rattle.mesh_model.specs.Net.Watching.{lines_due, told_with}
use Rattle.mesh_model.specs.Routes.Addresses.{same_mac}
use Rattle.mesh_laws.proofs.MacLemmas.{same_equiv, same_exact}
use Rattle.mesh_told.specs.Told.{TableStands, seen_at, table_of}
use Rattle.mesh_told.specs.declared.node_routes.NodeRoutes.{NodeRoutes}
use Rattle.mesh_told.proofs.TableLemmas.{elsewhere}

-- nothing was told
pub none_stand : (node : Mac) → TableStands node [] [] []
unfolding IsStrictlySortedBy
none_stand node = record { rises = tt; nexts = λ orig. refl; lasts = λ orig. refl }

abbrev pub Tables : Type 0
Tables = List (Mac × NodeRoutes)

pub one_updated : (old new : Tables) (node : Mac) (was is : NodeRoutes) → lookup (same_mac node) old ≡ Some was → new ≡ set_value (same_mac node) old is
    → (q : Mac) → lookup (same_mac q) new ≡ cond (same_mac node q) (Some is) (lookup (same_mac q) old)
one_updated old new node was is found written q =
    ap (lookup (same_mac q)) written ∙ lookup-set_value same_equiv (same_mac node) (same_equiv.congr node) q is old (ap is_some found)

module _ (now : ℕ) (node : Mac) (rows : List OrigRow) (told : List RouteLine) (old new : Tables) (is : NodeRoutes)
    (updates : (q : Mac) → lookup (same_mac q) new ≡ cond (same_mac node q) (Some is) (lookup (same_mac q) old))
    (all : (q : Mac) → TableStands q (table_of old q) (seen_at old q) told)
    (written : TableStands node is.next.entries is.seen.items (told_with told (lines_due now node rows told))) where
  -- what one of them keeps, if there is one
  abbrev KeptStands : Mac → Option NodeRoutes → Type 0
  KeptStands q o =
      TableStands q (option_map_or (λ (routes : NodeRoutes). routes.next.entries) o []) (option_map_or (λ (routes : NodeRoutes). routes.seen.items) o []) (told_with told (lines_due now node rows told))

  pub all_stand : (q : Mac) → TableStands q (table_of new q) (seen_at new q) (told_with told (lines_due now node rows told))
  all_stand q = subst (KeptStands q) (sym (updates q)) (go (same_mac node q) refl)
    where
      go : (b : Bool) → same_mac node q ≡ b → KeptStands q (cond b (Some is) (lookup (same_mac q) old))
      go true same = subst (λ n. TableStands n is.next.entries is.seen.items (told_with told (lines_due now node rows told))) (same_exact node q same) written
      go false same = elsewhere node rows now told q (table_of old q) (seen_at old q) same (all q)
