use Rattle.std.proofs.Common.{rules, ap, cond, refl, subst, sym, ℕ, ◌∙◌, ◌≡◌, Option, option_map, Some, None}
use Rattle.std.specs.List.Sorted.{IsSorted}
use Rattle.std.specs.Map.{keys_of, lookup}
use Rattle.mesh_base.specs.declared.address.Mac.{Mac}
use Rattle.mesh_model.specs.Routes.Addresses.{mac_order, same_mac}
use Rattle.mesh_model.specs.Tables.Known.{held_after}
use Rattle.mesh_laws.proofs.AscendingKeys.{inserted, sorted_from}
use Rattle.mesh_laws.proofs.MacLemmas.{mac_exact, mac_total, same_by_order}
use Rattle.tt_global.specs.Kept.{IsAnnounced, stamp_in, version_of}
use Rattle.tt_global.specs.declared.known.KnownTable.{KnownTable}
use Rattle.tt_global.proofs.StandLemmas.{announced_inserted}
use Rattle.tt_global.proofs.globals.Globals.announce_first.Goals as goal
use Rattle.tt_table.specs.Table.{TableView}

-- what is held first, where nothing was held
held_first : (byte : ℕ) (table : Option TableView) → option_map version_of (option_map (λ (t : TableView). record { byte = byte; table = t }) table) ≡ held_after byte (option_map (λ (t : TableView). t.entries) table) None
held_first byte None = refl
held_first byte (Some table) = refl

pub returns-clause-ok : goal.returns-clause-ok
returns-clause-ok g c =
    let old = c.args.self.now in
    let new = c.insert_sorted.new.self.entries in
    let told = stamp_in c.args.announced.now in
    let changes = c.args.announced.now.changes in
    let row : KnownTable = record { byte = c.args.announced.now.byte; sums = c.in_ok-copy.field-0; held = c.map.result; gathered = c.new.result } in
    let absent : lookup (same_mac c.args.orig) old ≡ None = search rules in
    let map : c.map.result ≡ option_map (λ (table : TableView). record { byte = told.byte; table = table }) c.in_ok-outcome.field-0.table = search rules in
    let becomes : IsAnnounced told changes None (Some row) = record {
      told_is = search rules;
      held_is = ap (option_map version_of) map ∙ held_first told.byte c.in_ok-outcome.field-0.table ∙ ap (λ row. held_after told.byte row.table None) c.in_ok-outcome.ensures.row;
      gathered_is = c.new.ensures;
    } in
    let same = c.self.view_is in
    let sorted : IsSorted mac_order (keys_of old) → IsSorted mac_order (keys_of new) = λ s. c.in_ok-insert_sorted.ensures.sorted (subst (λ es. IsSorted mac_order (keys_of es)) (sym same) s) in
    let updates : (other : Mac) → lookup (same_mac other) new ≡ cond (same_mac c.args.orig other) (Some row) (lookup (same_mac other) old) = λ other.
    c.in_ok-insert_sorted.ensures.updates.0 other ∙ ap (λ es. cond (same_mac c.args.orig other) (Some row) (lookup (same_mac other) es)) same in
    announced_inserted c.args.orig told changes old new row absent becomes updates
    (λ rise. inserted mac_total mac_exact same_mac (λ x y. sym (same_by_order x y)) old new c.args.orig row rise (sorted (sorted_from mac_total mac_exact old rise)) c.in_ok-insert_sorted.ensures.unique updates)
