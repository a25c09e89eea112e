use Rattle.std.proofs.Common.{rules, sym, is_some, ap, subst, ◌∙◌, ◌≡◌, Option, option_map, Some, None}
use Rattle.std.specs.Map.{lookup, set_value}
use Rattle.std.proofs.lemmas.Bool.{false≢true}
use Rattle.mesh_model.specs.Routes.Addresses.{same_mac}
use Rattle.tt_global.specs.Kept.{HoldsThen}
use Rattle.tt_global.proofs.StandLemmas.{held_written}
use Rattle.tt_global.proofs.globals.Globals.hold.Goals as goal
use Rattle.tt_global.proofs.globals.Globals.hold.Goals.{in-Some-get_mut, in_default-get_mut}
use Rattle.tt_table.specs.Table.{TableView}

pub returns : goal.returns
returns c =
    let old = c.args.self.now in
    let new = c.match-get_mut.self-inside.known.entries in
    subst (λ (t : Option TableView). HoldsThen c.args.orig c.args.byte (option_map (λ (v : TableView). v.entries) t) old new) (sym c.in-Some.is)
    (λ some.
    elim c.match-get_mut.branch [
      | in-Some-get_mut w ↦
          let known = w.in-Some-get_mut.known.now in
          let found : lookup (same_mac c.args.orig) old ≡ Some known = search rules in
          let written : new ≡ set_value (same_mac c.args.orig) old w.hold.new.self = search rules in
          held_written c.args.orig _ old new known w.hold.new.self found w.hold.ensures.told w.hold.ensures.held w.hold.ensures.gathered written
      | in_default-get_mut w ↦
          let absent : lookup (same_mac c.args.orig) old ≡ None = search rules in
          absurd (false≢true (sym (ap is_some absent) ∙ some))
    ])
