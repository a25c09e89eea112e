use Rattle.std.proofs.Common.{◌∙◌, ap, refl, sym, Some}
use Rattle.mesh_laws.proofs.PresentLemmas.{key_total, key_exact}
use Rattle.tt_table.specs.Entries.{entry_key}
use Rattle.tt_table.proofs.EntriesLemmas.{with_in_gap, with_there}
use Rattle.tt_table.proofs.OrderedLists.{sorted_put}
use Rattle.tt_table.proofs.entries.Entries.insert.Goals as goal

pub returns-in_default-clause-told : goal.returns-in_default-clause-told
returns-in_default-clause-told c = (with_there c.args.entry.now c.args.self.now.entries c.in_default.field-0 c.in_default.ensures.there, refl)

pub invariant_of-self : goal.invariant_of-self
invariant_of-self c =
    let gap = rw (← c.self.view_is) at c.in-Err.ensures.gap in
    let items = rw c.unwrap.ensures at c.insert.ensures.items in
    rw items (sorted_put key_total key_exact entry_key c.args.entry.now c.self.inside.entries.items c.in-Err.place gap c.self.invariant)

pub returns-clause-told : goal.returns-clause-told
returns-clause-told c =
    let gap = rw (← c.self.view_is) at c.in-Err.ensures.gap in
    let items = rw c.unwrap.ensures at c.insert.ensures.items in
    rw (← c.self.view_is) (with_in_gap c.args.entry.now c.self.inside.entries.items c.in-Err.place gap ∙ ap Some (sym items))
