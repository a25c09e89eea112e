use Rattle.std.proofs.Common.{◌∙◌, ap, refl, sym, Some}
use Rattle.mesh_laws.proofs.PresentLemmas.{key_total, key_exact}
use Rattle.tt_table.specs.Entries.{entry_key}
use Rattle.tt_table.proofs.EntriesLemmas.{without_in_gap, without_other, without_same}
use Rattle.tt_table.proofs.OrderedLists.{sorted_left}
use Rattle.tt_table.proofs.entries.Entries.remove.Goals as goal

pub returns-in_default-clause-told : goal.returns-in_default-clause-told
returns-in_default-clause-told c = (without_in_gap c.args.entry.now c.args.self.now.entries c.in_default.field-0 c.in_default.ensures.gap, refl)

pub returns-then-index-entry-clause-told : goal.returns-then-index-entry-clause-told
returns-then-index-entry-clause-told c =
    let there = rw (← c.self.view_is) at c.in-Ok.ensures.there in
    (rw (← c.self.view_is) (without_other c.args.entry.now c.index.result.now c.self.inside.entries.items c.in-Ok.place there c.index.ensures c.if-index-entry.true), refl)

pub invariant_of-self : goal.invariant_of-self
invariant_of-self c = rw c.remove.ensures.items (sorted_left key_total key_exact entry_key c.self.inside.entries.items c.in-Ok.place c.self.invariant)

pub returns-clause-told : goal.returns-clause-told
returns-clause-told c =
    let there = rw (← c.self.view_is) at c.in-Ok.ensures.there in
    rw (← c.self.view_is)
    (without_same c.args.entry.now c.index.result.now c.self.inside.entries.items c.in-Ok.place there c.index.ensures c.if-index-entry.false
    ∙ ap Some (sym c.remove.ensures.items))
