use Rattle.std.proofs.Common.{◌∙◌, ap}
use Rattle.std.proofs.lemmas.Cmp.{nat_cmp_total}
use Rattle.std.proofs.lemmas.Map.Lookups.{exact_unsigned}
use Rattle.std.specs.Ordering.{nat_cmp}
use Rattle.tt_table.specs.Places.{IsGap, IsThere}
use Rattle.tt_table.specs.Sums.{row_key}
use Rattle.tt_table.specs.declared.vlan_total.VlanTotal.{VlanTotal}
use Rattle.tt_table.proofs.OrderedLists.{sorted_put, sorted_set}
use Rattle.tt_table.proofs.SumsLemmas.{set_at, set_in_gap}
use Rattle.tt_table.proofs.sums.Sums.set.Goals as goal

pub invariant_of-self : goal.invariant_of-self
invariant_of-self c =
    let there : IsThere nat_cmp row_key c.args.vid.0 c.self.inside.rows.items c.in-Ok.place = rw (← c.self.view_is) at c.in-Ok.ensures.there in
    let row : VlanTotal = record { vid = c.index_mut.result.now.vid; sum = c.args.sum; entries = c.index_mut.result.now.entries } in
    sorted_set nat_cmp_total exact_unsigned row_key c.args.vid.0 row c.self.inside.rows.items c.in-Ok.place there
    (ap row_key c.index_mut.ensures.value ∙ there.same c.index_mut.result.now) c.self.invariant

pub invariant_of-self-in-Continue-1 : goal.invariant_of-self-in-Continue-1
invariant_of-self-in-Continue-1 c =
    let gap : IsGap nat_cmp row_key c.args.vid.0 c.self.inside.rows.items c.in-Err.place = rw (← c.self.view_is) at c.in-Err.ensures.gap in
    let row : VlanTotal = record { vid = c.args.vid; sum = c.args.sum; entries = 0 } in
    rw (c.in_ok-insert-in-Err.ensures.items, c.new.ensures)
    (sorted_put nat_cmp_total exact_unsigned row_key row c.self.inside.rows.items c.in-Err.place gap c.self.invariant)

pub returns-in-Ok-clause-ok : goal.returns-in-Ok-clause-ok
returns-in-Ok-clause-ok c =
    let there : IsThere nat_cmp row_key c.args.vid.0 c.self.inside.rows.items c.in-Ok.place = rw (← c.self.view_is) at c.in-Ok.ensures.there in
    let row : VlanTotal = record { vid = c.index_mut.result.now.vid; sum = c.args.sum; entries = c.index_mut.result.now.entries } in
    rw (← c.self.view_is)
    (set_at c.args.vid row c.self.inside.rows.items c.in-Ok.place (ap row_key c.index_mut.ensures.value ∙ there.same c.index_mut.result.now) there)

pub returns-in_ok-insert-in-Err-clause-ok : goal.returns-in_ok-insert-in-Err-clause-ok
returns-in_ok-insert-in-Err-clause-ok c =
    let gap : IsGap nat_cmp row_key c.args.vid.0 c.self.inside.rows.items c.in-Err.place = rw (← c.self.view_is) at c.in-Err.ensures.gap in
    let row : VlanTotal = record { vid = c.args.vid; sum = c.args.sum; entries = 0 } in
    rw (← c.self.view_is) (rw (c.in_ok-insert-in-Err.ensures.items, c.new.ensures) (set_in_gap row c.self.inside.rows.items c.in-Err.place gap))
