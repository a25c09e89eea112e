use Rattle.std.proofs.Common.{rules, subst, sym, ◌≡◌, ◌<◌, List, length, get_or, true}
use Rattle.mesh_model.specs.Tables.Differences.{differ_at}
use Rattle.tt_table.specs.Sums.{named_sums}
use Rattle.tt_table.specs.declared.vlan_total.VlanTotal.{VlanTotal}
use Rattle.tt_table.proofs.DifferenceLemmas.{first_is_least, none_passes}
use Rattle.tt_table.proofs.sums.Sums.first_other.Goals as goal

pub returns-then-get : goal.returns-then-get
returns-then-get c =
    let rows = c.args.self.now.rows in
    let test = differ_at (named_sums c.args.self.now) (named_sums c.args.others.now) in
    let is : c.deref-row-items.result.now ≡ rows = search rules in
    let within : c.loop-row.row-index < length rows = search rules in
    let other : VlanTotal = record { vid = record { 0 = 0 }; sum = 0; entries = 0 } in
    let here : test (get_or c.deref-row-items.result.now c.loop-row.row-index other).vid ≡ true = search rules in
    let passes = subst (λ (l : List VlanTotal). test (get_or l c.loop-row.row-index other).vid ≡ true) is here in
    rw is (sym (first_is_least test rows c.loop-row.row-index other c.tell_order.ensures.order within (λ j e lt. c.loop-row.invariant.same j e lt) passes))

pub returns : goal.returns
returns c =
    let rows = c.args.self.now.rows in
    let past : (i : _) → i < length rows → i < c.loop-row.row-index = search rules in
    sym (none_passes (differ_at (named_sums c.args.self.now) (named_sums c.args.others.now)) rows (λ j e lt. c.loop-row.invariant.same j e (past j lt)))
