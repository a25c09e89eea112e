use Rattle.std.proofs.Common.{◌≡◌, ◌<◌, ℕ, get_or}
use Rattle.tt_table.specs.Sums.{row_sum}
use Rattle.tt_table.specs.declared.vlan_total.VlanTotal.{VlanTotal}
use Rattle.tt_table.proofs.sums.Sums.is_same.Given as goal

abbrev pub invariant-loop-place : goal.invariant-loop-place
invariant-loop-place l = record {
  same : (i : ℕ) (d : VlanTotal) → i < l.place → row_sum (get_or l.self.rows i d) ≡ row_sum (get_or l.others.rows i d);
}
