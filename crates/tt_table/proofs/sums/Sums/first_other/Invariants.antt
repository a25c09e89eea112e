use Rattle.std.proofs.Common.{◌≡◌, ◌<◌, ℕ, false, get_or}
use Rattle.mesh_model.specs.Tables.Differences.{differ_at}
use Rattle.tt_table.specs.Sums.{named_sums}
use Rattle.tt_table.specs.declared.vlan_total.VlanTotal.{VlanTotal}
use Rattle.tt_table.proofs.sums.Sums.first_other.Given as goal

abbrev pub invariant-loop-row : goal.invariant-loop-row
invariant-loop-row l = record {
  same : (i : ℕ) (other : VlanTotal) → i < l.row-index → differ_at (named_sums l.self) (named_sums l.others) (get_or l.self.rows i other).vid ≡ false;
}
