use Rattle.std.proofs.Common.{◌+◌, ◌<◌, ◌≤◌, ℕ, length, get_or}
use Rattle.mesh_model.specs.declared.table_change.Change.{Change}
use Rattle.tt_table.specs.Sums.{IsNamed, KeepTotals}
use Rattle.tt_table.proofs.sums.Sums.name_all.Given as goal

abbrev pub invariant-loop-change : goal.invariant-loop-change
invariant-loop-change l = record {
  named : (i : ℕ) (other : Change) → i < l.change-index → IsNamed l.self.rows (get_or l.changes i other);
  totals : KeepTotals l.initial.self.rows l.self.rows;
  capacity : l.initial.self.capacity ≤ l.self.capacity;
  grown : length l.self.rows ≤ length l.initial.self.rows + l.change-index;
}
