use Rattle.std.proofs.Common.{◌≡◌, ◌+◌, ◌≤◌, ℕ, length, List, Ok, take}
use Rattle.mesh_base.specs.declared.client.Entry.{Entry}
use Rattle.mesh_model.specs.Tables.Strict.{change_each}
use Rattle.tt_table.specs.Entries.{half}
use Rattle.tt_table.specs.Sums.{AreFew, AreNamed, AreTotalsOf, KeepNames}
use Rattle.tt_table.proofs.sums.Sums.follow_all.Given as goal

abbrev pub invariant-loop-change : goal.invariant-loop-change
invariant-loop-change g l = record {
  totals : (table after : List Entry) → AreTotalsOf l.initial.self.rows table → AreNamed l.initial.self.rows l.changes
      → change_each (half l.del (take l.change-index l.changes)) table ≡ Ok after → AreTotalsOf l.self.rows after;
  names : KeepNames l.initial.self.rows l.self.rows;
  capacity : l.initial.self.capacity ≤ l.self.capacity;
  few : (more : ℕ) → AreFew (more + length (half l.del (take l.change-index l.changes))) l.initial.self.rows → AreFew more l.self.rows;
  steps : l.steps ≡ l.initial.steps + length (half l.del (take l.change-index l.changes));
}
