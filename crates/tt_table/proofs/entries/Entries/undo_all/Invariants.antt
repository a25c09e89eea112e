use Rattle.std.proofs.Common.{◌≡◌, ◌+◌, ◌≤◌, true, length, List, Ok, take}
use Rattle.mesh_base.specs.declared.client.Entry.{Entry}
use Rattle.mesh_model.specs.Tables.Changes.{IsInKeyOrder}
use Rattle.mesh_model.specs.Tables.Strict.{change_each}
use Rattle.tt_table.specs.Entries.{half}
use Rattle.tt_table.proofs.entries.Entries.undo_all.Given as goal

abbrev pub invariant-loop-left : goal.invariant-loop-left
invariant-loop-left l = record {
  within : l.left ≤ length l.changes;
  undone : (table : List Entry) → IsInKeyOrder table → change_each (half l.del l.changes) table ≡ Ok l.initial.self.entries → change_each (half l.del (take l.left l.changes)) table ≡ Ok l.self.entries;
  room : l.del ≡ true → length l.self.entries + l.left ≤ l.self.capacity;
  capacity : l.initial.self.capacity ≤ l.self.capacity;
}

abbrev pub decreases-loop-left : goal.decreases-loop-left
decreases-loop-left l = l.left
