use Rattle.std.proofs.Common.{◌≡◌, ◌+◌, ◌≤◌, true, length, Ok, take}
use Rattle.mesh_model.specs.Tables.Strict.{change_each}
use Rattle.tt_table.specs.Entries.{half}
use Rattle.tt_table.proofs.entries.Entries.change_all.Given as goal

abbrev pub invariant-loop-place : goal.invariant-loop-place
invariant-loop-place l = record {
  made : change_each (half l.del (take l.place l.changes)) l.initial.self.entries ≡ Ok l.self.entries;
  grown : length l.self.entries ≤ length l.initial.self.entries + l.place;
  shrunk : l.del ≡ true → length l.self.entries ≤ length l.initial.self.entries;
  capacity : l.initial.self.capacity ≤ l.self.capacity;
}
