use Rattle.std.proofs.Common.{◌≡◌, map, take}
use Rattle.mesh_model.specs.Tables.Changes.{addition}
use Rattle.tt_table.proofs.entries.Entries.additions.Given as goal

abbrev pub invariant-loop-entry : goal.invariant-loop-entry
invariant-loop-entry l = record {
  made : l.additions ≡ map addition (take l.entry-index l.self.entries);
}
