use Rattle.mesh_model.specs.Commits.History.{History}
use Rattle.tt_local.specs.Journal.{HasTable, JournalStands}
use Rattle.tt_local.proofs.journal.Journal.rebuilt.Given as goal

abbrev pub invariant-loop-at : goal.invariant-loop-at
invariant-loop-at l = record {
  rebuilt : (history : History) → JournalStands l.self history → HasTable l.kept l.table history.commits → HasTable l.at l.entries.entries history.commits;
}
