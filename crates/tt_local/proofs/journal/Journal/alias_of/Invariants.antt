use Rattle.std.proofs.Common.{◌≡◌, ◌<◌, ℕ, slice_get, Some}
use Rattle.mesh_model.specs.Commits.History.{History}
use Rattle.tt_local.specs.AliasSearch.{ArePassed, HasNoneIn}
use Rattle.tt_local.specs.Journal.{JournalStands}
use Rattle.tt_local.specs.declared.run.Run.{Run}
use Rattle.tt_local.proofs.journal.Journal.alias_of.Given as goal

abbrev pub invariant-loop-run : goal.invariant-loop-run
invariant-loop-run l = record {
  none : (history : History) → JournalStands l.self history → (place : ℕ) (run : Run) → place < l.run-index → slice_get l.self.runs place ≡ Some run → HasNoneIn run l.number l.number history.commits;
  passed : (history : History) → JournalStands l.self history → ArePassed l.number l.passed.items history.commits;
}
