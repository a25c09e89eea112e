use Rattle.std.proofs.Common.{◌+◌, ◌*◌}
use Rattle.mesh_model.specs.Commits.History.{History}
use Rattle.tt_local.specs.AliasSearch.{ArePassed, HasByte}
use Rattle.tt_local.specs.Journal.{all_runs, HasTable, JournalStands}
use Rattle.tt_local.specs.Runs.{IsAmong}
use Rattle.tt_local.proofs.SearchLemmas.{HasNoneTo}
use Rattle.tt_local.proofs.journal.Journal.alias_in.Given as goal

abbrev pub invariant-loop-round : goal.invariant-loop-round
invariant-loop-round l = record {
  none : (history : History) → JournalStands l.self history → IsAmong l.run (all_runs l.self) → HasByte l.number l.byte history.commits → HasTable l.number l.table history.commits → ArePassed l.number l.initial.passed.items history.commits →
      HasNoneTo (l.byte + l.round * 256) l.count l.run l.number history.commits;
  passed : (history : History) → JournalStands l.self history → IsAmong l.run (all_runs l.self) → HasByte l.number l.byte history.commits → HasTable l.number l.table history.commits → ArePassed l.number l.initial.passed.items history.commits →
      ArePassed l.number l.passed.items history.commits;
}
