use Rattle.std.proofs.Common.{sym, subst}
use Rattle.tt_local.specs.Roster.{AreSorted}
use Rattle.tt_local.proofs.RosterLemmas.{none_sorted}
use Rattle.tt_local.proofs.pending.Pending.new.Goals as goal

pub invariant_of-result : goal.invariant_of-result
invariant_of-result c = subst AreSorted (sym c.new.ensures.empty) none_sorted
