use Rattle.std.proofs.Common.{sym, subst}
use Rattle.tt_local.specs.Roster.{AreSorted}
use Rattle.tt_local.proofs.RosterLemmas.{none_sorted}
use Rattle.tt_local.proofs.pending.Pending.clear.Goals as goal

pub invariant_of-self : goal.invariant_of-self
invariant_of-self c = subst AreSorted (sym c.clear.ensures.empty) none_sorted
