use Rattle.tt_local.proofs.MomentsLemmas.{none_of_none}
use Rattle.tt_local.proofs.clients.Clients.new.Goals as goal

pub invariant_of-result : goal.invariant_of-result
invariant_of-result c = none_of_none _ _ c.new.ensures.empty c.new-2.ensures
