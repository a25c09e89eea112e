use Rattle.std.proofs.Common.{refl}
use Rattle.mesh_rows.proofs.NetOnLiterals.{net_on_literals}
use Rattle.mesh_rows.proofs.lan_rows.lines_on_lans_are_refused.Goals as goal

pub returns-clause-none : goal.returns-clause-none
unfolding net_on_literals
returns-clause-none c = (refl, refl)

pub returns-clause-place : goal.returns-clause-place
unfolding net_on_literals
returns-clause-place c = (refl, refl, refl)

pub returns-clause-gone : goal.returns-clause-gone
unfolding net_on_literals
returns-clause-gone c = (refl, refl, refl)

pub returns-clause-again : goal.returns-clause-again
unfolding net_on_literals
returns-clause-again c = (refl, refl, refl)

pub returns-clause-twice : goal.returns-clause-twice
unfolding net_on_literals
returns-clause-twice c = (refl, refl, refl)

pub returns-clause-kind : goal.returns-clause-kind
unfolding net_on_literals
returns-clause-kind c = (refl, refl, refl)

pub returns-clause-link : goal.returns-clause-link
unfolding net_on_literals
returns-clause-link c = (refl, refl, refl)

pub returns-clause-link_back : goal.returns-clause-link_back
unfolding net_on_literals
returns-clause-link_back c = (refl, refl, refl)

pub returns-clause-gateway : goal.returns-clause-gateway
unfolding net_on_literals
returns-clause-gateway c = (refl, refl, refl)

pub returns-clause-itself : goal.returns-clause-itself
unfolding net_on_literals
returns-clause-itself c = (refl, refl, refl)

pub returns-clause-node : goal.returns-clause-node
unfolding net_on_literals
returns-clause-node c = (refl, refl, refl)

pub returns-clause-lan : goal.returns-clause-lan
unfolding net_on_literals
returns-clause-lan c = (refl, refl, refl)

pub returns-clause-lans : goal.returns-clause-lans
unfolding net_on_literals
returns-clause-lans c = (refl, refl, refl)
