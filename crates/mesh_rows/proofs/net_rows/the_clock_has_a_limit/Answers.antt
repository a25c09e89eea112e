use Rattle.std.proofs.Common.{refl}
use Rattle.mesh_rows.proofs.NetOnLiterals.{net_on_literals}
use Rattle.mesh_rows.proofs.net_rows.the_clock_has_a_limit.Goals as goal

pub returns-clause-last : goal.returns-clause-last
unfolding net_on_literals
returns-clause-last c = (refl, refl)

pub returns-clause-past : goal.returns-clause-past
unfolding net_on_literals
returns-clause-past c = (refl, refl, refl)

pub returns-clause-first : goal.returns-clause-first
unfolding net_on_literals
returns-clause-first c = (refl, refl, refl)
