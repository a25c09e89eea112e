use Rattle.std.proofs.Common.{refl}
use Rattle.mesh_rows.proofs.NetOnLiterals.{net_on_literals}
use Rattle.mesh_rows.proofs.session_rows.a_session_is_of_two_nodes.Goals as goal

pub returns-clause-same : goal.returns-clause-same
unfolding net_on_literals
returns-clause-same c = (refl, refl, refl)

pub returns-clause-trace : goal.returns-clause-trace
unfolding net_on_literals
returns-clause-trace c = (refl, refl, refl)

pub returns-clause-unknown : goal.returns-clause-unknown
unfolding net_on_literals
returns-clause-unknown c = (refl, refl, refl)
