use Rattle.std.proofs.Common.{refl}
use Rattle.mesh_rows.proofs.NetOnLiterals.{net_on_literals}
use Rattle.mesh_rows.proofs.net_rows.a_65th_node_passes_the_limit.Goals as goal

pub returns-clause-most : goal.returns-clause-most
unfolding net_on_literals
returns-clause-most c = (refl, refl)

pub returns-clause-past : goal.returns-clause-past
unfolding net_on_literals
returns-clause-past c = (refl, refl, refl)
