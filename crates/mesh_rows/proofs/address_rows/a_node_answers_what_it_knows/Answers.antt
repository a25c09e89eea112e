use Rattle.std.proofs.Common.{refl}
use Rattle.mesh_rows.proofs.NetOnLiterals.{net_on_literals}
use Rattle.mesh_rows.proofs.ServicesOnLiterals.{services_on_literals}
use Rattle.mesh_rows.proofs.address_rows.a_node_answers_what_it_knows.Goals as goal

pub returns-clause-known : goal.returns-clause-known
unfolding net_on_literals services_on_literals
returns-clause-known c = (refl, refl)

pub returns-clause-off : goal.returns-clause-off
unfolding net_on_literals services_on_literals
returns-clause-off c = (refl, refl)
