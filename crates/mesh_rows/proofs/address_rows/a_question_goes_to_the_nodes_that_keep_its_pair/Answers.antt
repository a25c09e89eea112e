use Rattle.std.proofs.Common.{refl}
use Rattle.mesh_rows.proofs.NetOnLiterals.{net_on_literals}
use Rattle.mesh_rows.proofs.ServicesOnLiterals.{services_on_literals}
use Rattle.mesh_rows.proofs.address_rows.a_question_goes_to_the_nodes_that_keep_its_pair.Goals as goal

pub returns : goal.returns
unfolding net_on_literals services_on_literals
returns c = (refl, refl)
