use Rattle.std.proofs.Common.{refl}
use Rattle.mesh_rows.proofs.NetOnLiterals.{net_on_literals}
use Rattle.mesh_rows.proofs.client_rows.a_node_on_the_way_answers.Goals as goal

pub returns : goal.returns
unfolding net_on_literals
returns c = (refl, refl)
