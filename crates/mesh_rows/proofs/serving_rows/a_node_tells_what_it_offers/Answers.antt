use Rattle.std.proofs.Common.{refl}
use Rattle.mesh_rows.proofs.NetOnLiterals.{net_on_literals}
use Rattle.mesh_rows.proofs.serving_rows.a_node_tells_what_it_offers.Goals as goal

pub returns : goal.returns
unfolding net_on_literals
returns c = (refl, refl)
