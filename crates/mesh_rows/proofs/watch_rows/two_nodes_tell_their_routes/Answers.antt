use Rattle.std.proofs.Common.{refl}
use Rattle.mesh_rows.proofs.NetOnLiterals.{net_on_literals}
use Rattle.mesh_rows.proofs.watch_rows.two_nodes_tell_their_routes.Goals as goal

pub returns : goal.returns
unfolding net_on_literals
returns c = (refl, refl)
