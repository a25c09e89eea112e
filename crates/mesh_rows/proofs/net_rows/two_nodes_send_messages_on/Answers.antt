use Rattle.std.proofs.Common.{refl}
use Rattle.mesh_rows.proofs.NetOnLiterals.{net_on_literals}
use Rattle.mesh_rows.proofs.net_rows.two_nodes_send_messages_on.Goals as goal

pub returns : goal.returns
unfolding net_on_literals
returns c = (refl, refl)
