use Rattle.std.proofs.Common.{refl}
use Rattle.mesh_rows.proofs.NetOnLiterals.{net_on_literals}
use Rattle.mesh_rows.proofs.restart_rows.a_node_that_reboots_begins_anew.Goals as goal

pub returns : goal.returns
unfolding net_on_literals
returns c = (refl, refl)
