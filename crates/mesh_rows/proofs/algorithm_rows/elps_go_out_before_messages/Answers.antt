use Rattle.std.proofs.Common.{refl}
use Rattle.mesh_rows.proofs.NetOnLiterals.{net_on_literals}
use Rattle.mesh_rows.proofs.algorithm_rows.elps_go_out_before_messages.Goals as goal

pub returns : goal.returns
unfolding net_on_literals
returns c = (refl, refl)
