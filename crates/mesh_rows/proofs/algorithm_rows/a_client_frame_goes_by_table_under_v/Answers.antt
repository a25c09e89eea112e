use Rattle.std.proofs.Common.{refl}
use Rattle.mesh_rows.proofs.NetOnLiterals.{net_on_literals}
use Rattle.mesh_rows.proofs.algorithm_rows.a_client_frame_goes_by_table_under_v.Goals as goal

pub returns : goal.returns
unfolding net_on_literals
returns c = (refl, refl)
