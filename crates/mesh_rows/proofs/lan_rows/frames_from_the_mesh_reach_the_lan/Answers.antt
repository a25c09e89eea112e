use Rattle.std.proofs.Common.{refl}
use Rattle.mesh_rows.proofs.NetOnLiterals.{net_on_literals}
use Rattle.mesh_rows.proofs.lan_rows.frames_from_the_mesh_reach_the_lan.Goals as goal

pub returns-clause-broadcast : goal.returns-clause-broadcast
unfolding net_on_literals
returns-clause-broadcast c = (refl, refl)

pub returns-clause-unicast : goal.returns-clause-unicast
unfolding net_on_literals
returns-clause-unicast c = (refl, refl)
