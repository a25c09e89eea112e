use Rattle.std.proofs.Common.{refl}
use Rattle.mesh_rows.proofs.NetOnLiterals.{net_on_literals}
use Rattle.mesh_rows.proofs.lan_rows.frames_of_a_lan_are_shown.Goals as goal

pub returns-clause-all : goal.returns-clause-all
unfolding net_on_literals
returns-clause-all c = (refl, refl)

pub returns-clause-client : goal.returns-clause-client
unfolding net_on_literals
returns-clause-client c = (refl, refl)
