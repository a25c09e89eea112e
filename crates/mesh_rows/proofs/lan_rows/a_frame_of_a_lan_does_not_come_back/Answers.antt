use Rattle.std.proofs.Common.{refl}
use Rattle.mesh_rows.proofs.NetOnLiterals.{net_on_literals}
use Rattle.mesh_rows.proofs.lan_rows.a_frame_of_a_lan_does_not_come_back.Goals as goal

pub returns-clause-once : goal.returns-clause-once
unfolding net_on_literals
returns-clause-once c = (refl, refl)

pub returns-clause-stays : goal.returns-clause-stays
unfolding net_on_literals
returns-clause-stays c = (refl, refl)

pub returns-clause-lost : goal.returns-clause-lost
unfolding net_on_literals
returns-clause-lost c = (refl, refl)
