use Rattle.std.proofs.Common.{refl}
use Rattle.mesh_rows.proofs.NetOnLiterals.{net_on_literals}
use Rattle.mesh_rows.proofs.event_rows.a_choice_hides_frames_alone.Goals as goal

pub returns-clause-lan : goal.returns-clause-lan
unfolding net_on_literals
returns-clause-lan c = refl

pub returns-clause-lan_all : goal.returns-clause-lan_all
unfolding net_on_literals
returns-clause-lan_all c = refl

pub returns-clause-lan_reached : goal.returns-clause-lan_reached
unfolding net_on_literals
returns-clause-lan_reached c = refl

pub returns-clause-all : goal.returns-clause-all
unfolding net_on_literals
returns-clause-all c = refl

pub returns-clause-ogm : goal.returns-clause-ogm
unfolding net_on_literals
returns-clause-ogm c = refl

pub returns-clause-client : goal.returns-clause-client
unfolding net_on_literals
returns-clause-client c = refl

pub returns-clause-lost : goal.returns-clause-lost
unfolding net_on_literals
returns-clause-lost c = refl
