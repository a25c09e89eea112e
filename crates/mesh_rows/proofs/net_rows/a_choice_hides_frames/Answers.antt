use Rattle.std.proofs.Common.{refl}
use Rattle.mesh_rows.proofs.NetOnLiterals.{net_on_literals}
use Rattle.mesh_rows.proofs.net_rows.a_choice_hides_frames.Goals as goal

pub returns-clause-hidden : goal.returns-clause-hidden
unfolding net_on_literals
returns-clause-hidden c = (refl, refl)

pub returns-clause-client : goal.returns-clause-client
unfolding net_on_literals
returns-clause-client c = (refl, refl)

pub returns-clause-all : goal.returns-clause-all
unfolding net_on_literals
returns-clause-all c = (refl, refl)
