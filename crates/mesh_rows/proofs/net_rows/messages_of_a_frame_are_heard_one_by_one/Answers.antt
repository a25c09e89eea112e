use Rattle.std.proofs.Common.{refl}
use Rattle.mesh_rows.proofs.NetOnLiterals.{net_on_literals}
use Rattle.mesh_rows.proofs.net_rows.messages_of_a_frame_are_heard_one_by_one.Goals as goal

pub returns-clause-both : goal.returns-clause-both
unfolding net_on_literals
returns-clause-both c = refl

pub returns-clause-again : goal.returns-clause-again
unfolding net_on_literals
returns-clause-again c = refl

pub returns-clause-bare : goal.returns-clause-bare
unfolding net_on_literals
returns-clause-bare c = refl

pub returns-clause-none : goal.returns-clause-none
unfolding net_on_literals
returns-clause-none c = refl
