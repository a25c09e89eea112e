use Rattle.std.proofs.Common.{refl}
use Rattle.mesh_rows.proofs.LoopsOnLiterals.{loops_on_literals}
use Rattle.mesh_rows.proofs.loop_rows.loops_stand_in_order.Goals as goal

pub returns-clause-into : goal.returns-clause-into
unfolding loops_on_literals
returns-clause-into c = refl

pub returns-clause-nodes : goal.returns-clause-nodes
unfolding loops_on_literals
returns-clause-nodes c = refl

pub returns-clause-originators : goal.returns-clause-originators
unfolding loops_on_literals
returns-clause-originators c = refl

pub returns-clause-walk : goal.returns-clause-walk
unfolding loops_on_literals
returns-clause-walk c = refl
