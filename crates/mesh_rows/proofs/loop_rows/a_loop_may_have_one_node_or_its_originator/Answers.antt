use Rattle.std.proofs.Common.{refl}
use Rattle.mesh_rows.proofs.LoopsOnLiterals.{loops_on_literals}
use Rattle.mesh_rows.proofs.loop_rows.a_loop_may_have_one_node_or_its_originator.Goals as goal

pub returns-clause-one : goal.returns-clause-one
unfolding loops_on_literals
returns-clause-one c = refl

pub returns-clause-originator : goal.returns-clause-originator
unfolding loops_on_literals
returns-clause-originator c = refl

pub returns-clause-lost : goal.returns-clause-lost
unfolding loops_on_literals
returns-clause-lost c = refl
