use Rattle.std.proofs.Common.{refl}
use Rattle.mesh_rows.proofs.LoopsOnLiterals.{loops_on_literals}
use Rattle.mesh_rows.proofs.loop_rows.two_nodes_loop_and_part.Goals as goal

pub returns-clause-before : goal.returns-clause-before
unfolding loops_on_literals
returns-clause-before c = refl

pub returns-clause-looped : goal.returns-clause-looped
unfolding loops_on_literals
returns-clause-looped c = refl

pub returns-clause-parted : goal.returns-clause-parted
unfolding loops_on_literals
returns-clause-parted c = refl

pub returns-clause-told : goal.returns-clause-told
unfolding loops_on_literals
returns-clause-told c = refl

pub returns-clause-cleared : goal.returns-clause-cleared
unfolding loops_on_literals
returns-clause-cleared c = refl
