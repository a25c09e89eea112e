use Rattle.std.proofs.Common.{refl}
use Rattle.mesh_rows.proofs.LoopsOnLiterals.{loops_on_literals}
use Rattle.mesh_rows.proofs.loop_rows.a_loop_that_changes_its_nodes_is_gone_and_new.Goals as goal

pub returns-clause-looped : goal.returns-clause-looped
unfolding loops_on_literals
returns-clause-looped c = refl

pub returns-clause-told : goal.returns-clause-told
unfolding loops_on_literals
returns-clause-told c = refl

pub returns-clause-gone : goal.returns-clause-gone
unfolding loops_on_literals
returns-clause-gone c = refl

pub returns-clause-fresh : goal.returns-clause-fresh
unfolding loops_on_literals
returns-clause-fresh c = refl
