use Rattle.std.proofs.Common.{refl}
use Rattle.mesh_rows.proofs.LoopsOnLiterals.{loops_on_literals}
use Rattle.mesh_rows.proofs.bisect_rows.a_moment_is_told_as_a_whole.Goals as goal

pub returns-clause-within : goal.returns-clause-within
unfolding loops_on_literals
returns-clause-within c = (refl, refl)

pub returns-clause-others : goal.returns-clause-others
unfolding loops_on_literals
returns-clause-others c = (refl, refl)

pub returns-clause-none : goal.returns-clause-none
unfolding loops_on_literals
returns-clause-none c = (refl, refl)
