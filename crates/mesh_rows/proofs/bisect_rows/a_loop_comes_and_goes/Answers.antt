use Rattle.std.proofs.Common.{refl}
use Rattle.mesh_rows.proofs.LoopsOnLiterals.{loops_on_literals}
use Rattle.mesh_rows.proofs.bisect_rows.a_loop_comes_and_goes.Goals as goal

pub returns-clause-broken : goal.returns-clause-broken
unfolding loops_on_literals
returns-clause-broken c = (refl, refl)

pub returns-clause-one : goal.returns-clause-one
unfolding loops_on_literals
returns-clause-one c = (refl, refl)

pub returns-clause-unfinished : goal.returns-clause-unfinished
unfolding loops_on_literals
returns-clause-unfinished c = refl

pub returns-clause-changed : goal.returns-clause-changed
unfolding loops_on_literals
returns-clause-changed c = (refl, refl)
