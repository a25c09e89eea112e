use Rattle.std.proofs.Common.{refl}
use Rattle.mesh_rows.proofs.LoopsOnLiterals.{loops_on_literals}
use Rattle.mesh_rows.proofs.bisect_rows.a_refused_line_ends_no_moment.Goals as goal

pub returns-clause-back : goal.returns-clause-back
unfolding loops_on_literals
returns-clause-back c = (refl, refl)

pub returns-clause-told : goal.returns-clause-told
unfolding loops_on_literals
returns-clause-told c = refl

pub returns-clause-bad : goal.returns-clause-bad
unfolding loops_on_literals
returns-clause-bad c = (refl, refl)

pub returns-clause-later : goal.returns-clause-later
unfolding loops_on_literals
returns-clause-later c = (refl, refl)

pub returns-clause-long : goal.returns-clause-long
unfolding loops_on_literals
returns-clause-long c = (refl, refl)
