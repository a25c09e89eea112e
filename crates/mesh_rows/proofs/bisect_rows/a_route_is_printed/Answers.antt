use Rattle.std.proofs.Common.{refl}
use Rattle.mesh_rows.proofs.LoopsOnLiterals.{loops_on_literals}
use Rattle.mesh_rows.proofs.bisect_rows.a_route_is_printed.Goals as goal

pub returns-clause-there : goal.returns-clause-there
unfolding loops_on_literals
returns-clause-there c = refl

pub returns-clause-lost : goal.returns-clause-lost
unfolding loops_on_literals
returns-clause-lost c = refl
