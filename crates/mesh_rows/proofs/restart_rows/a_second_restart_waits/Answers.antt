use Rattle.std.proofs.Common.{refl}
use Rattle.mesh_rows.proofs.RoutesOnLiterals.{routes_on_literals}
use Rattle.mesh_rows.proofs.restart_rows.a_second_restart_waits.Goals as goal

pub returns-clause-early : goal.returns-clause-early
unfolding routes_on_literals
returns-clause-early c = refl

pub returns-clause-due : goal.returns-clause-due
unfolding routes_on_literals
returns-clause-due c = refl

pub returns-clause-near : goal.returns-clause-near
unfolding routes_on_literals
returns-clause-near c = refl
