use Rattle.std.proofs.Common.{refl}
use Rattle.mesh_rows.proofs.RoutesOnLiterals.{routes_on_literals}
use Rattle.mesh_rows.proofs.restart_rows.a_number_that_is_far_restarts.Goals as goal

pub returns-clause-below : goal.returns-clause-below
unfolding routes_on_literals
returns-clause-below c = refl

pub returns-clause-near : goal.returns-clause-near
unfolding routes_on_literals
returns-clause-near c = refl

pub returns-clause-above : goal.returns-clause-above
unfolding routes_on_literals
returns-clause-above c = refl

pub returns-clause-ahead : goal.returns-clause-ahead
unfolding routes_on_literals
returns-clause-ahead c = refl

pub returns-clause-first : goal.returns-clause-first
unfolding routes_on_literals
returns-clause-first c = refl
