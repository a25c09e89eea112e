use Rattle.std.proofs.Common.{refl}
use Rattle.mesh_rows.proofs.RoutesOnLiterals.{routes_on_literals}
use Rattle.mesh_rows.proofs.throughput_rows.an_elp_grows_old.Goals as goal

pub returns-clause-up : goal.returns-clause-up
unfolding routes_on_literals
returns-clause-up c = refl

pub returns-clause-down : goal.returns-clause-down
unfolding routes_on_literals
returns-clause-down c = refl

pub returns-clause-row : goal.returns-clause-row
unfolding routes_on_literals
returns-clause-row c = refl

pub returns-clause-no_row : goal.returns-clause-no_row
unfolding routes_on_literals
returns-clause-no_row c = refl

pub returns-clause-again : goal.returns-clause-again
unfolding routes_on_literals
returns-clause-again c = refl

pub returns-clause-both : goal.returns-clause-both
unfolding routes_on_literals
returns-clause-both c = refl
