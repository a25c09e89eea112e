use Rattle.std.proofs.Common.{refl}
use Rattle.mesh_rows.proofs.RoutesOnLiterals.{routes_on_literals}
use Rattle.mesh_rows.proofs.throughput_rows.the_best_route_is_over_a_neighbour_that_is_up.Goals as goal

pub returns-clause-first : goal.returns-clause-first
unfolding routes_on_literals
returns-clause-first c = refl

pub returns-clause-better : goal.returns-clause-better
unfolding routes_on_literals
returns-clause-better c = refl

pub returns-clause-metric : goal.returns-clause-metric
unfolding routes_on_literals
returns-clause-metric c = refl

pub returns-clause-tie : goal.returns-clause-tie
unfolding routes_on_literals
returns-clause-tie c = refl

pub returns-clause-down : goal.returns-clause-down
unfolding routes_on_literals
returns-clause-down c = refl

pub returns-clause-lesser : goal.returns-clause-lesser
unfolding routes_on_literals
returns-clause-lesser c = refl

pub returns-clause-live : goal.returns-clause-live
unfolding routes_on_literals
returns-clause-live c = refl

pub returns-clause-no_route : goal.returns-clause-no_route
unfolding routes_on_literals
returns-clause-no_route c = refl

pub returns-clause-no_metric : goal.returns-clause-no_metric
unfolding routes_on_literals
returns-clause-no_metric c = refl
