use Rattle.std.proofs.Common.{refl}
use Rattle.mesh_rows.proofs.RoutesOnLiterals.{routes_on_literals}
use Rattle.mesh_rows.proofs.route_rows.both_tables_are_printed.Goals as goal

pub returns-clause-originators : goal.returns-clause-originators
unfolding routes_on_literals
returns-clause-originators c = refl

pub returns-clause-neighbours : goal.returns-clause-neighbours
unfolding routes_on_literals
returns-clause-neighbours c = refl

pub returns-clause-no_route : goal.returns-clause-no_route
unfolding routes_on_literals
returns-clause-no_route c = refl

pub returns-clause-throughput : goal.returns-clause-throughput
unfolding routes_on_literals
returns-clause-throughput c = refl
