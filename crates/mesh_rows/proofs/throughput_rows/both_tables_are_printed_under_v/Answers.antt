use Rattle.std.proofs.Common.{refl}
use Rattle.mesh_rows.proofs.RoutesOnLiterals.{routes_on_literals}
use Rattle.mesh_rows.proofs.throughput_rows.both_tables_are_printed_under_v.Goals as goal

pub returns-clause-originators : goal.returns-clause-originators
unfolding routes_on_literals
returns-clause-originators c = refl

pub returns-clause-neighbours : goal.returns-clause-neighbours
unfolding routes_on_literals
returns-clause-neighbours c = refl

pub returns-clause-without_route : goal.returns-clause-without_route
unfolding routes_on_literals
returns-clause-without_route c = refl
