use Rattle.std.proofs.Common.{refl}
use Rattle.mesh_rows.proofs.RoutesOnLiterals.{routes_on_literals}
use Rattle.mesh_rows.proofs.route_rows.both_tables_have_the_other_node.Goals as goal

pub returns-clause-originators : goal.returns-clause-originators
unfolding routes_on_literals
returns-clause-originators c = refl

pub returns-clause-neighbours : goal.returns-clause-neighbours
unfolding routes_on_literals
returns-clause-neighbours c = refl
