use Rattle.std.proofs.Common.{refl}
use Rattle.mesh_rows.proofs.RoutesOnLiterals.{routes_on_literals}
use Rattle.mesh_rows.proofs.route_rows.a_life_ends_after_its_span.Goals as goal

pub returns-clause-lives : goal.returns-clause-lives
unfolding routes_on_literals
returns-clause-lives c = refl

pub returns-clause-ended : goal.returns-clause-ended
unfolding routes_on_literals
returns-clause-ended c = refl

pub returns-clause-no_route : goal.returns-clause-no_route
unfolding routes_on_literals
returns-clause-no_route c = refl
