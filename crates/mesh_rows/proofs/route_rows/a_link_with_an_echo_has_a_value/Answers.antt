use Rattle.std.proofs.Common.{refl}
use Rattle.mesh_rows.proofs.RoutesOnLiterals.{routes_on_literals}
use Rattle.mesh_rows.proofs.route_rows.a_link_with_an_echo_has_a_value.Goals as goal

pub returns-clause-received : goal.returns-clause-received
unfolding routes_on_literals
returns-clause-received c = refl

pub returns-clause-echoed : goal.returns-clause-echoed
unfolding routes_on_literals
returns-clause-echoed c = refl

pub returns-clause-link : goal.returns-clause-link
unfolding routes_on_literals
returns-clause-link c = refl

pub returns-clause-asym : goal.returns-clause-asym
unfolding routes_on_literals
returns-clause-asym c = refl

pub returns-clause-value : goal.returns-clause-value
unfolding routes_on_literals
returns-clause-value c = refl
