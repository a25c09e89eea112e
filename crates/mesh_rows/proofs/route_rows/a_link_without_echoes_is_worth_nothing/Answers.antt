use Rattle.std.proofs.Common.{refl}
use Rattle.mesh_rows.proofs.RoutesOnLiterals.{routes_on_literals}
use Rattle.mesh_rows.proofs.route_rows.a_link_without_echoes_is_worth_nothing.Goals as goal

pub returns-clause-received : goal.returns-clause-received
unfolding routes_on_literals
returns-clause-received c = refl

pub returns-clause-echoed : goal.returns-clause-echoed
unfolding routes_on_literals
returns-clause-echoed c = refl

pub returns-clause-value : goal.returns-clause-value
unfolding routes_on_literals
returns-clause-value c = refl
