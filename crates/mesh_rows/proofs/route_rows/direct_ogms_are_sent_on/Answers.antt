use Rattle.std.proofs.Common.{refl}
use Rattle.mesh_rows.proofs.RoutesOnLiterals.{routes_on_literals}
use Rattle.mesh_rows.proofs.route_rows.direct_ogms_are_sent_on.Goals as goal

pub returns-clause-first : goal.returns-clause-first
unfolding routes_on_literals
returns-clause-first c = refl

pub returns-clause-second : goal.returns-clause-second
unfolding routes_on_literals
returns-clause-second c = refl
