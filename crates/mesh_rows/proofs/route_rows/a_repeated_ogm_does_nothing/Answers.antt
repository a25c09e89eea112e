use Rattle.std.proofs.Common.{refl}
use Rattle.mesh_rows.proofs.RoutesOnLiterals.{routes_on_literals}
use Rattle.mesh_rows.proofs.route_rows.a_repeated_ogm_does_nothing.Goals as goal

pub returns : goal.returns
unfolding routes_on_literals
returns c = refl
