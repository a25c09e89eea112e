use Rattle.std.proofs.Common.{refl}
use Rattle.mesh_rows.proofs.RoutesOnLiterals.{routes_on_literals}
use Rattle.mesh_rows.proofs.route_rows.a_window_reaches_back_sixty_three_numbers.Goals as goal

pub returns : goal.returns
unfolding routes_on_literals
returns c = refl
