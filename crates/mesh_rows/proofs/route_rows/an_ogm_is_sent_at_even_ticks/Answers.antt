use Rattle.std.proofs.Common.{refl}
use Rattle.mesh_rows.proofs.RoutesOnLiterals.{routes_on_literals}
use Rattle.mesh_rows.proofs.route_rows.an_ogm_is_sent_at_even_ticks.Goals as goal

pub returns-clause-even : goal.returns-clause-even
unfolding routes_on_literals
returns-clause-even c = refl

pub returns-clause-odd : goal.returns-clause-odd
unfolding routes_on_literals
returns-clause-odd c = refl
