use Rattle.std.proofs.Common.{refl}
use Rattle.mesh_rows.proofs.RoutesOnLiterals.{routes_on_literals}
use Rattle.mesh_rows.proofs.restart_rows.a_rebooted_node_has_a_route_at_once.Goals as goal

pub returns-clause-restarts : goal.returns-clause-restarts
unfolding routes_on_literals
returns-clause-restarts c = refl

pub returns-clause-raises : goal.returns-clause-raises
unfolding routes_on_literals
returns-clause-raises c = refl

pub returns-clause-stays : goal.returns-clause-stays
unfolding routes_on_literals
returns-clause-stays c = refl
