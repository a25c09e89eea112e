use Rattle.std.proofs.Common.{refl}
use Rattle.mesh_rows.proofs.RoutesOnLiterals.{routes_on_literals}
use Rattle.mesh_rows.proofs.throughput_rows.a_value_is_the_lesser_throughput.Goals as goal

pub returns-clause-link : goal.returns-clause-link
unfolding routes_on_literals
returns-clause-link c = refl

pub returns-clause-told : goal.returns-clause-told
unfolding routes_on_literals
returns-clause-told c = refl

pub returns-clause-no_link : goal.returns-clause-no_link
unfolding routes_on_literals
returns-clause-no_link c = refl

pub returns-clause-last_hop : goal.returns-clause-last_hop
unfolding routes_on_literals
returns-clause-last_hop c = refl
