use Rattle.std.proofs.Common.{refl}
use Rattle.mesh_rows.proofs.RoutesOnLiterals.{routes_on_literals}
use Rattle.mesh_rows.proofs.throughput_rows.an_ogm_is_heard_from_a_neighbour_that_is_up.Goals as goal

pub returns-clause-before : goal.returns-clause-before
unfolding routes_on_literals
returns-clause-before c = refl

pub returns-clause-last : goal.returns-clause-last
unfolding routes_on_literals
returns-clause-last c = refl

pub returns-clause-down : goal.returns-clause-down
unfolding routes_on_literals
returns-clause-down c = refl

pub returns-clause-own : goal.returns-clause-own
unfolding routes_on_literals
returns-clause-own c = refl

pub returns-clause-elp : goal.returns-clause-elp
unfolding routes_on_literals
returns-clause-elp c = refl

pub returns-clause-other : goal.returns-clause-other
unfolding routes_on_literals
returns-clause-other c = refl
