use Rattle.std.proofs.Common.{refl}
use Rattle.mesh_rows.proofs.RoutesOnLiterals.{routes_on_literals}
use Rattle.mesh_rows.proofs.throughput_rows.a_number_is_sent_on_over_the_best_route.Goals as goal

pub returns-clause-first : goal.returns-clause-first
unfolding routes_on_literals
returns-clause-first c = refl

pub returns-clause-again : goal.returns-clause-again
unfolding routes_on_literals
returns-clause-again c = refl

pub returns-clause-next : goal.returns-clause-next
unfolding routes_on_literals
returns-clause-next c = refl

pub returns-clause-worse : goal.returns-clause-worse
unfolding routes_on_literals
returns-clause-worse c = refl
