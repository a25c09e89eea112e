use Rattle.std.proofs.Common.{refl}
use Rattle.mesh_rows.proofs.RoutesOnLiterals.{routes_on_literals}
use Rattle.mesh_rows.proofs.restart_rows.a_far_broadcast_begins_a_round.Goals as goal

pub returns-clause-again : goal.returns-clause-again
unfolding routes_on_literals
returns-clause-again c = refl

pub returns-clause-near : goal.returns-clause-near
unfolding routes_on_literals
returns-clause-near c = refl

pub returns-clause-wild : goal.returns-clause-wild
unfolding routes_on_literals
returns-clause-wild c = refl

pub returns-clause-repeated : goal.returns-clause-repeated
unfolding routes_on_literals
returns-clause-repeated c = refl

pub returns-clause-ahead : goal.returns-clause-ahead
unfolding routes_on_literals
returns-clause-ahead c = refl

pub returns-clause-early : goal.returns-clause-early
unfolding routes_on_literals
returns-clause-early c = refl

pub returns-clause-due : goal.returns-clause-due
unfolding routes_on_literals
returns-clause-due c = refl

pub returns-clause-first : goal.returns-clause-first
unfolding routes_on_literals
returns-clause-first c = refl
