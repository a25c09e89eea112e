use Rattle.std.proofs.Common.{refl}
use Rattle.mesh_rows.proofs.RoutesOnLiterals.{routes_on_literals}
use Rattle.mesh_rows.proofs.throughput_rows.numbers_five_below_do_not_count.Goals as goal

pub returns-clause-four_below : goal.returns-clause-four_below
unfolding routes_on_literals
returns-clause-four_below c = refl

pub returns-clause-five_below : goal.returns-clause-five_below
unfolding routes_on_literals
returns-clause-five_below c = refl

pub returns-clause-lesser_value : goal.returns-clause-lesser_value
unfolding routes_on_literals
returns-clause-lesser_value c = refl

pub returns-clause-lesser_number : goal.returns-clause-lesser_number
unfolding routes_on_literals
returns-clause-lesser_number c = refl

pub returns-clause-repeated : goal.returns-clause-repeated
unfolding routes_on_literals
returns-clause-repeated c = refl

pub returns-clause-none : goal.returns-clause-none
unfolding routes_on_literals
returns-clause-none c = refl
