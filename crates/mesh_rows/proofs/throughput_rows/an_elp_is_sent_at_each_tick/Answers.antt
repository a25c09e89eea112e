use Rattle.std.proofs.Common.{refl}
use Rattle.mesh_rows.proofs.RoutesOnLiterals.{routes_on_literals}
use Rattle.mesh_rows.proofs.throughput_rows.an_elp_is_sent_at_each_tick.Goals as goal

pub returns-clause-odd : goal.returns-clause-odd
unfolding routes_on_literals
returns-clause-odd c = refl

pub returns-clause-even : goal.returns-clause-even
unfolding routes_on_literals
returns-clause-even c = refl

pub returns-clause-chosen : goal.returns-clause-chosen
unfolding routes_on_literals
returns-clause-chosen c = refl

pub returns-clause-other : goal.returns-clause-other
unfolding routes_on_literals
returns-clause-other c = refl
