use Rattle.std.proofs.Common.{refl}
use Rattle.mesh_rows.proofs.RoutesOnLiterals.{routes_on_literals}
use Rattle.mesh_rows.proofs.throughput_rows.an_elp_of_another_does_not_count.Goals as goal

pub returns-clause-sender : goal.returns-clause-sender
unfolding routes_on_literals
returns-clause-sender c = refl

pub returns-clause-originator : goal.returns-clause-originator
unfolding routes_on_literals
returns-clause-originator c = refl
