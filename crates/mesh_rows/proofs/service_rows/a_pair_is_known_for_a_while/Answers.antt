use Rattle.std.proofs.Common.{refl}
use Rattle.mesh_rows.proofs.ServicesOnLiterals.{services_on_literals}
use Rattle.mesh_rows.proofs.service_rows.a_pair_is_known_for_a_while.Goals as goal

pub returns-clause-young : goal.returns-clause-young
unfolding services_on_literals
returns-clause-young c = refl

pub returns-clause-old : goal.returns-clause-old
unfolding services_on_literals
returns-clause-old c = refl

pub returns-clause-by_vlan : goal.returns-clause-by_vlan
unfolding services_on_literals
returns-clause-by_vlan c = refl

pub returns-clause-last : goal.returns-clause-last
unfolding services_on_literals
returns-clause-last c = refl

pub returns-clause-rows : goal.returns-clause-rows
unfolding services_on_literals
returns-clause-rows c = refl
