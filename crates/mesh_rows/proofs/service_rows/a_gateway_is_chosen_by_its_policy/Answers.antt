use Rattle.std.proofs.Common.{refl}
use Rattle.mesh_rows.proofs.ServicesOnLiterals.{services_on_literals}
use Rattle.mesh_rows.proofs.service_rows.a_gateway_is_chosen_by_its_policy.Goals as goal

pub returns-clause-kept : goal.returns-clause-kept
unfolding services_on_literals
returns-clause-kept c = refl

pub returns-clause-left : goal.returns-clause-left
unfolding services_on_literals
returns-clause-left c = refl

pub returns-clause-none : goal.returns-clause-none
unfolding services_on_literals
returns-clause-none c = refl

pub returns-clause-best : goal.returns-clause-best
unfolding services_on_literals
returns-clause-best c = refl

pub returns-clause-smaller : goal.returns-clause-smaller
unfolding services_on_literals
returns-clause-smaller c = refl

pub returns-clause-stable : goal.returns-clause-stable
unfolding services_on_literals
returns-clause-stable c = refl

pub returns-clause-lost : goal.returns-clause-lost
unfolding services_on_literals
returns-clause-lost c = refl
