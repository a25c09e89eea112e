use Rattle.std.proofs.Common.{refl}
use Rattle.mesh_rows.proofs.ServicesOnLiterals.{services_on_literals}
use Rattle.mesh_rows.proofs.service_rows.fact_messages_are_read_as_they_were_spelled.Goals as goal

pub returns-clause-part : goal.returns-clause-part
unfolding services_on_literals
returns-clause-part c = refl

pub returns-clause-end : goal.returns-clause-end
unfolding services_on_literals
returns-clause-end c = refl

pub returns-clause-primary : goal.returns-clause-primary
unfolding services_on_literals
returns-clause-primary c = refl

pub returns-clause-request : goal.returns-clause-request
unfolding services_on_literals
returns-clause-request c = refl

pub returns-clause-too_long : goal.returns-clause-too_long
unfolding services_on_literals
returns-clause-too_long c = refl
