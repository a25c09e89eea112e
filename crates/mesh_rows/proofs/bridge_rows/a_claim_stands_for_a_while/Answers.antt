use Rattle.std.proofs.Common.{refl}
use Rattle.mesh_rows.proofs.ServicesOnLiterals.{services_on_literals}
use Rattle.mesh_rows.proofs.bridge_rows.a_claim_stands_for_a_while.Goals as goal

pub returns-clause-young : goal.returns-clause-young
unfolding services_on_literals
returns-clause-young c = refl

pub returns-clause-old : goal.returns-clause-old
unfolding services_on_literals
returns-clause-old c = refl

pub returns-clause-another : goal.returns-clause-another
unfolding services_on_literals
returns-clause-another c = refl

pub returns-clause-given_up : goal.returns-clause-given_up
unfolding services_on_literals
returns-clause-given_up c = refl

pub returns-clause-row : goal.returns-clause-row
unfolding services_on_literals
returns-clause-row c = refl

pub returns-clause-own : goal.returns-clause-own
unfolding services_on_literals
returns-clause-own c = refl

pub returns-clause-lost : goal.returns-clause-lost
unfolding services_on_literals
returns-clause-lost c = refl
