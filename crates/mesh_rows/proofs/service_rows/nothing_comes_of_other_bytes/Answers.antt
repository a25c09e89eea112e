use Rattle.std.proofs.Common.{refl}
use Rattle.mesh_rows.proofs.ServicesOnLiterals.{services_on_literals}
use Rattle.mesh_rows.proofs.service_rows.nothing_comes_of_other_bytes.Goals as goal

pub returns-clause-whole : goal.returns-clause-whole
unfolding services_on_literals
returns-clause-whole c = refl

pub returns-clause-short : goal.returns-clause-short
unfolding services_on_literals
returns-clause-short c = refl

pub returns-clause-long : goal.returns-clause-long
unfolding services_on_literals
returns-clause-long c = refl

pub returns-clause-other_type : goal.returns-clause-other_type
unfolding services_on_literals
returns-clause-other_type c = refl

pub returns-clause-operation : goal.returns-clause-operation
unfolding services_on_literals
returns-clause-operation c = refl

pub returns-clause-subtype : goal.returns-clause-subtype
unfolding services_on_literals
returns-clause-subtype c = refl

pub returns-clause-vlans : goal.returns-clause-vlans
unfolding services_on_literals
returns-clause-vlans c = refl

pub returns-clause-no_vlans : goal.returns-clause-no_vlans
unfolding services_on_literals
returns-clause-no_vlans c = refl
