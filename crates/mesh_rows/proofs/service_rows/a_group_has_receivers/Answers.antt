use Rattle.std.proofs.Common.{refl}
use Rattle.mesh_rows.proofs.ServicesOnLiterals.{services_on_literals}
use Rattle.mesh_rows.proofs.service_rows.a_group_has_receivers.Goals as goal

pub returns-clause-nobody : goal.returns-clause-nobody
unfolding services_on_literals
returns-clause-nobody c = refl

pub returns-clause-each : goal.returns-clause-each
unfolding services_on_literals
returns-clause-each c = refl

pub returns-clause-flood : goal.returns-clause-flood
unfolding services_on_literals
returns-clause-flood c = refl

pub returns-clause-all_hosts : goal.returns-clause-all_hosts
unfolding services_on_literals
returns-clause-all_hosts c = refl

pub returns-clause-all_nodes : goal.returns-clause-all_nodes
unfolding services_on_literals
returns-clause-all_nodes c = refl

pub returns-clause-other : goal.returns-clause-other
unfolding services_on_literals
returns-clause-other c = refl

pub returns-clause-ipv4 : goal.returns-clause-ipv4
unfolding services_on_literals
returns-clause-ipv4 c = refl

pub returns-clause-ipv6 : goal.returns-clause-ipv6
unfolding services_on_literals
returns-clause-ipv6 c = refl

pub returns-clause-unflagged : goal.returns-clause-unflagged
unfolding services_on_literals
returns-clause-unflagged c = refl
