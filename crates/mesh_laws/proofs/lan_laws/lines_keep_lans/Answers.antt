use Rattle.mesh_laws.proofs.Gateways.Joining.{all_stand, deliveries_stand, inputs_stand, lans_stand, links_stand, nodes_stand, puts_stand}
use Rattle.mesh_laws.proofs.lan_laws.lines_keep_lans.Goals as goal

pub returns-clause-inputs : goal.returns-clause-inputs
returns-clause-inputs c = inputs_stand

pub returns-clause-gateways : goal.returns-clause-gateways
returns-clause-gateways c = all_stand

pub returns-clause-deliveries : goal.returns-clause-deliveries
returns-clause-deliveries c = deliveries_stand

pub returns-clause-puts : goal.returns-clause-puts
returns-clause-puts c = puts_stand

pub returns-clause-lans : goal.returns-clause-lans
returns-clause-lans c = lans_stand

pub returns-clause-nodes : goal.returns-clause-nodes
returns-clause-nodes c = nodes_stand

pub returns-clause-links : goal.returns-clause-links
returns-clause-links c = links_stand
