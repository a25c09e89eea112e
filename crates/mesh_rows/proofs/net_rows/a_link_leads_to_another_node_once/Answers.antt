use Rattle.std.proofs.Common.{refl}
use Rattle.mesh_rows.proofs.NetOnLiterals.{net_on_literals}
use Rattle.mesh_rows.proofs.net_rows.a_link_leads_to_another_node_once.Goals as goal

pub returns-clause-itself : goal.returns-clause-itself
unfolding net_on_literals
returns-clause-itself c = (refl, refl, refl)

pub returns-clause-taken : goal.returns-clause-taken
unfolding net_on_literals
returns-clause-taken c = (refl, refl, refl)

pub returns-clause-unknown : goal.returns-clause-unknown
unfolding net_on_literals
returns-clause-unknown c = (refl, refl, refl)
