use Rattle.std.proofs.Common.{refl}
use Rattle.mesh_rows.proofs.NetOnLiterals.{net_on_literals}
use Rattle.mesh_rows.proofs.restart_rows.a_reboot_is_of_a_node_without_a_lan.Goals as goal

pub returns-clause-word : goal.returns-clause-word
unfolding net_on_literals
returns-clause-word c = (refl, refl, refl)

pub returns-clause-more : goal.returns-clause-more
unfolding net_on_literals
returns-clause-more c = (refl, refl, refl)

pub returns-clause-name : goal.returns-clause-name
unfolding net_on_literals
returns-clause-name c = (refl, refl, refl)

pub returns-clause-lan : goal.returns-clause-lan
unfolding net_on_literals
returns-clause-lan c = (refl, refl, refl)

pub returns-clause-gateway : goal.returns-clause-gateway
unfolding net_on_literals
returns-clause-gateway c = (refl, refl, refl)
