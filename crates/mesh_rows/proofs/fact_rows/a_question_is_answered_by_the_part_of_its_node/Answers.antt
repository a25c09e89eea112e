use Rattle.std.proofs.Common.{refl}
use Rattle.mesh_rows.proofs.NetOnLiterals.{net_on_literals}
use Rattle.mesh_rows.proofs.ServicesOnLiterals.{services_on_literals}
use Rattle.mesh_rows.proofs.fact_rows.a_question_is_answered_by_the_part_of_its_node.Goals as goal

pub returns-clause-primary : goal.returns-clause-primary
unfolding net_on_literals services_on_literals
returns-clause-primary c = (refl, refl)

pub returns-clause-secondary : goal.returns-clause-secondary
unfolding net_on_literals services_on_literals
returns-clause-secondary c = (refl, refl)
