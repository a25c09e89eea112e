use Rattle.std.proofs.Common.{refl}
use Rattle.mesh_rows.proofs.NetOnLiterals.{net_on_literals}
use Rattle.mesh_rows.proofs.algorithm_rows.a_chain_is_worth_its_least_link.Goals as goal

pub returns-clause-ends : goal.returns-clause-ends
unfolding net_on_literals
returns-clause-ends c = (refl, refl)

pub returns-clause-between : goal.returns-clause-between
unfolding net_on_literals
returns-clause-between c = (refl, refl)
