use Rattle.std.proofs.Common.{refl}
use Rattle.mesh_rows.proofs.NetOnLiterals.{net_on_literals}
use Rattle.mesh_rows.proofs.algorithm_rows.the_last_choice_counts.Goals as goal

pub returns-clause-none : goal.returns-clause-none
unfolding net_on_literals
returns-clause-none c = (refl, refl)

pub returns-clause-back : goal.returns-clause-back
unfolding net_on_literals
returns-clause-back c = (refl, refl)

pub returns-clause-last : goal.returns-clause-last
unfolding net_on_literals
returns-clause-last c = (refl, refl)
