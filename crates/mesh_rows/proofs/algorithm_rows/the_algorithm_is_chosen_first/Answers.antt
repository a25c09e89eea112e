use Rattle.std.proofs.Common.{refl}
use Rattle.mesh_rows.proofs.NetOnLiterals.{net_on_literals}
use Rattle.mesh_rows.proofs.algorithm_rows.the_algorithm_is_chosen_first.Goals as goal

pub returns-clause-before : goal.returns-clause-before
unfolding net_on_literals
returns-clause-before c = (refl, refl)

pub returns-clause-after : goal.returns-clause-after
unfolding net_on_literals
returns-clause-after c = (refl, refl, refl)

pub returns-clause-other : goal.returns-clause-other
unfolding net_on_literals
returns-clause-other c = (refl, refl, refl)

pub returns-clause-word : goal.returns-clause-word
unfolding net_on_literals
returns-clause-word c = (refl, refl, refl)

pub returns-clause-missing : goal.returns-clause-missing
unfolding net_on_literals
returns-clause-missing c = (refl, refl, refl)

pub returns-clause-extra : goal.returns-clause-extra
unfolding net_on_literals
returns-clause-extra c = (refl, refl, refl)
