use Rattle.std.proofs.Common.{refl}
use Rattle.mesh_rows.proofs.NetOnLiterals.{net_on_literals}
use Rattle.mesh_rows.proofs.net_rows.a_limit_ends_a_run_in_its_middle.Goals as goal

pub returns-clause-between : goal.returns-clause-between
unfolding net_on_literals
returns-clause-between c = (refl, refl, refl)

pub returns-clause-within : goal.returns-clause-within
unfolding net_on_literals
returns-clause-within c = (refl, refl, refl)

pub returns-clause-bytes : goal.returns-clause-bytes
unfolding net_on_literals
returns-clause-bytes c = (refl, refl, refl)

pub returns-clause-both : goal.returns-clause-both
unfolding net_on_literals
returns-clause-both c = (refl, refl, refl)
