use Rattle.std.proofs.Common.{refl}
use Rattle.mesh_rows.proofs.NetOnLiterals.{net_on_literals}
use Rattle.mesh_rows.proofs.serving_rows.a_late_choice_stays.Goals as goal

pub returns-clause-stays : goal.returns-clause-stays
unfolding net_on_literals
returns-clause-stays c = (refl, refl)

pub returns-clause-falls : goal.returns-clause-falls
unfolding net_on_literals
returns-clause-falls c = (refl, refl)
