use Rattle.std.proofs.Common.{refl}
use Rattle.mesh_rows.proofs.NetOnLiterals.{net_on_literals}
use Rattle.mesh_rows.proofs.net_rows.no_frame_is_delivered_before_one_is_sent.Goals as goal

pub returns-clause-first : goal.returns-clause-first
unfolding net_on_literals
returns-clause-first c = (refl, refl, refl)

pub returns-clause-zero : goal.returns-clause-zero
unfolding net_on_literals
returns-clause-zero c = (refl, refl, refl)

pub returns-clause-next : goal.returns-clause-next
unfolding net_on_literals
returns-clause-next c = (refl, refl, refl)
