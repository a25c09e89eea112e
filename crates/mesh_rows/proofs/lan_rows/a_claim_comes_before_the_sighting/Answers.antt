use Rattle.std.proofs.Common.{refl}
use Rattle.mesh_rows.proofs.NetOnLiterals.{net_on_literals}
use Rattle.mesh_rows.proofs.lan_rows.a_claim_comes_before_the_sighting.Goals as goal

pub returns-clause-frames : goal.returns-clause-frames
unfolding net_on_literals
returns-clause-frames c = (refl, refl, refl)

pub returns-clause-vlans : goal.returns-clause-vlans
unfolding net_on_literals
returns-clause-vlans c = (refl, refl, refl)
