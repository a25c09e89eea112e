use Rattle.std.proofs.Common.{refl}
use Rattle.mesh_rows.proofs.NetOnLiterals.{net_on_literals}
use Rattle.mesh_rows.proofs.lan_rows.a_claim_is_made_anew.Goals as goal

pub returns : goal.returns
unfolding net_on_literals
returns c = (refl, refl)
