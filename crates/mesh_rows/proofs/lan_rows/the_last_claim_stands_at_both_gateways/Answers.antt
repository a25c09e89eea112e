use Rattle.std.proofs.Common.{refl}
use Rattle.mesh_rows.proofs.NetOnLiterals.{net_on_literals}
use Rattle.mesh_rows.proofs.lan_rows.the_last_claim_stands_at_both_gateways.Goals as goal

pub returns : goal.returns
unfolding net_on_literals
returns c = (refl, refl)
