use Rattle.std.proofs.Common.{refl}
use Rattle.mesh_rows.proofs.NetOnLiterals.{net_on_literals}
use Rattle.mesh_rows.proofs.session_rows.a_traceroute_goes_hop_by_hop.Goals as goal

pub returns : goal.returns
unfolding net_on_literals
returns c = (refl, refl)
