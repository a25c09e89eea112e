use Rattle.std.proofs.Common.{refl}
use Rattle.mesh_rows.proofs.NetOnLiterals.{net_on_literals}
use Rattle.mesh_rows.proofs.watch_rows.a_lost_route_is_told_at_the_next_happening.Goals as goal

pub returns : goal.returns
unfolding net_on_literals
returns c = (refl, refl)
