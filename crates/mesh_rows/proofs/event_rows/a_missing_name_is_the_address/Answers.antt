use Rattle.std.proofs.Common.{refl}
use Rattle.mesh_rows.proofs.NetOnLiterals.{net_on_literals}
use Rattle.mesh_rows.proofs.event_rows.a_missing_name_is_the_address.Goals as goal

pub returns : goal.returns
unfolding net_on_literals
returns c = refl
