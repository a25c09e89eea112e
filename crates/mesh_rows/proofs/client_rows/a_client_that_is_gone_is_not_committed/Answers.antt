use Rattle.std.proofs.Common.{refl}
use Rattle.mesh_rows.proofs.NetOnLiterals.{net_on_literals}
use Rattle.mesh_rows.proofs.client_rows.a_client_that_is_gone_is_not_committed.Goals as goal

pub returns : goal.returns
unfolding net_on_literals
returns c = (refl, refl)
