use Rattle.std.proofs.Common.{refl}
use Rattle.mesh_rows.proofs.NetOnLiterals.{net_on_literals}
use Rattle.mesh_rows.proofs.ServicesOnLiterals.{services_on_literals}
use Rattle.mesh_rows.proofs.fact_rows.a_secondary_asks_its_primary.Goals as goal

pub returns : goal.returns
unfolding net_on_literals services_on_literals
returns c = (refl, refl)
