use Rattle.std.proofs.Common.{refl}
use Rattle.mesh_rows.proofs.NetOnLiterals.{net_on_literals}
use Rattle.mesh_rows.proofs.lan_rows.a_client_leaves_its_lan.Goals as goal

pub returns-clause-roamed : goal.returns-clause-roamed
unfolding net_on_literals
returns-clause-roamed c = (refl, refl)

pub returns-clause-gone : goal.returns-clause-gone
unfolding net_on_literals
returns-clause-gone c = (refl, refl)
