use Rattle.std.proofs.Common.{refl}
use Rattle.mesh_rows.proofs.NetOnLiterals.{net_on_literals}
use Rattle.mesh_rows.proofs.algorithm_rows.pings_and_tables_go_under_v.Goals as goal

pub returns-clause-ping : goal.returns-clause-ping
unfolding net_on_literals
returns-clause-ping c = (refl, refl)

pub returns-clause-table : goal.returns-clause-table
unfolding net_on_literals
returns-clause-table c = (refl, refl)
