use Rattle.std.proofs.Common.{refl}
use Rattle.mesh_rows.proofs.NetOnLiterals.{net_on_literals}
use Rattle.mesh_rows.proofs.net_rows.a_message_goes_out_on_all_links.Goals as goal

pub returns-clause-sent : goal.returns-clause-sent
unfolding net_on_literals
returns-clause-sent c = (refl, refl)

pub returns-clause-taken : goal.returns-clause-taken
unfolding net_on_literals
returns-clause-taken c = refl
