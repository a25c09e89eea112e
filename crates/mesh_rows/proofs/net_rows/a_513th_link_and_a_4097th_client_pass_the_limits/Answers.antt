use Rattle.std.proofs.Common.{refl}
use Rattle.mesh_rows.proofs.NetOnLiterals.{net_on_literals}
use Rattle.mesh_rows.proofs.net_rows.a_513th_link_and_a_4097th_client_pass_the_limits.Goals as goal

pub returns-clause-links : goal.returns-clause-links
unfolding net_on_literals
returns-clause-links c = refl

pub returns-clause-past : goal.returns-clause-past
unfolding net_on_literals
returns-clause-past c = refl

pub returns-clause-clients : goal.returns-clause-clients
unfolding net_on_literals
returns-clause-clients c = refl

pub returns-clause-client : goal.returns-clause-client
unfolding net_on_literals
returns-clause-client c = refl
