use Rattle.std.proofs.Common.{refl}
use Rattle.mesh_rows.proofs.NetOnLiterals.{net_on_literals}
use Rattle.mesh_rows.proofs.event_rows.events_of_a_lan_have_their_lines.Goals as goal

pub returns-clause-claim : goal.returns-clause-claim
unfolding net_on_literals
returns-clause-claim c = refl

pub returns-clause-unclaim : goal.returns-clause-unclaim
unfolding net_on_literals
returns-clause-unclaim c = refl

pub returns-clause-announce : goal.returns-clause-announce
unfolding net_on_literals
returns-clause-announce c = refl

pub returns-clause-other : goal.returns-clause-other
unfolding net_on_literals
returns-clause-other c = refl

pub returns-clause-reached : goal.returns-clause-reached
unfolding net_on_literals
returns-clause-reached c = refl
