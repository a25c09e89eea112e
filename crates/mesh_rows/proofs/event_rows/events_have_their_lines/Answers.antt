use Rattle.std.proofs.Common.{refl}
use Rattle.mesh_rows.proofs.NetOnLiterals.{net_on_literals}
use Rattle.mesh_rows.proofs.event_rows.events_have_their_lines.Goals as goal

pub returns-clause-frame : goal.returns-clause-frame
unfolding net_on_literals
returns-clause-frame c = refl

pub returns-clause-received : goal.returns-clause-received
unfolding net_on_literals
returns-clause-received c = refl

pub returns-clause-lost : goal.returns-clause-lost
unfolding net_on_literals
returns-clause-lost c = refl

pub returns-clause-alias : goal.returns-clause-alias
unfolding net_on_literals
returns-clause-alias c = refl
