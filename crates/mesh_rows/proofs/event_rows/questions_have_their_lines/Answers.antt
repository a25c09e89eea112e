use Rattle.std.proofs.Common.{refl}
use Rattle.mesh_rows.proofs.NetOnLiterals.{net_on_literals}
use Rattle.mesh_rows.proofs.event_rows.questions_have_their_lines.Goals as goal

pub returns-clause-arp_off : goal.returns-clause-arp_off
unfolding net_on_literals
returns-clause-arp_off c = refl

pub returns-clause-unknown : goal.returns-clause-unknown
unfolding net_on_literals
returns-clause-unknown c = refl

pub returns-clause-cached : goal.returns-clause-cached
unfolding net_on_literals
returns-clause-cached c = refl

pub returns-clause-found : goal.returns-clause-found
unfolding net_on_literals
returns-clause-found c = refl

pub returns-clause-facts_off : goal.returns-clause-facts_off
unfolding net_on_literals
returns-clause-facts_off c = refl

pub returns-clause-no_primary : goal.returns-clause-no_primary
unfolding net_on_literals
returns-clause-no_primary c = refl

pub returns-clause-empty : goal.returns-clause-empty
unfolding net_on_literals
returns-clause-empty c = refl

pub returns-clause-fact : goal.returns-clause-fact
unfolding net_on_literals
returns-clause-fact c = refl
