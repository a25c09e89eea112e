use Rattle.std.proofs.Common.{refl}
use Rattle.mesh_rows.proofs.NetOnLiterals.{net_on_literals}
use Rattle.mesh_rows.proofs.serving_rows.a_group_goes_to_its_receivers.Goals as goal

pub returns-clause-named : goal.returns-clause-named
unfolding net_on_literals
returns-clause-named c = (refl, refl)

pub returns-clause-wanted : goal.returns-clause-wanted
unfolding net_on_literals
returns-clause-wanted c = (refl, refl)

pub returns-clause-here : goal.returns-clause-here
unfolding net_on_literals
returns-clause-here c = (refl, refl)
