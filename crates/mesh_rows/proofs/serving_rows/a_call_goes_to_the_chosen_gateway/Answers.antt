use Rattle.std.proofs.Common.{refl}
use Rattle.mesh_rows.proofs.NetOnLiterals.{net_on_literals}
use Rattle.mesh_rows.proofs.serving_rows.a_call_goes_to_the_chosen_gateway.Goals as goal

pub returns-clause-called : goal.returns-clause-called
unfolding net_on_literals
returns-clause-called c = (refl, refl)

pub returns-clause-to_all : goal.returns-clause-to_all
unfolding net_on_literals
returns-clause-to_all c = (refl, refl)

pub returns-clause-shown : goal.returns-clause-shown
unfolding net_on_literals
returns-clause-shown c = (refl, refl)

pub returns-clause-alone : goal.returns-clause-alone
unfolding net_on_literals
returns-clause-alone c = (refl, refl)
