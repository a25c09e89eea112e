use Rattle.std.proofs.Common.{refl}
use Rattle.mesh_rows.proofs.ServicesOnLiterals.{services_on_literals}
use Rattle.mesh_rows.proofs.bridge_rows.a_frame_from_the_lan_is_passed_by_the_holder.Goals as goal

pub returns-clause-holder : goal.returns-clause-holder
unfolding services_on_literals
returns-clause-holder c = refl

pub returns-clause-renewed : goal.returns-clause-renewed
unfolding services_on_literals
returns-clause-renewed c = refl

pub returns-clause-nobody : goal.returns-clause-nobody
unfolding services_on_literals
returns-clause-nobody c = refl

pub returns-clause-another : goal.returns-clause-another
unfolding services_on_literals
returns-clause-another c = refl
