use Rattle.std.proofs.Common.{refl}
use Rattle.mesh_rows.proofs.ServicesOnLiterals.{services_on_literals}
use Rattle.mesh_rows.proofs.bridge_rows.a_frame_from_the_mesh_is_passed_by_its_spread.Goals as goal

pub returns-clause-holder : goal.returns-clause-holder
unfolding services_on_literals
returns-clause-holder c = refl

pub returns-clause-nobody : goal.returns-clause-nobody
unfolding services_on_literals
returns-clause-nobody c = refl

pub returns-clause-another : goal.returns-clause-another
unfolding services_on_literals
returns-clause-another c = refl

pub returns-clause-flood : goal.returns-clause-flood
unfolding services_on_literals
returns-clause-flood c = refl

pub returns-clause-flood_of_nobody : goal.returns-clause-flood_of_nobody
unfolding services_on_literals
returns-clause-flood_of_nobody c = refl

pub returns-clause-flood_of_another : goal.returns-clause-flood_of_another
unfolding services_on_literals
returns-clause-flood_of_another c = refl

pub returns-clause-same_lan : goal.returns-clause-same_lan
unfolding services_on_literals
returns-clause-same_lan c = refl

pub returns-clause-same_lan_of_nobody : goal.returns-clause-same_lan_of_nobody
unfolding services_on_literals
returns-clause-same_lan_of_nobody c = refl
