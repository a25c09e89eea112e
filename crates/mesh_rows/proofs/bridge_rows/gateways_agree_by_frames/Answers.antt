use Rattle.std.proofs.Common.{refl}
use Rattle.mesh_rows.proofs.ServicesOnLiterals.{services_on_literals}
use Rattle.mesh_rows.proofs.bridge_rows.gateways_agree_by_frames.Goals as goal

pub returns-clause-claim : goal.returns-clause-claim
unfolding services_on_literals
returns-clause-claim c = refl

pub returns-clause-announcement : goal.returns-clause-announcement
unfolding services_on_literals
returns-clause-announcement c = refl

pub returns-clause-read : goal.returns-clause-read
unfolding services_on_literals
returns-clause-read c = refl

pub returns-clause-given_up : goal.returns-clause-given_up
unfolding services_on_literals
returns-clause-given_up c = refl

pub returns-clause-told : goal.returns-clause-told
unfolding services_on_literals
returns-clause-told c = refl

pub returns-clause-cut : goal.returns-clause-cut
unfolding services_on_literals
returns-clause-cut c = refl

pub returns-clause-carried : goal.returns-clause-carried
unfolding services_on_literals
returns-clause-carried c = refl
