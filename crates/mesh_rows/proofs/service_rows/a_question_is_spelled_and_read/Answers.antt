use Rattle.std.proofs.Common.{refl}
use Rattle.mesh_rows.proofs.ServicesOnLiterals.{services_on_literals}
use Rattle.mesh_rows.proofs.service_rows.a_question_is_spelled_and_read.Goals as goal

pub returns-clause-spelled : goal.returns-clause-spelled
unfolding services_on_literals
returns-clause-spelled c = refl

pub returns-clause-read : goal.returns-clause-read
unfolding services_on_literals
returns-clause-read c = refl
