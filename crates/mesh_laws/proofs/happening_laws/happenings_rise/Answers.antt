use Rattle.mesh_laws.proofs.Schedule.Sound.{steps_rise}
use Rattle.mesh_laws.proofs.Schedule.Kept.{later_is_later}
use Rattle.mesh_laws.proofs.Schedule.Added.{nothing_before}
use Rattle.mesh_laws.proofs.happening_laws.happenings_rise.Goals as goal

pub returns-clause-last : goal.returns-clause-last
returns-clause-last c = steps_rise

pub returns-clause-later : goal.returns-clause-later
returns-clause-later c = later_is_later

pub returns-clause-added : goal.returns-clause-added
returns-clause-added c = nothing_before
