use Rattle.mesh_model.specs.Net.Runs.{begin}
use Rattle.mesh_laws.proofs.Schedule.Sound.{steps_keep_sound}
use Rattle.mesh_laws.proofs.Schedule.Kept.{sound_kept}
use Rattle.mesh_laws.proofs.sound_laws.runs_keep_sound.Goals as goal

pub returns-clause-happenings : goal.returns-clause-happenings
returns-clause-happenings c = steps_keep_sound

pub returns-clause-runs : goal.returns-clause-runs
returns-clause-runs c = λ setup t mesh. sound_kept setup t (begin mesh)
