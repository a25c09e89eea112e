use Rattle.mesh_model.specs.Net.Runs.{begin}
use Rattle.mesh_laws.proofs.Schedule.Runs.{slices}
use Rattle.mesh_laws.proofs.Schedule.Kept.{fine_start}
use Rattle.mesh_laws.proofs.happening_laws.runs_may_be_cut.Goals as goal

pub returns : goal.returns
returns c = λ setup t u mesh can later low. slices setup t u (begin mesh) can.fits (fine_start t mesh can.sound can.begins) later low
