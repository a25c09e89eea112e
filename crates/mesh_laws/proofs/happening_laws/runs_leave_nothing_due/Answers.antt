use Rattle.mesh_model.specs.Net.Runs.{begin}
use Rattle.mesh_laws.proofs.Schedule.Runs.{ends}
use Rattle.mesh_laws.proofs.Schedule.Kept.{fine_start, runs_end_quiet}
use Rattle.mesh_laws.proofs.Schedule.Added.{all_carried}
use Rattle.mesh_laws.proofs.happening_laws.runs_leave_nothing_due.Goals as goal

pub returns-clause-turns : goal.returns-clause-turns
returns-clause-turns c = λ setup t mesh can. ends setup t (begin mesh) can.fits (fine_start t mesh can.sound can.begins) can.ends

pub returns-clause-quiet : goal.returns-clause-quiet
returns-clause-quiet c = λ setup t mesh can. runs_end_quiet setup t (begin mesh) can.fits (fine_start t mesh can.sound can.begins) can.ends

pub returns-clause-all : goal.returns-clause-all
returns-clause-all c = λ setup t mesh x can. all_carried setup t (begin mesh) x can.fits (fine_start t mesh can.sound can.begins) can.ends
