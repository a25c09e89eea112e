use Rattle.mesh_laws.proofs.Gateways.Joining.{empty_stands, runs_stand}
use Rattle.mesh_laws.proofs.Gateways.Standing.{happenings_stand}
use Rattle.mesh_laws.proofs.lan_laws.runs_keep_lans.Goals as goal

pub returns-clause-empty : goal.returns-clause-empty
returns-clause-empty c = empty_stands

pub returns-clause-happenings : goal.returns-clause-happenings
returns-clause-happenings c = happenings_stand

pub returns-clause-runs : goal.returns-clause-runs
returns-clause-runs c = runs_stand
