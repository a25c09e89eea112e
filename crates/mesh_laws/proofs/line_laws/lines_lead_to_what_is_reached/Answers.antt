use Rattle.mesh_model.specs.Run.Rules.{carried_out}
use Rattle.mesh_laws.proofs.Lines.Keeping.{first_is_reached, outcome_reached}
use Rattle.mesh_laws.proofs.Lines.Reached.{happenings_are_reached, runs_are_reached}
use Rattle.mesh_laws.proofs.Lines.Ways.{led}
use Rattle.mesh_laws.proofs.line_laws.lines_lead_to_what_is_reached.Goals as goal

pub returns-clause-first : goal.returns-clause-first
returns-clause-first c = first_is_reached

pub returns-clause-runs : goal.returns-clause-runs
returns-clause-runs c = runs_are_reached

pub returns-clause-happenings : goal.returns-clause-happenings
returns-clause-happenings c = happenings_are_reached

pub returns-clause-commands : goal.returns-clause-commands
returns-clause-commands c = λ setup state command fits r delay. outcome_reached setup state command (carried_out setup state command) fits r delay (led setup state command)
