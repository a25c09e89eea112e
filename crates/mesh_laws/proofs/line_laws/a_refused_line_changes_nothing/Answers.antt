use Rattle.mesh_model.specs.Run.Rules.{carried_out}
use Rattle.mesh_laws.proofs.Lines.Printing.{ends_change_nothing, refused_changes_nothing}
use Rattle.mesh_laws.proofs.Lines.Ways.{led}
use Rattle.mesh_laws.proofs.line_laws.a_refused_line_changes_nothing.Goals as goal

pub returns-clause-refused : goal.returns-clause-refused
returns-clause-refused c = refused_changes_nothing

pub returns-clause-ends : goal.returns-clause-ends
returns-clause-ends c = λ setup state after command stop e. ends_change_nothing setup state after command stop (carried_out setup state command) (led setup state command) e
