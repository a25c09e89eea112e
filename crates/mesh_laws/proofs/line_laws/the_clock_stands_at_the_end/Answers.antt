use Rattle.mesh_model.specs.Run.Rules.{carried_out}
use Rattle.mesh_laws.proofs.Lines.Quiet.{clock_at_end, goes_quiet}
use Rattle.mesh_laws.proofs.Lines.Ways.{led}
use Rattle.mesh_laws.proofs.line_laws.the_clock_stands_at_the_end.Goals as goal

pub returns-clause-clock : goal.returns-clause-clock
returns-clause-clock c = clock_at_end

pub returns-clause-quiet : goal.returns-clause-quiet
returns-clause-quiet c = λ setup state after command fits r delay e. goes_quiet setup state after command (carried_out setup state command) fits r delay (led setup state command) e
