use Rattle.mesh_tie.proofs.EventLemmas.{events_by_table_are_right}
use Rattle.mesh_tie.proofs.PrintLemmas.{lines_by_table_are_right}
use Rattle.mesh_tie.proofs.run_laws.lines_by_table_are_right.Goals as goal

pub returns-clause-events : goal.returns-clause-events
returns-clause-events c = events_by_table_are_right

pub returns-clause-lines : goal.returns-clause-lines
returns-clause-lines c = lines_by_table_are_right
