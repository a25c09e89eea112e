use Rattle.mesh_tie.proofs.ShownLemmas.{shown_tables_are_committed}
use Rattle.mesh_tie.proofs.TablePrints.{printed_tables_are_committed}
use Rattle.mesh_tie.proofs.run_laws.shown_tables_are_committed.Goals as goal

pub returns-clause-shown : goal.returns-clause-shown
returns-clause-shown c = shown_tables_are_committed

pub returns-clause-printed : goal.returns-clause-printed
returns-clause-printed c = printed_tables_are_committed
