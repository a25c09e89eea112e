use Rattle.mesh_tie.proofs.LawLemmas.{held_are_committed}
use Rattle.mesh_tie.proofs.held_laws.held_tables_were_committed.Goals as goal

pub returns : goal.returns
returns c = held_are_committed
