use Rattle.mesh_tie.proofs.LawLemmas.{agreed_are_told}
use Rattle.mesh_tie.proofs.held_laws.agreed_tables_were_told_last.Goals as goal

pub returns : goal.returns
returns c = agreed_are_told
