use Rattle.mesh_tie.proofs.LawLemmas.{gathered_are_committed}
use Rattle.mesh_tie.proofs.held_laws.gathered_parts_were_told_last.Goals as goal

pub returns : goal.returns
returns c = gathered_are_committed
