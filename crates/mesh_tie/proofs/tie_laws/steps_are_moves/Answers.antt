use Rattle.mesh_tie.proofs.LawLemmas.{steps_are_moves}
use Rattle.mesh_tie.proofs.tie_laws.steps_are_moves.Goals as goal

pub returns : goal.returns
returns c = steps_are_moves
