use Rattle.mesh_laws.proofs.HeldLemmas.{gathered_are_of_commits}
use Rattle.mesh_laws.proofs.held_laws.gathered_parts_are_of_commits.Goals as goal

pub returns : goal.returns
returns c = gathered_are_of_commits
