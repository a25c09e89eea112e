use Rattle.mesh_laws.proofs.HeldLemmas.{known_are_of_commits}
use Rattle.mesh_laws.proofs.held_laws.held_tables_are_of_commits.Goals as goal

pub returns : goal.returns
returns c = known_are_of_commits
