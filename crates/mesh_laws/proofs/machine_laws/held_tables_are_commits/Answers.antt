use Rattle.mesh_laws.proofs.MachineLemmas.{held_are_commits}
use Rattle.mesh_laws.proofs.machine_laws.held_tables_are_commits.Goals as goal

pub returns : goal.returns
returns c = held_are_commits
