use Rattle.mesh_laws.proofs.MachineLemmas.{told_are_commits}
use Rattle.mesh_laws.proofs.machine_laws.told_bytes_and_sums_are_of_commits.Goals as goal

pub returns : goal.returns
returns c = told_are_commits
