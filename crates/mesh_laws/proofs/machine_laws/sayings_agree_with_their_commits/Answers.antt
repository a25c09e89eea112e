use Rattle.mesh_laws.proofs.MachineLemmas.{sayings_agree}
use Rattle.mesh_laws.proofs.machine_laws.sayings_agree_with_their_commits.Goals as goal

pub returns : goal.returns
returns c = sayings_agree
