use Rattle.mesh_tie.proofs.VLemmas.{algorithms_keep}
use Rattle.mesh_tie.proofs.tie_laws.algorithms_keep_originators.Goals as goal

pub returns : goal.returns
returns c = algorithms_keep
