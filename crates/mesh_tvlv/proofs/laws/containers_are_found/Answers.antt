use Rattle.mesh_tvlv.proofs.FindingLemmas.{found}
use Rattle.mesh_tvlv.proofs.laws.containers_are_found.Goals as goal

pub returns : goal.returns
returns c = found
