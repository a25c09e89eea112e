use Rattle.mesh_laws.proofs.DifferenceLemmas.{agrees_by_checksums}
use Rattle.mesh_laws.proofs.known_laws.agreement_is_of_checksums.Goals as goal

pub returns : goal.returns
returns c = agrees_by_checksums
