use Rattle.mesh_tie.proofs.LawLemmas.{meshes_are_tied}
use Rattle.mesh_tie.proofs.tie_laws.meshes_are_tied.Goals as goal

pub returns : goal.returns
returns c = meshes_are_tied
