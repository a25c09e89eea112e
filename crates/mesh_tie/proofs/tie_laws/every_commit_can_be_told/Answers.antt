use Rattle.mesh_tie.proofs.FitLemmas.{commits_always_fit}
use Rattle.mesh_tie.proofs.tie_laws.every_commit_can_be_told.Goals as goal

pub returns : goal.returns
returns c = commits_always_fit
