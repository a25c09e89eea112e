use Rattle.mesh_laws.proofs.HeldLemmas.{commits_are_told_whole}
use Rattle.mesh_laws.proofs.held_laws.told_commits_are_whole.Goals as goal

pub returns : goal.returns
returns c = commits_are_told_whole
