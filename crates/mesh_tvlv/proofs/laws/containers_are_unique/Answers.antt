use Rattle.mesh_tvlv.proofs.SpellingLemmas.{unique}
use Rattle.mesh_tvlv.proofs.laws.containers_are_unique.Goals as goal

pub returns : goal.returns
returns c = unique
