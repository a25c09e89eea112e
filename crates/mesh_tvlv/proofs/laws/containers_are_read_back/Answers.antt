use Rattle.mesh_tvlv.proofs.SpellingLemmas.{read_back}
use Rattle.mesh_tvlv.proofs.laws.containers_are_read_back.Goals as goal

pub returns : goal.returns
returns c = read_back
