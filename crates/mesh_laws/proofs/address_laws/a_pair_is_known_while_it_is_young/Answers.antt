use Rattle.mesh_laws.proofs.PairLemmas.{known_while_young}
use Rattle.mesh_laws.proofs.address_laws.a_pair_is_known_while_it_is_young.Goals as goal

pub returns : goal.returns
returns c = known_while_young
