use Rattle.mesh_laws.proofs.CandidateLemmas.{candidates_are_among, candidates_are_in_order, candidates_are_nearest, candidates_are_three}
use Rattle.mesh_laws.proofs.address_laws.a_pair_is_kept_by_the_nearest.Goals as goal

pub returns : goal.returns
returns c = record { three = candidates_are_three; among = candidates_are_among; nearest = candidates_are_nearest; order = candidates_are_in_order }
