use Rattle.mesh_laws.proofs.DifferenceLemmas.{finds_each_difference, finds_least_difference}
use Rattle.mesh_laws.proofs.known_laws.the_least_difference_is_found.Goals as goal

pub returns : goal.returns
returns c = record { each = finds_each_difference; least = finds_least_difference }
