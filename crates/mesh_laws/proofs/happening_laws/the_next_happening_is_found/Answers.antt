use Rattle.mesh_laws.proofs.Schedule.Due.{finds_next}
use Rattle.mesh_laws.proofs.happening_laws.the_next_happening_is_found.Goals as goal

pub returns : goal.returns
returns c = finds_next
