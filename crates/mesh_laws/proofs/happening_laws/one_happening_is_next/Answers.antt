use Rattle.mesh_laws.proofs.Schedule.Due.{one_next}
use Rattle.mesh_laws.proofs.happening_laws.one_happening_is_next.Goals as goal

pub returns : goal.returns
returns c = one_next
