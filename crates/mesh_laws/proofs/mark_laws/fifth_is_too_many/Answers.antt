use Rattle.mesh_laws.proofs.MarkLemmas.{nth_young}
use Rattle.mesh_laws.proofs.mark_laws.fifth_is_too_many.Goals as goal

pub returns : goal.returns
returns c = λ now sent falls. nth_young now sent 4 falls
