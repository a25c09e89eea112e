use Rattle.mesh_laws.proofs.MarkLemmas.{ascends, marks_kept}
use Rattle.mesh_laws.proofs.mark_laws.listed_mark.Goals as goal

pub returns : goal.returns
returns c = record { each = marks_kept; in_order = ascends }
