use Rattle.std.proofs.Common.{◌∙◌, sym}
use Rattle.mesh_algo.proofs.table.stands_at.Goals as goal

pub returns-in-Some : goal.returns-in-Some
returns-in-Some g c = λ t. (c.in-Some.other.now, c.in-Some.field-0-1.now, sym c.in-Some.ensures.entry, sym c.eq.ensures ∙ t)
