use Rattle.std.proofs.Common.{◌∙◌, ap}
use Rattle.mesh_iv.specs.Origs.{life_in}
use Rattle.mesh_iv.proofs.RowLemmas.{life_kept}
use Rattle.mesh_iv.proofs.iv.Iv.life.Goals as goal

pub returns : goal.returns
returns c = λ me log stands. c.life_in.ensures ∙ ap life_in (c.orig.ensures me log stands) ∙ life_kept _
