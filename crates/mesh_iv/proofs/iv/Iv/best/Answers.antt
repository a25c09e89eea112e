use Rattle.std.proofs.Common.{◌∙◌, ap}
use Rattle.mesh_iv.specs.Origs.{best_kept}
use Rattle.mesh_iv.proofs.RowLemmas.{best_is_kept}
use Rattle.mesh_iv.proofs.iv.Iv.best.Goals as goal

pub returns : goal.returns
returns c = λ me log stands. c.best_kept.ensures ∙ ap best_kept (c.orig.ensures me log stands) ∙ best_is_kept _
