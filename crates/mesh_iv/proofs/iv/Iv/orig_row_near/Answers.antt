use Rattle.std.proofs.Common.{◌≡◌, ◌∙◌, Some, ap, sym, rules}
use Rattle.mesh_model.specs.Routes.AlgorithmIv.{iv_life}
use Rattle.mesh_iv.specs.Origs.{row_of_life}
use Rattle.mesh_iv.proofs.OrigLemmas.{no_row_of_orig, row_is_of_orig}
use Rattle.mesh_iv.proofs.RowLemmas.{no_row, row_best, row_life}
use Rattle.mesh_iv.proofs.iv.Iv.orig_row_near.Goals as goal

pub returns-in_err-row : goal.returns-in_err-row
returns-in_err-row c =
    λ me log stands.
    c.from_residual.ensures ∙ no_row_of_orig me log c.args.now c.args.orig (no_row _ (sym (c.orig_near.ensures me log stands) ∙ search rules))

pub returns : goal.returns
returns c =
    λ me log stands.
    let row = c.in_ok-row.row in
    let is : row_of_life (iv_life me log c.args.now c.args.orig) ≡ Some row = sym (c.orig_near.ensures me log stands) ∙ search rules in
    ap Some c.row_with.ensures ∙ row_is_of_orig me log c.args.now c.args.orig row.life row.best (row_life _ row is) (row_best _ row is)
