use Rattle.std.proofs.Common.{◌∙◌, ap, ap₂, unwrap_or}
use Rattle.mesh_model.specs.Routes.Hearings.{heard}
use Rattle.mesh_model.specs.Routes.Quality.{echoes_from}
use Rattle.mesh_algo.proofs.LifeRows.{none_is}
use Rattle.mesh_iv.specs.Tables.{path_at}
use Rattle.mesh_iv.proofs.ValueLemmas.{kept_none, kept_some}
use Rattle.mesh_iv.proofs.iv.Iv.path_before.Goals as goal

pub returns-then-is_none : goal.returns-then-is_none
returns-then-is_none c =
    λ me log is. c.new.ensures ∙ kept_none me log c.args.ogm.now c.args.life.now is.row_is (none_is c.args.life.now c.is_none.result c.is_none.ensures c.if-is_none.true)

pub returns : goal.returns
returns c =
    λ me log is.
    c.unwrap_or.ensures ∙ ap₂ (λ p b. unwrap_or p b) (c.path_near.ensures me log is.stands ∙ ap (λ p. path_at me (heard me log) (λ k. echoes_from me k log) p) c.pair.ensures) c.new-2.ensures
    ∙ kept_some me log c.args.ogm.now c.args.self.now c.args.life.now c.is_none.result is c.is_none.ensures c.if-is_none.false
