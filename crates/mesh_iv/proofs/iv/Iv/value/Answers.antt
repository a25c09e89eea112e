use Rattle.std.proofs.Common.{◌∙◌, ◌∷◌, ap, ap₂, sym, length, max}
use Rattle.std.proofs.lemmas.Bool.{not-false}
use Rattle.mesh_model.specs.Routes.Numbers.{greatest, seen_among, window, window_length}
use Rattle.mesh_model.specs.Routes.Quality.{transmit_quality}
use Rattle.mesh_algo.proofs.HearingLemmas.{timely_from, top_is}
use Rattle.mesh_iv.specs.Hears.{hearing_of, life_before}
use Rattle.mesh_iv.proofs.ValueLemmas.{receive_own}
use Rattle.mesh_iv.proofs.iv.Iv.value.Goals as goal

pub returns : goal.returns
returns c =
    λ me log row is_first top.
    let is = is_first.is in
    let came = c.args.ogm.now in
    c.transmit_quality-2.ensures
    ∙ ap₂ (λ e r. transmit_quality came.tq e r) (c.echo_quality-echo.ensures me log is.stands)
    (c.count_to.ensures.counted
    ∙ ap (λ w. length (seen_among (max c.args.newest (greatest w)) window_length w)) (c.see.ensures ∙ ap (λ p. window (came.seq ∷ p.heard)) is_first.path_is)
    ∙ receive_own me log came c.args.newest (timely_from (hearing_of me log came) (life_before me log came) is_first.first) (not-false _ (sym c.ne.ensures ∙ c.if-ne.false)) (top_is (hearing_of me log came) (life_before me log came) row c.args.newest is.row_is top))
