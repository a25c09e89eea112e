use Rattle.std.proofs.Common.{◌≡◌, refl, sym, ap, ◌∙◌, subst, ◌%◌, length, slice_index_or}
use Rattle.mesh_model.specs.Scenario.Terms.{held_mark}
use Rattle.mesh_post.specs.Kept.{RowIs}
use Rattle.mesh_post.proofs.LookUps.{got, some_one}
use Rattle.mesh_post.proofs.post.Post.lane.Goals as goal

pub returns-clause-stands : goal.returns-clause-stands
returns-clause-stands c = λ sendings mesh link stands found.
    let h = stands.rows.each c.args.way link found in
    let m = c.in_ok-turn.ensures.lookup in
    let row_is : h.row ≡ c.in_ok-row.row.now = some_one _ _ (sym h.found ∙ sym c.in_ok-row.ensures) in
    let is : RowIs mesh.nodes link c.in_ok-row.row.now = subst (RowIs mesh.nodes link) row_is h.is in
    let turn_is = stands.turns.each c.args.way c.in_ok-turn.field-0.now (rw (← c.deref.ensures.value) (got c.deref.result.now c.args.way c.in_ok-turn.field-0.now m.3.0 m.1)) in (
      _,
      refl,
      record {
        turn = turn_is;
        mark = c.mark.ensures ∙ ap (λ p. slice_index_or p (c.in_ok-turn.field-0.now % length p) held_mark) is.pattern;
        delay = is.delay;
        end = is.end;
        least = is.least;
        most = is.most;
      },
    )
