use Rattle.std.proofs.Common.{◌≡◌, true, false, List, slice_get, slice_set, Some, sym, ap, ◌∙◌, arith}
use Rattle.mesh_post.specs.declared.row.Row.{Row}
use Rattle.mesh_post.specs.Inner.Links.{between}
use Rattle.mesh_post.proofs.LookUps.{got}
use Rattle.mesh_post.proofs.RowLemmas.{noted_more}
use Rattle.mesh_post.proofs.rows.note.Goals as goal
use Rattle.mesh_post.proofs.rows.note.Goals.{then-leads, else-leads}

pub loop-place-preserved : goal.loop-place-preserved
loop-place-preserved c =
    let rows : List Row = c.args.rows.now in
    let place = c.loop-place.place in
    let row : Row = c.index-rows-place.result in
    let test = between c.args.from c.args.to in
    let found : slice_get rows place ≡ Some row = got rows place row (omega arith) c.index-rows-place.is in
    elim c.if-leads.branch [
      | then-leads w ↦ ap (λ (backs : _). backs.items) w.backs-is ∙ w.set_back.ensures ∙ ap (λ ns. slice_set ns place c.args.tp) c.loop-place.invariant
          ∙ sym (noted_more test c.args.tp rows c.args.backs.now.items place row true found (sym c.leads.ensures ∙ w.if-leads.true))
      | else-leads w ↦ ap (λ (backs : _). backs.items) w.backs-is ∙ c.loop-place.invariant
          ∙ sym (noted_more test c.args.tp rows c.args.backs.now.items place row false found (sym c.leads.ensures ∙ w.if-leads.false))
    ]
