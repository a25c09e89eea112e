use Rattle.std.proofs.Common.{◌<◌, ◌++◌, [], ◌∷◌, List, length, take, Some, None, sym, ap, ◌∙◌, append-nil, arith, take_all}
use Rattle.std.specs.Prelude.{filter_map}
use Rattle.mesh_model.specs.declared.table_row.GlobalRow.{GlobalRow}
use Rattle.mesh_model.specs.Tables.Known.{originators_by}
use Rattle.mesh_show.specs.Inner.Parts.{live_row}
use Rattle.mesh_show.proofs.KnownLemmas.{found_next}
use Rattle.mesh_show.proofs.known.live_rows.Goals as goal
use Rattle.mesh_show.proofs.known.live_rows.Goals.{in-Some+in_ok-push, in_default}

pub loop-place-preserved : goal.loop-place-preserved
loop-place-preserved g c = λ me known algo tables.
    let row_of = live_row (g.A.Algo.queries me) known c.args.now in
    let origs = originators_by known.tables in
    let place = c.loop-place.place in
    let first = c.loop-place.invariant me known algo tables in
    let found = c.live_row_at.ensures me known algo tables in
    let within : place < length origs = omega (arith, c.loop-place-test.true, c.len-place-end.ensures known.tables tables) in
    elim c.match-live_row_at.branch [
      | in-Some+in_ok-push w ↦ ap (λ (rows : _). rows.items) w.rows-is ∙ w.in_ok-push.ensures.items ∙ ap (λ (rows : List GlobalRow). rows ++ w.in-Some.row ∷ []) first
          ∙ sym (found_next row_of origs place (Some w.in-Some.row) within (sym w.in-Some.is ∙ found))
      | in_default w ↦ ap (λ (rows : _). rows.items) w.rows-is ∙ first ∙ sym (append-nil (filter_map row_of (take place origs)))
          ∙ sym (found_next row_of origs place None within (sym w.in_default.is ∙ found))
    ]

pub returns : goal.returns
returns g c = λ me known algo tables.
    c.loop-place.invariant me known algo tables
    ∙ ap (filter_map (live_row (g.A.Algo.queries me) known c.args.now))
    (take_all c.loop-place.place (originators_by known.tables) (omega (arith, c.loop-place-test.false, c.len-place-end.ensures known.tables tables)))
