use Rattle.std.proofs.Common.{◌≡◌, length, slice_get, sym, ap, ◌∙◌, take_all, arith}
use Rattle.mesh_show.proofs.RowLemmas.{rows-next, past-end}
use Rattle.mesh_show.proofs.rows.rows_of.Goals as goal

pub loop-row-preserved : goal.loop-row-preserved
loop-row-preserved g c = (
  c.loop-row.invariant.0,
  λ all answers.
      let rows = c.loop-row.rows.items in
      let at : c.len.result ≡ length rows = omega (arith, c.len.ensures, c.loop-row.rows.ok.0) in
      rows-next rows c.push.new.self.items all c.in-Some.row (c.loop-row.invariant.1 all answers) c.in_ok-push.ensures.items
      (sym c.in-Some.is ∙ answers c.len.result c.row_at.result c.row_at.ensures ∙ ap (slice_get all) at),
)

pub returns : goal.returns
returns g c = λ all answers.
    let rows = c.loop-row.rows.items in
    let past = past-end all c.len.result (sym (answers c.len.result c.row_at.result c.row_at.ensures) ∙ c.in_default.is) in
    c.loop-row.invariant.1 all answers ∙ take_all (length rows) all (omega (arith, past, c.len.ensures, c.loop-row.rows.ok.0))
