use Rattle.std.proofs.Common.{◌≡◌, length, rules, arith}
use Rattle.mesh_model.specs.Knowledge.Steps.{knowledge}
use Rattle.mesh_model.specs.Text.Tables.{orig_line}
use Rattle.mesh_show.proofs.RowLemmas.{then_rows}
use Rattle.mesh_show.proofs.seen.Seen.show_originators.Goals as goal

pub returns : goal.returns
returns g c = λ row at.
    let rows = c.in_ok-rows.ensures row.mac (knowledge (g.A.Algo.queries row.mac) row.mac row.log).routes (c.algo.ensures row.mac row.log at.standing) in
    let lines = c.put_lines.ensures orig_line (λ old shown answer new put. search rules) in
    let counted : c.len.result ≡ length c.in_ok-rows.rows.items = omega (arith, c.len.ensures, c.in_ok-rows.rows.ok.0) in
    rw (g.met.A.Choosable.answers, at.named, ← rows, ← counted, ← c.algorithm.ensures)
    (then_rows c.put_lines.result orig_line _ c.args.out.now.items c.orig_header.new.out.items c.put_lines.new.out.items c.as_slice.result.now c.in_ok-rows.rows.items c.as_slice.ensures.value c.in_ok-orig_header.ensures.ok lines)
