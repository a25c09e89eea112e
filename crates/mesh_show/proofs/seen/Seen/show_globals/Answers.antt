use Rattle.std.proofs.Common.{◌≡◌, ◌++◌, ◌∙◌, ap, length, rules, arith}
use Rattle.mesh_model.specs.Knowledge.Steps.{knowledge}
use Rattle.std.specs.Prelude.{flat_map}
use Rattle.mesh_model.specs.Knowledge.Known.{Knowledge}
use Rattle.mesh_model.specs.Marks.RoamingMarks.{marks_at}
use Rattle.mesh_model.specs.Run.KnownTables.{parts_at}
use Rattle.mesh_model.specs.Text.GlobalTables.{global_header, mark_line, part_text}
use Rattle.mesh_show.specs.Inner.Parts.{held_part}
use Rattle.mesh_show.proofs.KnownLemmas.{parts_appended}
use Rattle.mesh_show.proofs.RowLemmas.{then_rows}
use Rattle.mesh_show.proofs.seen.Seen.show_globals.Goals as goal

pub returns : goal.returns
returns g c = λ row at.
    let queries = g.A.Algo.queries row.mac in
    let known : Knowledge = knowledge queries row.mac row.log in
    let now = c.args.self.now.moment in
    let name = c.args.self.now.name.now in
    let old = c.args.out.now.items in
    let held = c.globals-globals.ensures row.mac row.log at.standing in
    let marked = c.sync-sync.ensures row.mac row.log at.standing in
    let rows = c.as_slice.ensures.value ∙ c.in_ok-rows.ensures row.mac known (c.algo.ensures row.mac row.log at.standing) held in
    let marks = c.in_ok-marks.ensures (marks_at now known.marks) (λ place answer asked. search (rules, marked)) in
    let items : c.len.result ≡ length c.in_ok-rows.rows.items = omega (arith, c.len.ensures, c.in_ok-rows.rows.ok.0) in
    let counted : c.len.result ≡ length c.as_slice.result.now = omega (arith, items, ap length c.as_slice.ensures.value) in
    let parts = c.in_ok-put_lines.ensures (λ part. part_text (held_part known.tables part)) (λ old shown answer new put. search (rules, held)) in
    let lines = c.put_lines-2.ensures mark_line (λ old shown answer new put. search rules) in
    rw (g.met.A.Choosable.answers, at.named)
    (then_rows c.put_lines-2.result mark_line (global_header name (length (parts_at queries known now)) ++ flat_map part_text (parts_at queries known now)) old c.put_lines.new.out.items c.put_lines-2.new.out.items c.as_slice-2.result.now (marks_at now known.marks)
    (c.as_slice-2.ensures.value ∙ marks) (parts_appended queries known now c.len.result name old c.global_header.new.out.items c.put_lines.new.out.items c.as_slice.result.now rows counted c.in_ok-global_header.ensures.ok parts) lines)
