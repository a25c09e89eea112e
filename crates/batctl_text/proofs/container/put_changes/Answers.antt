use Rattle.std.proofs.Common.{ℕ, List, sym, ap, ◌∙◌, arith}
use Rattle.mesh_base.specs.declared.client.Key.{Key}
use Rattle.mesh_model.specs.Text.ContainerLines.{change_line}
use Rattle.batctl_text.specs.Inner.Printed.{flags_and_client}
use Rattle.batctl_text.proofs.LinesLemmas.{appended_more, some_at}
use Rattle.batctl_text.proofs.container.put_changes.Goals as goal
use Rattle.batctl_text.proofs.container.put_changes.Goals.{in-Some+in_ok-change_line, in_default}

pub loop-i-preserved : goal.loop-i-preserved
loop-i-preserved c =
    let line : ℕ × Key → List ℕ = λ p. change_line (record { flags = p.0; key = p.1 }) in
    let changes = c.args.table.now.changes in
    elim c.match-record_at.branch [
      | in-Some+in_ok-change_line w ↦ appended_more flags_and_client line changes c.loop-i.i (w.in-Some.flags, w.in-Some.client) c.args.out.now.items c.loop-i.out.items c.match-record_at.out.items
          (sym c.record_at.ensures ∙ w.in-Some.is) c.loop-i.invariant (ap (λ p. p.items) w.out-is ∙ w.in_ok-change_line.ensures.ok)
      | in_default w ↦ absurd (some_at flags_and_client changes c.loop-i.i (omega (arith, c.loop-i-test.true, c.changes-i-end.ensures)) (sym c.record_at.ensures ∙ w.in_default.is))
    ]
