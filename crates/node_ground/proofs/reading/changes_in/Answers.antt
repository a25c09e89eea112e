use Rattle.std.proofs.Common.{Bool, sym, ap, ◌∙◌, ◌++◌, ◌∷◌, [], arith}
use Rattle.mesh_base.specs.declared.client.Entry.{Entry}
use Rattle.mesh_model.specs.declared.table_change.Change.{Change}
use Rattle.mesh_tvlv.specs.Translation.{entry_and_deletion}
use Rattle.node_ground.proofs.ReadingLemmas.{mapped_more, some_at}
use Rattle.node_ground.proofs.reading.changes_in.Goals as goal
use Rattle.node_ground.proofs.reading.changes_in.Goals.{in-Some+in_ok-push, in_default}

pub loop-i-preserved : goal.loop-i-preserved
loop-i-preserved c =
    let told : Entry × Bool → Change = λ p. record { entry = p.0; del = p.1 } in
    let changes = c.args.table.now.changes in
    elim c.match-change_at.branch [
      | in-Some+in_ok-push w ↦ w.changes-is ∙ w.in_ok-push.ensures.ok ∙ ap (λ changes. changes ++ told (w.in-Some.entry, w.in-Some.del) ∷ []) c.loop-i.invariant
          ∙ sym (mapped_more entry_and_deletion told changes c.loop-i.i (w.in-Some.entry, w.in-Some.del) (sym c.change_at.ensures ∙ w.in-Some.is))
      | in_default w ↦ absurd (some_at entry_and_deletion changes c.loop-i.i (omega (arith, c.loop-i-test.true, c.changes-i-end.ensures)) (sym c.change_at.ensures ∙ w.in_default.is))
    ]
