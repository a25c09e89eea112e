use Rattle.std.proofs.Common.{◌∙◌, ap, sym, Ok, arith}
use Rattle.mesh_model.specs.Tables.Strict.{change_each}
use Rattle.tt_table.proofs.StrictLemmas.{any_change, half_chosen, half_deleted, half_other, half_passed, step_failed, step_made}
use Rattle.tt_table.proofs.entries.Entries.change_all.Goals as goal
use Rattle.tt_table.proofs.entries.Entries.change_all.Goals.{else-change-del-via-then-change-del+else-not-change, else-change-del-via-else-change-del}

pub returns-then-not-change-clause-outcome : goal.returns-then-not-change-clause-outcome
returns-then-not-change-clause-outcome c =
    let cs = c.args.changes.now in
    let told = c.if-not-change.ensures.told in
    let made = c.loop-place.invariant.made in
    let chosen = half_chosen c.args.del _ c.if-change-del.true in (
      step_failed c.args.del cs c.loop-place.place any_change (omega arith) chosen c.args.self.now.entries c.loop-place.self.entries made told.0,
      c.undo_all.ensures.undone c.args.self.now.entries c.tell_order.ensures.order (made ∙ ap Ok (sym told.1)),
    )

pub loop-place-preserved : goal.loop-place-preserved
loop-place-preserved c =
    let cs = c.args.changes.now in
    let i = c.loop-place.place in
    let before = c.loop-place.invariant in
    elim c.else-change-del.branch [
      | else-change-del-via-then-change-del+else-not-change w ↦
          let told = w.if-not-change.ensures.told in
          let chosen = half_chosen c.args.del _ w.if-change-del.true in
          let grown = w.if-not-change.ensures.grown in
          let shrunk = w.if-not-change.ensures.shrunk in
          let capacity = w.if-not-change.ensures.capacity in
          rw w.self-is (record {
            made = step_made c.args.del cs i any_change (omega arith) chosen c.args.self.now.entries c.loop-place.self.entries w.change.new.self.entries before.made told;
            grown = omega arith;
            shrunk = λ e. let less = shrunk (half_deleted c.args.del _ e chosen) in let start = before.shrunk e in omega (arith, less, start);
            capacity = omega arith;
          })
      | else-change-del-via-else-change-del w ↦
          let other = half_other c.args.del _ w.if-change-del.false in
          rw w.self-is (record {
            made = ap (λ l. change_each l c.args.self.now.entries) (half_passed c.args.del cs i any_change (omega arith) other) ∙ before.made;
            grown = omega arith;
            shrunk = before.shrunk;
            capacity = before.capacity;
          })
    ]
