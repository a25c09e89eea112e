use Rattle.std.proofs.Common.{◌≡◌, ◌+◌, ◌-◌, Ok, take, subst, arith}
use Rattle.mesh_model.specs.Tables.Strict.{change_each}
use Rattle.tt_table.specs.Entries.{half}
use Rattle.tt_table.proofs.StrictLemmas.{any_change, half_chosen, step_undone}
use Rattle.tt_table.proofs.entries.Entries.undo_all.Goals as goal

pub loop-left-preserved-then-change-del : goal.loop-left-preserved-then-change-del
loop-left-preserved-then-change-del c =
    let cs = c.args.changes.now in
    let del = c.args.del in
    let i = c.loop-left.left - 1 in
    let before = c.loop-left.invariant in
    let up : c.loop-left.left ≡ i + 1 = omega arith in
    let chosen = half_chosen del _ c.if-change-del.true in
    let told = rw c.reversed.ensures at c.change.ensures.told in record {
      within = omega arith;
      undone = λ table order made.
          step_undone del cs i any_change (omega arith) chosen table c.loop-left.self.entries c.change.new.self.entries c.change.result order
          (subst (λ n. change_each (half del (take n cs)) table ≡ Ok c.loop-left.self.entries) up (before.undone table order made)) told;
      room = λ e. let room = before.room e in let grown = c.change.ensures.grown in let capacity = c.change.ensures.capacity in omega (arith, room, grown, capacity);
      capacity = let capacity = c.change.ensures.capacity in omega arith;
    }
