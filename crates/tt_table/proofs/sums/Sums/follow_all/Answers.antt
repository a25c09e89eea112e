use Rattle.std.proofs.Common.{◌∙◌, ◌+◌, ap, length, subst, sym, take, arith}
use Rattle.std.proofs.lemmas.List.{take_all}
use Rattle.mesh_model.specs.Tables.Strict.{change_each}
use Rattle.tt_table.specs.Entries.{half}
use Rattle.tt_table.specs.Sums.{AreFew}
use Rattle.tt_table.proofs.StrictLemmas.{any_change, half_chosen, half_counted, half_other, half_passed, half_within, step_last}
use Rattle.tt_table.proofs.TotalsLemmas.{less_few}
use Rattle.tt_table.proofs.sums.Sums.follow_all.Goals as goal
use Rattle.tt_table.proofs.sums.Sums.follow_all.Goals.{then-change-del, else-change-del}

pub follow-requires : goal.follow-requires
follow-requires g c =
    let cs = c.args.changes.now in
    let i = c.loop-change.change-index in
    let chosen = half_chosen c.args.del _ c.if-change-del.true in
    let counted = half_counted c.args.del cs i any_change (omega arith) chosen in
    let within = half_within c.args.del cs (i + 1) in
    record {
      few = c.loop-change.invariant.few 1
          (less_few (length (half c.args.del cs)) (1 + length (half c.args.del (take i cs))) c.args.self.now.rows (omega (arith, counted, within)) c.requires.few);
    }

pub loop-change-preserved : goal.loop-change-preserved
loop-change-preserved g c =
    let cs = c.args.changes.now in
    let i = c.loop-change.change-index in
    let before = c.loop-change.invariant in
    elim c.if-change-del.branch [
      | then-change-del w ↦
          let chosen = half_chosen c.args.del _ w.if-change-del.true in
          let counted = half_counted c.args.del cs i any_change (omega arith) chosen in
          let capacity = w.follow.ensures.capacity in
          let step = w.follow.ensures.step in
          rw (w.self-is, w.steps-is) (record {
            totals = λ table after totals named made.
                let last = step_last c.args.del cs i any_change (omega arith) chosen table after made in
                w.follow.ensures.totals last.before after (before.totals table last.before totals named last.first)
                (λ added. before.names _ (named i any_change (omega arith) added)) last.last;
            names = λ vid some. w.follow.ensures.names vid (before.names vid some);
            capacity = omega arith;
            few = λ more few. w.follow.ensures.few more
                (before.few (more + 1) (less_few (more + length (half c.args.del (take (i + 1) cs))) (more + 1 + length (half c.args.del (take i cs))) c.args.self.now.rows (omega (arith, counted)) few));
            steps = omega arith;
          })
      | else-change-del w ↦
          let other = half_passed c.args.del cs i any_change (omega arith) (half_other c.args.del _ w.if-change-del.false) in
          let same = ap length other in
          rw (w.self-is, w.steps-is) (record {
            totals = λ table after totals named made. before.totals table after totals named (sym (ap (λ l. change_each l table) other) ∙ made);
            names = before.names;
            capacity = before.capacity;
            few = λ more few. before.few more (subst (λ n. AreFew (more + n) c.args.self.now.rows) same few);
            steps = omega arith;
          })
    ]

pub returns-clause-few : goal.returns-clause-few
returns-clause-few g c =
    let cs = c.args.changes.now in
    let within = half_within c.args.del cs c.loop-change.change-index in
    λ more few. c.loop-change.invariant.few more
    (less_few (more + length (half c.args.del cs)) (more + length (half c.args.del (take c.loop-change.change-index cs))) c.args.self.now.rows (omega (arith, within)) few)

pub returns-clause-totals : goal.returns-clause-totals
returns-clause-totals g c =
    let cs = c.args.changes.now in
    λ table after totals named made.
    c.loop-change.invariant.totals table after totals named
    (ap (λ l. change_each (half c.args.del l) table) (take_all c.loop-change.change-index cs (omega arith)) ∙ made)
