use Rattle.std.proofs.Common.{◌∙◌, is_err, ap, sym}
use Rattle.std.proofs.lemmas.Bool.{true≢false}
use Rattle.std.proofs.lemmas.Result.{on_ok_weaker}
use Rattle.mesh_model.specs.Acts.Choosing.{whole_acts}
use Rattle.mesh_model.specs.Acts.Cuts.{Cutter}
use Rattle.mesh_model.specs.Acts.NodeLimits.{client_limit}
use Rattle.node_cuts.specs.Collected.{cutter_of}
use Rattle.node_ground.specs.OwnStands.{with_input}
use Rattle.node_ground.proofs.LeavesLemmas.{alive_error}
use Rattle.mesh_node.specs.NodeStands.{KeepsLog, given_by}
use Rattle.mesh_node.proofs.CutCounts.{collected_from, count_is, handed, left_whole, none_counted, on_any, stands_on, where_done}
use Rattle.mesh_node.proofs.node.Node.take.Goals.{then-cutter-eq0, else-cutter-eq0}
use Rattle.mesh_node.proofs.node.Node.take.Goals as goal

pub returns-clause-puts : goal.returns-clause-puts
returns-clause-puts g c = λ me log number is late.
    let given = given_by number c.args.input.now in
    let q = g.A.Algo.queries me in
    let cuts = c.cutter-cutter.ensures.cuts me log is in
    elim c.if-cutter-eq0.branch [
      | then-cutter-eq0 w ↦
          rw (w.answer-is, w.port-is)
          (left_whole g.P.Port.takes g.P.Port.same g.P.Port.over q me log c.args.now given c.args.port.now w.carry_out-answer.new.port w.carry_out-answer.result
          (sym (ap (λ (cutter : Cutter). cutter.most) cuts) ∙ w.if-cutter-eq0.true)
          (w.carry_out-answer.ensures.puts me log number is.keeps late))
      | else-cutter-eq0 w ↦
          rw (w.answer-is, w.port-is)
          (handed g.P.Port.takes g.P.Port.same g.P.Port.over q me log c.args.now given c.cutter-cutter.result w.carry_out-collected.result w.carry_out-collected.new.port c.args.port.now w.hand_over-answer.new.port w.hand_over-answer.result
          cuts
          (collected_from (client_limit me log c.args.now given) (whole_acts q me log c.args.now given) w.new-acts.result w.carry_out-collected.new.port w.carry_out-collected.result w.new-acts.ensures
          (w.carry_out-collected.ensures.puts me log number is.keeps late))
          w.hand_over-answer.ensures.puts)
    ]

pub returns-clause-noted : goal.returns-clause-noted
returns-clause-noted g c = λ me log number is late.
    let given = given_by number c.args.input.now in
    let q = g.A.Algo.queries me in
    let after = with_input q me log c.args.now given in
    let whole = whole_acts q me log c.args.now given in
    let cuts = c.cutter-cutter.ensures.cuts me log is in
    let cutter = cutter_of c.cutter-cutter.result in
    elim c.if-cutter-eq0.branch [
      | then-cutter-eq0 w ↦
          rw (w.answer-is, w.self-is, w.cutter-is)
          (stands_on g.A.Algo.stands g.A.Algo.queries w.carry_out-answer.new.self c.cutter-cutter.result.cuts c.is_err-self.result w.carry_out-answer.result me after
          (c.is_err-self.ensures.value ∙ ap is_err w.answer-is)
          (w.carry_out-answer.ensures.noted me log number is.keeps late)
          (on_any w.carry_out-answer.result _ (count_is q me log c.args.now given cutter cutter.cuts cuts (none_counted cutter whole w.if-cutter-eq0.true))))
      | else-cutter-eq0 w ↦
          let collected = collected_from (client_limit me log c.args.now given) whole w.new-acts.result w.carry_out-collected.new.port w.carry_out-collected.result w.new-acts.ensures
          (w.carry_out-collected.ensures.puts me log number is.keeps late) in
          rw (w.answer-is, w.self-is, w.cutter-is)
          (stands_on g.A.Algo.stands g.A.Algo.queries w.carry_out-collected.new.self w.hand_over-answer.new.cutter.cuts c.is_err-self.result w.hand_over-answer.result me after
          (c.is_err-self.ensures.value ∙ ap is_err w.answer-is)
          (on_ok_weaker w.hand_over-answer.result
          (λ fine. where_done w.carry_out-collected.result (KeepsLog g.A.Algo.stands g.A.Algo.queries w.carry_out-collected.new.self me after) fine (w.carry_out-collected.ensures.noted me log number is.keeps late))
          w.hand_over-answer.ensures.done)
          (on_ok_weaker w.hand_over-answer.result
          (count_is q me log c.args.now given cutter w.hand_over-answer.new.cutter.cuts cuts)
          (w.hand_over-answer.ensures.counted (client_limit me log c.args.now given) whole collected)))
    ]

pub returns-clause-dead : goal.returns-clause-dead
returns-clause-dead g c =
    let may = c.requires c.if-self.false in (
      λ e. absurd (alive_error g.P.Port.takes g.P.Port.same g.P.Port.over _ _ _ _ _ (returns-clause-puts g c may.me may.log 0 may.stand may.later) e),
      λ dead. absurd (true≢false (sym dead ∙ c.if-self.false)),
    )

pub returns-clause-left : goal.returns-clause-left
returns-clause-left g c = λ e.
    let may = c.requires c.if-self.false in
    absurd (alive_error g.P.Port.takes g.P.Port.same g.P.Port.over _ _ _ _ _ (returns-clause-puts g c may.me may.log 0 may.stand may.later) e)
