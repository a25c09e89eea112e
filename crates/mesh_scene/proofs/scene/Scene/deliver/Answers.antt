use Rattle.std.proofs.Common.{◌-◌, arith}
use Rattle.std.proofs.lemmas.Result.{err_from_is_err_and}
use Rattle.mesh_model.specs.Net.Limits.{scenario_setup}
use Rattle.mesh_model.specs.Net.Runs.{delivered}
use Rattle.mesh_laws.proofs.Schedule.Steps.{delivered_effect}
use Rattle.mesh_scene.proofs.PrintLemmas.{attempt_carries, attempt_fails}
use Rattle.mesh_scene.proofs.GivenLemmas.{deliver_again, deliver_none, deliver_past}
use Rattle.mesh_scene.proofs.scene.Scene.deliver.Goals as goal

pub returns-then-number-eq0 : goal.returns-then-number-eq0
returns-then-number-eq0 g c = λ state stands. rw c.refused.ensures (deliver_none (scenario_setup g.A.Algo.queries) state c.args.number c.if-number-eq0.true)

pub returns-then-number-from : goal.returns-then-number-from
returns-then-number-from g c = λ state stands.
    let sent = c.sent.ensures state.choice state.clock state.mesh stands.net_is in
    let past = c.if-number-from.true in
    rw c.refused-then-number-from.ensures (deliver_past (scenario_setup g.A.Algo.queries) state c.args.number (omega (arith, sent, past, c.from.ensures)))

pub returns-in_err-deliver : goal.returns-in_err-deliver
returns-in_err-deliver g c = λ state stands.
    let p = err_from_is_err_and c.from_residual.result c.from_residual.ensures.1 in
    let sent = c.sent.ensures state.choice state.clock state.mesh stands.net_is in
    let within = c.if-number-from.false in
    let attempt = delivered (scenario_setup g.A.Algo.queries) (c.args.number - 1) state.clock state.mesh in
    let again = deliver_again (scenario_setup g.A.Algo.queries) state c.args.number c.if-number-eq0.false (omega (arith, sent, within, c.from.ensures)) in
    rw (p.1, p.2, again) (attempt_fails state attempt c.in_err-deliver.field-0.0 (c.in_err-deliver.ensures.cause state.choice state.clock state.mesh stands.net_is))

pub returns : goal.returns
returns g c = λ state stands.
    let scene = c.args.self.now in
    let sent = c.sent.ensures state.choice state.clock state.mesh stands.net_is in
    let within = c.if-number-from.false in
    let attempt = delivered (scenario_setup g.A.Algo.queries) (c.args.number - 1) state.clock state.mesh in
    let again = deliver_again (scenario_setup g.A.Algo.queries) state c.args.number c.if-number-eq0.false (omega (arith, sent, within, c.from.ensures)) in
    let done = c.in_ok-deliver.ensures.carried state.choice state.clock state.mesh stands.net_is in
    let effect = delivered_effect (scenario_setup g.A.Algo.queries) state.mesh (c.args.number - 1) state.clock done.after done.is in
    rw again
    (attempt_carries g.A.Choosable.algorithm g.A.Algo.queries g.A.Algo.stands state scene c.deliver.new.self attempt c.cut.new.self c.deliver.new.log c.args.text.now.items c.put_events.new.out.items stands done effect.names effect.adds.links c.cut.ensures.kept c.in_ok-put_events.ensures.ok c.requires.empty)
