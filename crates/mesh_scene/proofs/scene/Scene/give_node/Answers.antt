use Rattle.std.proofs.lemmas.Result.{err_from_is_err_and}
use Rattle.mesh_laws.proofs.Schedule.Steps.{tickless}
use Rattle.mesh_model.specs.Net.Inputs.{given_to}
use Rattle.mesh_model.specs.Net.Limits.{scenario_setup}
use Rattle.mesh_node.specs.NodeStands.{given_by}
use Rattle.mesh_scene.proofs.NetLemmas.{of_line}
use Rattle.mesh_scene.proofs.PrintLemmas.{attempt_carries, attempt_fails}
use Rattle.mesh_scene.proofs.scene.Scene.give_node.Goals as goal

pub returns-in_err-input : goal.returns-in_err-input
returns-in_err-input g c = λ state stands.
    let p = err_from_is_err_and c.from_residual.result c.from_residual.ensures.1 in
    let attempt = given_to (scenario_setup g.A.Algo.queries) c.args.place state.clock 0 (given_by 0 c.args.input.now) state.mesh in
    rw (p.1, p.2) (attempt_fails state attempt c.in_err-input.field-0.0 (c.in_err-input.ensures.cause state.choice state.clock state.mesh stands.net_is))

pub returns : goal.returns
returns g c = λ state stands.
    let scene = c.args.self.now in
    let given = given_by 0 c.args.input.now in
    let setup = scenario_setup g.A.Algo.queries in
    let attempt = given_to setup c.args.place state.clock 0 given state.mesh in
    let done = c.in_ok-input.ensures.carried state.choice state.clock state.mesh stands.net_is in
    let l = of_line state.mesh.frames given c.requires.line in
    let effect = tickless setup state.mesh c.args.place state.clock 0 given done.after l.0 l.1 done.is in
    attempt_carries g.A.Choosable.algorithm g.A.Algo.queries g.A.Algo.stands state scene c.input.new.self attempt c.cut.new.self c.input.new.log c.args.text.now.items c.put_events.new.out.items stands done effect.names effect.adds.links c.cut.ensures.kept c.in_ok-put_events.ensures.ok c.requires.empty
