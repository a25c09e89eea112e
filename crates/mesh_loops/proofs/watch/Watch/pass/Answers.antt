use Rattle.std.proofs.Common.{◌≡◌, Option, Some, None, rules, subst, sym}
use Rattle.mesh_base.specs.declared.address.Mac.{Mac}
use Rattle.mesh_model.specs.declared.route_line.RoutePair.{RoutePair}
use Rattle.mesh_loops.specs.Changed.{nexts_at, pair_of}
use Rattle.mesh_loops.specs.Walks.{HasMet, IsWay}
use Rattle.mesh_loops.proofs.FollowLemmas.{all_noted, goes_further, none_next, start_noted}
use Rattle.mesh_loops.proofs.watch.Watch.pass.Goals as goal
use Rattle.mesh_loops.proofs.watch.Watch.pass.Goals.{else-loop-step-test, then-loop-step-test+in_ok-node+then-eq}

pub returns-in_err-node : goal.returns-in_err-node
returns-in_err-node c =
    λ heads seen noted.
    let kept = c.args.self.now in
    let here = pair_of c.args.start.orig c.loop-step.node in
    let way = c.loop-step.invariant heads seen noted in
    let none : nexts_at kept c.args.when c.args.start.orig c.loop-step.node ≡ None = search rules in
    let here_noted = none_next kept c.args.when heads here none in
    let is : c.from_residual.result ≡ None = search rules in
    let Met : Option RoutePair → Type 0 = λ met. HasMet kept c.args.when heads seen c.args.start met in
    subst Met (sym is)
    (all_noted kept c.args.when heads seen c.args.start here way heads (λ pair among. among) here_noted, start_noted kept c.args.when heads seen c.args.start here way heads (λ pair among. among) here_noted)

pub loop-step-preserved : goal.loop-step-preserved
loop-step-preserved c =
    λ heads seen noted.
    let kept = c.args.self.now in
    let here = pair_of c.args.start.orig c.loop-step.node in
    let leads : nexts_at kept c.args.when c.args.start.orig c.loop-step.node ≡ Some c.in_ok-node.node = search rules in
    goes_further kept c.args.when heads seen c.args.start here (c.loop-step.invariant heads seen noted) c.in_ok-node.node leads

pub returns : goal.returns
returns c =
    λ heads seen noted.
    let kept = c.args.self.now in
    let here = pair_of c.args.start.orig c.loop-step.node in
    let way = c.loop-step.invariant heads seen noted in
    let Way : Mac → Type 0 = λ node. IsWay kept c.args.when heads seen c.args.start (pair_of c.args.start.orig node) in
    elim c.loop-step-test.branch [
      | else-loop-step-test w ↦ subst Way (sym w.node-is) way
      | then-loop-step-test+in_ok-node+then-eq w ↦
          let leads : nexts_at kept c.args.when c.args.start.orig c.loop-step.node ≡ Some w.in_ok-node.node = search rules in
          subst Way (sym w.node-is) (goes_further kept c.args.when heads seen c.args.start here way w.in_ok-node.node leads)
    ]
