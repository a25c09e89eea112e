use Rattle.std.proofs.Common.{◌≡◌, ◌≤◌, arith}
use Rattle.std.proofs.lemmas.Result.{err_from_is_err_and}
use Rattle.mesh_net.proofs.Slices.{live_next, step_true, step_false, went_none, went_next, went_rest, went_all, went_fails, went_left}
use Rattle.mesh_net.proofs.net.Net.step_often.Goals as goal

pub loop-init : goal.loop-init
loop-init g c = record {
  live = c.requires.live;
  went = λ choice clock mesh s. went_none g.A.Algo.queries g.A.Algo.stands c.args.self.now choice clock mesh c.args.t c.args.log.now s (c.requires.later choice clock mesh s);
}

pub loop-preserved : goal.loop-preserved
loop-preserved g c =
    let q = g.A.Algo.queries in
    let st = g.A.Algo.stands in
    let i = c.loop.invariant in
    record {
      live = live_next q st c.loop.self c.step.new.self c.args.t c.loop.log c.step.new.log i.live
          (step_true q st c.step.new.self i.live.choice i.live.clock i.live.mesh c.args.t c.loop.log c.step.new.log c.in_ok-step.field-0 c.if-not-branch.false
          (c.in_ok-step.ensures.stepped i.live.choice i.live.clock i.live.mesh i.live.standing));
      went = λ choice clock mesh s.
          let w = i.went choice clock mesh s in
          went_next q st c.loop.self c.step.new.self choice clock mesh c.args.t c.loop.counter c.args.log.now c.loop.log c.step.new.log c.requires.soon w
          (step_true q st c.step.new.self choice w.now w.after c.args.t c.loop.log c.step.new.log c.in_ok-step.field-0 c.if-not-branch.false
          (c.in_ok-step.ensures.stepped choice w.now w.after w.standing));
    }

pub returns-in_err-step-clause-cause : goal.returns-in_err-step-clause-cause
returns-in_err-step-clause-cause g c = λ choice clock mesh s.
    let q = g.A.Algo.queries in
    let st = g.A.Algo.stands in
    let w = c.loop.invariant.went choice clock mesh s in
    let p = err_from_is_err_and c.from_residual.result c.from_residual.ensures.1 in
    rw (p.1, p.2) (went_fails q st c.loop.self choice clock mesh c.args.t c.loop.counter c.args.log.now c.loop.log c.step.new.log c.in_err-step.field-0.0 c.requires.soon w
    c.in_err-step.ensures.as_before (c.in_err-step.ensures.cause choice w.now w.after w.standing))

pub returns-in_err-step-clause-left : goal.returns-in_err-step-clause-left
returns-in_err-step-clause-left g c = λ choice clock mesh s.
    let p = err_from_is_err_and c.from_residual.result c.from_residual.ensures.1 in
    rw p.1 (went_left g.A.Algo.queries g.A.Algo.stands c.loop.self choice clock mesh c.args.t c.loop.counter c.args.log.now c.loop.log c.step.new.log (c.loop.invariant.went choice clock mesh s) c.in_err-step.ensures.as_before)

pub returns-then-not-branch-clause-went : goal.returns-then-not-branch-clause-went
returns-then-not-branch-clause-went g c = λ choice clock mesh s.
    let q = g.A.Algo.queries in
    let st = g.A.Algo.stands in
    let w = c.loop.invariant.went choice clock mesh s in
    let few : c.loop.counter ≤ c.args.most = omega arith in
    went_rest q st c.loop.self c.step.new.self choice clock mesh c.args.t c.loop.counter c.args.most c.args.log.now c.loop.log c.step.new.log few w
    (step_false q st c.step.new.self choice w.now w.after c.args.t c.loop.log c.step.new.log c.in_ok-step.field-0 c.if-not-branch.true
    (c.in_ok-step.ensures.stepped choice w.now w.after w.standing))

pub returns-clause-went : goal.returns-clause-went
returns-clause-went g c = λ choice clock mesh s.
    let all : c.loop.counter ≡ c.args.most = omega arith in
    went_all g.A.Algo.queries g.A.Algo.stands c.loop.self choice clock mesh c.args.t c.loop.counter c.args.most c.args.log.now c.loop.log all (c.loop.invariant.went choice clock mesh s)
