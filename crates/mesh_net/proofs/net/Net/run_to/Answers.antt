use Rattle.std.proofs.Common.{◌<◌, ◌≤◌, inr, sym, subst, arith}
use Rattle.std.proofs.lemmas.Result.{err_from_is_err_and}
use Rattle.mesh_model.specs.Net.Limits.{scenario_setup}
use Rattle.mesh_net.specs.Steps.{RanOn}
use Rattle.mesh_net.proofs.Ends.{live_of}
use Rattle.mesh_net.proofs.Slices.{clock_soon, late_tells, left_on, live_on, none_left, ran_all, rises, same_live, same_stands, slice_tells, soon_on, tells_on, under_way_first, under_way_next}
use Rattle.mesh_net.proofs.net.Net.run_to.Goals as goal

pub loop-init : goal.loop-init
loop-init g c =
    let q = g.A.Algo.queries in
    let st = g.A.Algo.stands in
    let ok = c.in_ok-check_run.ensures.ok in
    let live = live_of q st c.args.self.now c.requires.net ok.1 in
    record {
      live = same_live q st c.args.self.now c.check_run.new.self ok.0 live;
      soon = subst (λ n. n.clock ≤ c.args.t) (sym ok.0) (clock_soon q st c.args.self.now c.args.t live c.requires.later);
      way = λ choice clock mesh s. under_way_first q st c.check_run.new.self choice clock mesh c.args.t c.args.log.now
          (same_stands q st c.args.self.now c.check_run.new.self choice clock mesh ok.0 s) (c.requires.later choice clock mesh s);
    }

pub loop-preserved : goal.loop-preserved
loop-preserved g c =
    let q = g.A.Algo.queries in
    let st = g.A.Algo.stands in
    let net = c.loop.self in
    let net' = c.run_slice.new.self in
    let more = c.in_ok-run_slice.field-0 in
    let live = c.loop.invariant.live in
    let ran = c.in_ok-run_slice.ensures.ran live.choice live.clock live.mesh live.standing in
    record {
      live = live_on q st net net' c.args.t 4294967295 c.loop.log c.run_slice.new.log more live ran;
      soon = soon_on q st net net' c.args.t 4294967295 c.loop.log c.run_slice.new.log more live ran;
      way = λ choice clock mesh s.
          let w = c.loop.invariant.way choice clock mesh s in
          under_way_next q st net net' choice mesh c.args.t 4294967295 c.args.log.now c.loop.log c.run_slice.new.log more w (c.in_ok-run_slice.ensures.ran choice w.now w.after w.standing);
    }

pub loop-smaller : goal.loop-smaller
loop-smaller g c =
    let q = g.A.Algo.queries in
    let st = g.A.Algo.stands in
    let live = live_of q st c.args.self.now c.requires.net c.in_ok-check_run.ensures.ok.1 in
    let w = c.loop.invariant.way live.choice live.clock live.mesh live.standing in
    let some : 0 < 4294967295 = omega arith in
    rises q st c.loop.self c.run_slice.new.self live.choice live.mesh c.args.t 4294967295 c.args.log.now c.loop.log c.run_slice.new.log some w
    (subst (RanOn q st c.run_slice.new.self live.choice w.now w.after c.args.t 4294967295 c.loop.log c.run_slice.new.log) c.if-branch.true
    (c.in_ok-run_slice.ensures.ran live.choice w.now w.after w.standing))

pub returns-in_err-check_run-clause-cause : goal.returns-in_err-check_run-clause-cause
returns-in_err-check_run-clause-cause g c = λ choice clock mesh s.
    let p = err_from_is_err_and c.from_residual.result c.from_residual.ensures.1 in
    rw (p.1, p.2) (late_tells (scenario_setup g.A.Algo.queries) choice mesh c.args.t c.args.log.now c.in_err-check_run.field-0.0 (c.in_err-check_run.ensures.late s.alive))

pub returns-in_err-run_slice-clause-cause : goal.returns-in_err-run_slice-clause-cause
returns-in_err-run_slice-clause-cause g c = λ choice clock mesh s.
    let setup = scenario_setup g.A.Algo.queries in
    let error = c.in_err-run_slice.field-0.0 in
    let w = c.loop.invariant.way choice clock mesh s in
    let p = err_from_is_err_and c.from_residual-in_err-run_slice.result c.from_residual-in_err-run_slice.ensures.1 in
    rw (p.1, p.2) (slice_tells setup choice mesh c.args.t c.args.log.now c.run_slice.new.log error c.in_ok-check_run.ensures.ok.2
    (tells_on g.A.Algo.queries g.A.Algo.stands c.loop.self choice mesh c.args.t c.args.log.now c.loop.log c.run_slice.new.log error w (c.in_err-run_slice.ensures.cause choice w.now w.after w.standing)))

pub returns-clause-ran : goal.returns-clause-ran
returns-clause-ran g c = λ choice clock mesh s.
    let q = g.A.Algo.queries in
    let st = g.A.Algo.stands in
    let w = c.loop.invariant.way choice clock mesh s in
    ran_all q st c.loop.self c.run_slice.new.self choice mesh c.args.t 4294967295 c.args.log.now c.loop.log c.run_slice.new.log c.in_ok-check_run.ensures.ok.2 w
    (subst (RanOn q st c.run_slice.new.self choice w.now w.after c.args.t 4294967295 c.loop.log c.run_slice.new.log) c.if-branch.false
    (c.in_ok-run_slice.ensures.ran choice w.now w.after w.standing))

pub returns-in_err-check_run-clause-left : goal.returns-in_err-check_run-clause-left
returns-in_err-check_run-clause-left g c = λ choice clock mesh s.
    let p = err_from_is_err_and c.from_residual.result c.from_residual.ensures.1 in
    rw p.1 (none_left g.A.Algo.queries g.A.Algo.stands c.args.self.now choice clock mesh c.args.t c.args.log.now s)

pub returns-in_err-run_slice-clause-left : goal.returns-in_err-run_slice-clause-left
returns-in_err-run_slice-clause-left g c = λ choice clock mesh s.
    let w = c.loop.invariant.way choice clock mesh s in
    let p = err_from_is_err_and c.from_residual-in_err-run_slice.result c.from_residual-in_err-run_slice.ensures.1 in
    rw p.1 (left_on g.A.Algo.queries g.A.Algo.stands c.loop.self choice mesh c.args.t c.args.log.now c.loop.log c.run_slice.new.log w (c.in_err-run_slice.ensures.left choice w.now w.after w.standing))

pub returns-clause-net : goal.returns-clause-net
returns-clause-net g c =
    let live = c.loop.invariant.live in
    inr (live_on g.A.Algo.queries g.A.Algo.stands c.loop.self c.run_slice.new.self c.args.t 4294967295 c.loop.log c.run_slice.new.log c.in_ok-run_slice.field-0 live
    (c.in_ok-run_slice.ensures.ran live.choice live.clock live.mesh live.standing))
