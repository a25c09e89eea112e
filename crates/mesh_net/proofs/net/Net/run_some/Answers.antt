use Rattle.std.proofs.Common.{sym}
use Rattle.std.proofs.lemmas.Result.{IfErr-weaker, IfOk-weaker, err_from_is_err_and, on_err_weaker}
use Rattle.mesh_model.specs.Net.Limits.{scenario_setup}
use Rattle.mesh_net.proofs.Ends.{live_of}
use Rattle.mesh_net.proofs.Slices.{is_alive, late_tells, net_on, none_left, same_live, same_stands, slice_tells}
use Rattle.mesh_net.proofs.RightLemmas.{left_rightly}
use Rattle.mesh_net.proofs.net.Net.run_some.Goals as goal

pub run_slice-requires-clause-live : goal.run_slice-requires-clause-live
run_slice-requires-clause-live g c =
    let ok = c.in_ok-check_run.ensures.ok in
    same_live g.A.Algo.queries g.A.Algo.stands c.args.self.now c.check_run.new.self ok.0 (live_of g.A.Algo.queries g.A.Algo.stands c.args.self.now c.requires.net ok.1)

pub run_slice-requires-clause-later : goal.run_slice-requires-clause-later
run_slice-requires-clause-later g c = λ choice clock mesh s.
    let ok = c.in_ok-check_run.ensures.ok in
    c.requires.later choice clock mesh (same_stands g.A.Algo.queries g.A.Algo.stands c.check_run.new.self c.args.self.now choice clock mesh (sym ok.0) s)

pub returns-clause-ran : goal.returns-clause-ran
returns-clause-ran g c = λ choice clock mesh s.
    let ok = c.in_ok-check_run.ensures.ok in
    IfOk-weaker c.run_slice.result _ _ (λ more ran. ran.ran)
    (c.run_slice.ensures.ran choice clock mesh (same_stands g.A.Algo.queries g.A.Algo.stands c.args.self.now c.check_run.new.self choice clock mesh ok.0 s))

pub returns-clause-left : goal.returns-clause-left
returns-clause-left g c = λ choice clock mesh s.
    let ok = c.in_ok-check_run.ensures.ok in
    on_err_weaker c.run_slice.result (λ left. left_rightly g.A.Algo.queries choice mesh c.args.t c.args.log.now c.run_slice.new.log left)
    (c.run_slice.ensures.left choice clock mesh (same_stands g.A.Algo.queries g.A.Algo.stands c.args.self.now c.check_run.new.self choice clock mesh ok.0 s))

pub returns-in_err-check_run-clause-left : goal.returns-in_err-check_run-clause-left
returns-in_err-check_run-clause-left g c = λ choice clock mesh s.
    let p = err_from_is_err_and c.from_residual.result c.from_residual.ensures.1 in
    rw p.1 (none_left g.A.Algo.queries g.A.Algo.stands c.args.self.now choice clock mesh c.args.t c.args.log.now s)

pub returns-clause-cause : goal.returns-clause-cause
returns-clause-cause g c = λ choice clock mesh s.
    let ok = c.in_ok-check_run.ensures.ok in
    IfErr-weaker c.run_slice.result _ _ (λ e tells. slice_tells (scenario_setup g.A.Algo.queries) choice mesh c.args.t c.args.log.now c.run_slice.new.log e ok.2 tells)
    (c.run_slice.ensures.cause choice clock mesh (same_stands g.A.Algo.queries g.A.Algo.stands c.args.self.now c.check_run.new.self choice clock mesh ok.0 s))

pub returns-clause-dead : goal.returns-clause-dead
returns-clause-dead g c = λ dead. is_alive g.A.Algo.queries g.A.Algo.stands c.args.self.now c.in_ok-check_run.ensures.ok.1 dead

pub returns-clause-net : goal.returns-clause-net
returns-clause-net g c =
    let ok = c.in_ok-check_run.ensures.ok in
    let live = same_live g.A.Algo.queries g.A.Algo.stands c.args.self.now c.check_run.new.self ok.0 (live_of g.A.Algo.queries g.A.Algo.stands c.args.self.now c.requires.net ok.1) in
    net_on g.A.Algo.queries g.A.Algo.stands c.run_slice.result c.check_run.new.self c.run_slice.new.self c.args.t c.args.most c.args.log.now c.run_slice.new.log live c.run_slice.ensures.refused
    (c.run_slice.ensures.ran live.choice live.clock live.mesh live.standing)

pub returns-in_err-check_run-clause-cause : goal.returns-in_err-check_run-clause-cause
returns-in_err-check_run-clause-cause g c = λ choice clock mesh s.
    let p = err_from_is_err_and c.from_residual.result c.from_residual.ensures.1 in
    rw (p.1, p.2) (late_tells (scenario_setup g.A.Algo.queries) choice mesh c.args.t c.args.log.now c.in_err-check_run.field-0.0 (c.in_err-check_run.ensures.late s.alive))
