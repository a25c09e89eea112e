use Rattle.std.proofs.Common.{◌≡◌, Bool, true, false, Ok, ap, subst, arith}
use Rattle.std.proofs.lemmas.Result.{err_from_is_err_and}
use Rattle.mesh_model.specs.Net.Limits.{scenario_setup}
use Rattle.mesh_run.specs.Inner.Lines.{Sliced}
use Rattle.mesh_scene.specs.SceneStands.{SceneStands}
use Rattle.mesh_run.proofs.SliceLemmas.{begins, ends_run, fails_so, goes_further}
use Rattle.mesh_run.proofs.time.run_until.Goals as goal

pub slices-init : goal.slices-init
slices-init g c = record {
  goes = λ base state stands. begins (SceneStands g.A.Choosable.algorithm g.A.Algo.queries g.A.Algo.stands) (scenario_setup g.A.Algo.queries) c.args.end state base (g.K.Sink.taken c.args.out.now) c.args.scene.now stands;
  somewhere = c.requires.somewhere;
  later = c.requires.later;
  faults = omega arith;
}

pub slices-preserved : goal.slices-preserved
slices-preserved g c =
    let loop = c.slices.invariant in
    let more : c.in_ok-more.more ≡ true = c.if-not-more.false in
    record {
      goes = λ base state stands.
          let run = loop.goes base state stands in
          let P : Bool → Type 0 = λ m. Sliced (SceneStands g.A.Choosable.algorithm g.A.Algo.queries g.A.Algo.stands) (scenario_setup g.A.Algo.queries) c.args.end run.mid base (g.K.Sink.taken c.run_slice.new.out) c.run_slice.new.scene m in
          goes_further (SceneStands g.A.Choosable.algorithm g.A.Algo.queries g.A.Algo.stands) (scenario_setup g.A.Algo.queries) c.args.end state base (g.K.Sink.taken c.slices.out) (g.K.Sink.taken c.run_slice.new.out) c.slices.scene c.run_slice.new.scene run
          (subst P more (c.in_ok-more.ensures.slice base run.mid run.standing));
      somewhere = c.in_ok-more.ensures.somewhere;
      later = (c.in_ok-more.ensures.advances (ap (λ m. Ok m) more)).later;
      faults = omega (arith, loop.faults, c.in_ok-more.ensures.faults.kept);
    }

pub returns-in_err-more-clause-line : goal.returns-in_err-more-clause-line
returns-in_err-more-clause-line g c = λ base state stands.
    let p = err_from_is_err_and c.from_residual.result c.from_residual.ensures.1 in
    let run = c.slices.invariant.goes base state stands in
    rw (p.1, p.2)
    (fails_so (SceneStands g.A.Choosable.algorithm g.A.Algo.queries g.A.Algo.stands) (scenario_setup g.A.Algo.queries) c.args.end state base (g.K.Sink.taken c.slices.out) (g.K.Sink.taken c.run_slice.new.out) c.slices.scene c.args.number c.in_err-more.field-0.0 run
    (c.in_err-more.ensures.slice base run.mid run.standing))

pub returns-clause-line : goal.returns-clause-line
returns-clause-line g c = λ base state stands.
    let run = c.slices.invariant.goes base state stands in
    let last : c.in_ok-more.more ≡ false = c.if-not-more.true in
    let P : Bool → Type 0 = λ m. Sliced (SceneStands g.A.Choosable.algorithm g.A.Algo.queries g.A.Algo.stands) (scenario_setup g.A.Algo.queries) c.args.end run.mid base (g.K.Sink.taken c.run_slice.new.out) c.run_slice.new.scene m in
    ends_run (SceneStands g.A.Choosable.algorithm g.A.Algo.queries g.A.Algo.stands) (scenario_setup g.A.Algo.queries) c.args.end state base (g.K.Sink.taken c.slices.out) (g.K.Sink.taken c.run_slice.new.out) c.slices.scene c.run_slice.new.scene run
    (subst P last (c.in_ok-more.ensures.slice base run.mid run.standing))
