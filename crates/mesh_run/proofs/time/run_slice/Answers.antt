use Rattle.std.proofs.Common.{ℕ, List, subst}
use Rattle.std.proofs.lemmas.Result.{err_from_is_err_and}
use Rattle.std.specs.Io.KnownBytes.{Appends}
use Rattle.mesh_model.specs.Net.Limits.{scenario_setup}
use Rattle.mesh_model.specs.Run.Outcome.{reached}
use Rattle.mesh_model.specs.Run.Passing.{run_until}
use Rattle.mesh_model.specs.Run.State.{text_of}
use Rattle.mesh_laws.proofs.RunLemmas.{text-grows}
use Rattle.mesh_scene.specs.SceneStands.{SceneStands}
use Rattle.mesh_scene.specs.Slices.{Passes}
use Rattle.mesh_run.specs.Outcome.{AppendsLess}
use Rattle.mesh_scene.specs.declared.slice.Passage.{Passage}
use Rattle.mesh_run.proofs.FrontLemmas.{front-before}
use Rattle.mesh_run.proofs.SliceLemmas.{run_prints, slice_last, slice_less, slice_more}
use Rattle.mesh_run.proofs.time.run_slice.Goals as goal

pub returns-in_err-passage-clause-slice : goal.returns-in_err-passage-clause-slice
returns-in_err-passage-clause-slice g c = λ base state stands.
    let p = err_from_is_err_and c.from_residual.result c.from_residual.ensures.1 in
    let outcome = run_until (scenario_setup g.A.Algo.queries) c.args.end state in
    rw (p.1, p.2) (front-before text_of base (g.K.Sink.taken c.args.out.now) state outcome (text-grows state (reached outcome) (run_prints (scenario_setup g.A.Algo.queries) c.args.end state)) stands.printed)

pub returns-in-Err-clause-slice : goal.returns-in-Err-clause-slice
returns-in-Err-clause-slice g c = λ base state stands.
    let old = g.K.Sink.taken c.args.out.now in
    let new = g.K.Sink.taken c.put_text.new.sink in
    let L : List ℕ → Type 0 = λ text. AppendsLess old new text in
    slice_less (SceneStands g.A.Choosable.algorithm g.A.Algo.queries g.A.Algo.stands) (scenario_setup g.A.Algo.queries) c.args.end state base old new c.args.scene.now c.pass.new.self c.pass.new.text.items c.in_ok-passage.passage stands (c.in_ok-passage.ensures.ok state stands.scene_is)
    (subst L c.as_slice.ensures.value c.in-Err.ensures.less)

pub returns-in-Going-clause-slice : goal.returns-in-Going-clause-slice
returns-in-Going-clause-slice g c = λ base state stands.
    let old = g.K.Sink.taken c.args.out.now in
    let new = g.K.Sink.taken c.put_text.new.sink in
    let T : List ℕ → Type 0 = λ text. Appends old new text in
    let P : Passage → Type 0 = λ p. Passes (SceneStands g.A.Choosable.algorithm g.A.Algo.queries g.A.Algo.stands) (scenario_setup g.A.Algo.queries) c.args.end state c.pass.new.self c.pass.new.text.items p in
    slice_more (SceneStands g.A.Choosable.algorithm g.A.Algo.queries g.A.Algo.stands) (scenario_setup g.A.Algo.queries) c.args.end state base old new c.args.scene.now c.pass.new.self c.pass.new.text.items stands (subst P c.in-Going.is (c.in_ok-passage.ensures.ok state stands.scene_is))
    (subst T c.as_slice.ensures.value c.in_default.ensures.whole)

pub returns-in-Ended-clause-slice : goal.returns-in-Ended-clause-slice
returns-in-Ended-clause-slice g c = λ base state stands.
    let old = g.K.Sink.taken c.args.out.now in
    let new = g.K.Sink.taken c.put_text.new.sink in
    let T : List ℕ → Type 0 = λ text. Appends old new text in
    let P : Passage → Type 0 = λ p. Passes (SceneStands g.A.Choosable.algorithm g.A.Algo.queries g.A.Algo.stands) (scenario_setup g.A.Algo.queries) c.args.end state c.pass.new.self c.pass.new.text.items p in
    slice_last (SceneStands g.A.Choosable.algorithm g.A.Algo.queries g.A.Algo.stands) (scenario_setup g.A.Algo.queries) c.args.end state base old new c.args.scene.now c.pass.new.self c.pass.new.text.items stands (subst P c.in-Ended.is (c.in_ok-passage.ensures.ok state stands.scene_is))
    (subst T c.as_slice.ensures.value c.in_default.ensures.whole)
