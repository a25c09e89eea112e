use Rattle.std.proofs.Common.{◌≡◌, ◌++◌, ◌∙◌, ℕ, List, [], ap, refl, sym, subst, rules}
use Rattle.std.proofs.lemmas.Result.{err_from_is_err_and}
use Rattle.std.specs.Io.KnownBytes.{Appends}
use Rattle.mesh_model.specs.Loops.Bisecting.{moment_text}
use Rattle.mesh_model.specs.Run.LoopRun.{at_end}
use Rattle.mesh_run.specs.Outcome.{AppendsLess}
use Rattle.mesh_run.proofs.FrontLemmas.{appends-after, front-appends, less-after}
use Rattle.mesh_run.proofs.routes.end_routes.Goals as goal

pub returns-in_err-end-clause-failed : goal.returns-in_err-end-clause-failed
returns-in_err-end-clause-failed g c = λ base state stands.
    let p = err_from_is_err_and c.from_residual.result c.from_residual.ensures.1 in
    rw (p.1, p.2) (front-appends base (g.K.Sink.taken c.args.out.now) state.printed (at_end state).printed _ stands.printed refl)

pub returns-in-Err-clause-failed : goal.returns-in-Err-clause-failed
returns-in-Err-clause-failed g c = λ base state stands.
    let old = g.K.Sink.taken c.args.out.now in
    let new = g.K.Sink.taken c.put_text.new.sink in
    let cleared : c.clear.new.self.items ≡ [] = search rules in
    let told = ap (λ t. state.printed ++ t) (sym (c.in_ok-end.ensures.told state.lines stands.scene_is ∙ ap (λ f. f ++ moment_text state.lines) cleared)) in
    let L : List ℕ → Type 0 = λ text. AppendsLess old new text in
    less-after base old new state.printed c.end.new.out.items (at_end state).printed stands.printed (subst L c.as_slice.ensures.value c.in-Err.ensures.less) told

pub returns-clause-ok : goal.returns-clause-ok
returns-clause-ok g c = λ base state stands.
    let old = g.K.Sink.taken c.args.out.now in
    let new = g.K.Sink.taken c.put_text.new.sink in
    let cleared : c.clear.new.self.items ≡ [] = search rules in
    let told = ap (λ t. state.printed ++ t) (sym (c.in_ok-end.ensures.told state.lines stands.scene_is ∙ ap (λ f. f ++ moment_text state.lines) cleared)) in
    let T : List ℕ → Type 0 = λ text. Appends old new text in
    appends-after base old new state.printed c.end.new.out.items (at_end state).printed stands.printed (subst T c.as_slice.ensures.value c.in_default.ensures.whole) told
