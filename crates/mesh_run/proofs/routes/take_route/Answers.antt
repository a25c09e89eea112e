use Rattle.std.proofs.Common.{◌≡◌, ◌++◌, ◌∙◌, ℕ, List, [], Err, ap, sym, subst, arith, rules}
use Rattle.std.specs.Io.KnownBytes.{Appends}
use Rattle.mesh_bisect.specs.Bisect.{told_at_reading}
use Rattle.mesh_model.specs.Loops.RouteLines.{route_of_line}
use Rattle.mesh_model.specs.Run.InputRun.{loop_text}
use Rattle.mesh_model.specs.Run.LoopRun.{LoopState}
use Rattle.mesh_model.specs.Run.Outcome.{OutcomeOf, reached}
use Rattle.mesh_run.specs.Outcome.{AppendsLess}
use Rattle.mesh_run.proofs.FaultLemmas.{line_blameless}
use Rattle.mesh_run.proofs.FrontLemmas.{appends-after, less-after}
use Rattle.mesh_run.proofs.RouteLemmas.{route_fails, state_after, taken_goes}
use Rattle.mesh_run.proofs.routes.take_route.Goals as goal

pub returns-in-Err-clause-line : goal.returns-in-Err-clause-line
returns-in-Err-clause-line g c = λ base state stands.
    let reading = route_of_line c.args.line.now in
    rw (c.at.ensures, c.route_fault.ensures)
    (route_fails base (g.K.Sink.taken c.args.out.now) state reading c.args.number c.in-Err.error (λ e. c.take.ensures.bad.0 (c.in-Err.is ∙ ap Err e)) (λ e. (c.take.ensures.late state.lines stands.scene_is).0 (c.in-Err.is ∙ ap Err e))
    (λ e. (c.take.ensures.pairs state.lines stands.scene_is).0 (c.in-Err.is ∙ ap Err e)) stands.printed)

pub returns-in-Err-clause-faults : goal.returns-in-Err-clause-faults
returns-in-Err-clause-faults g c = record { kept = omega arith; cause = rw c.at.ensures (line_blameless _ _ c.args.number c.route_fault.result) }

pub returns-in-Err-put_text-clause-line : goal.returns-in-Err-put_text-clause-line
returns-in-Err-put_text-clause-line g c = λ base state stands.
    let old = g.K.Sink.taken c.args.out.now in
    let new = g.K.Sink.taken c.put_text.new.sink in
    let reading = route_of_line c.args.line.now in
    let after = state_after state reading in
    let goes = taken_goes state reading c.take.result _ c.in-Ok.is c.take.ensures.bad (c.take.ensures.late state.lines stands.scene_is) (c.take.ensures.pairs state.lines stands.scene_is) in
    let cleared : c.clear.new.self.items ≡ [] = search rules in
    let told = ap (λ t. state.printed ++ t) (sym (c.in-Ok.ensures.told state.lines stands.scene_is ∙ ap (λ f. f ++ told_at_reading state.lines reading) cleared)) in
    let L : List ℕ → Type 0 = λ text. AppendsLess old new text in
    let less = less-after base old new state.printed c.take.new.out.items after.printed stands.printed (subst L c.as_slice.ensures.value c.in-Err-put_text.ensures.less) told in
    let P : OutcomeOf LoopState → Type 0 = λ o. AppendsLess base new (loop_text (reached o)) in
    subst P (sym goes) less

pub returns-clause-line : goal.returns-clause-line
returns-clause-line g c = λ base state stands.
    let old = g.K.Sink.taken c.args.out.now in
    let new = g.K.Sink.taken c.put_text.new.sink in
    let reading = route_of_line c.args.line.now in
    let after = state_after state reading in
    let cleared : c.clear.new.self.items ≡ [] = search rules in
    let told = ap (λ t. state.printed ++ t) (sym (c.in-Ok.ensures.told state.lines stands.scene_is ∙ ap (λ f. f ++ told_at_reading state.lines reading) cleared)) in
    let T : List ℕ → Type 0 = λ text. Appends old new text in
    record {
      after = after;
      carried = taken_goes state reading c.take.result _ c.in-Ok.is c.take.ensures.bad (c.take.ensures.late state.lines stands.scene_is) (c.take.ensures.pairs state.lines stands.scene_is);
      standing = record {
        scene_is = c.in-Ok.ensures.ok state.lines stands.scene_is;
        printed = appends-after base old new state.printed c.take.new.out.items after.printed stands.printed (subst T c.as_slice.ensures.value c.in_default.ensures.whole) told;
      };
    }
