use Rattle.std.proofs.Common.{◌≡◌, ℕ, ◌+◌, List, ap, arith, refl, subst, ◌∙◌}
use Rattle.std.proofs.lemmas.Result.{err_from_is_err_and}
use Rattle.mesh_model.specs.Scenario.Lines.{without_carriage_return}
use Rattle.mesh_run.specs.Inner.Kinds.{CarrierStands, lines_by, outcome_of, text_by}
use Rattle.mesh_run.specs.Inner.Lines.{Carried, CarryFails}
use Rattle.mesh_run.proofs.FaultLemmas.{Fails-newline}
use Rattle.mesh_run.proofs.ProgressLemmas.{Stands-newline}
use Rattle.mesh_run.proofs.runner.Runner.end_line.Goals as goal

pub returns-in_err-carry_line-clause-failed : goal.returns-in_err-carry_line-clause-failed
returns-in_err-carry_line-clause-failed g c = λ kind base read stands.
    let p = err_from_is_err_and c.from_residual.result c.from_residual.ensures.1 in
    let runner = c.args.self.now in
    let state = (lines_by kind stands.lines).state in
    let said : c.without_return-line.result.now ≡ without_carriage_return runner.line.items =
    c.without_return-line.ensures ∙ ap without_carriage_return c.as_slice.ensures.value in
    let P : List ℕ → Type 0 = λ line.
    CarryFails (text_by kind) (outcome_of kind line state) base (g.K.Sink.taken c.carry_line.new.out) (runner.lines + 1) c.in_err-carry_line.field-0.0 in
    rw (p.1, p.2)
    (Fails-newline kind base (g.K.Sink.taken c.args.out.now) (g.K.Sink.taken c.carry_line.new.out) runner read c.in_err-carry_line.field-0.0 stands
    (omega (arith, runner.line.ok.0, runner.short)) c.requires.within
    (subst P said (c.in_err-carry_line.ensures.line kind base state stands.at)))

pub returns-clause-ok : goal.returns-clause-ok
returns-clause-ok g c = λ kind base read stands.
    let runner = c.args.self.now in
    let said : c.without_return-line.result.now ≡ without_carriage_return runner.line.items =
    c.without_return-line.ensures ∙ ap without_carriage_return c.as_slice.ensures.value in
    let state = (lines_by kind stands.lines).state in
    let P : List ℕ → Type 0 = λ line. Carried (text_by kind) (CarrierStands kind) (outcome_of kind line state) base (g.K.Sink.taken c.carry_line.new.out) c.carry_line.new.self in
    Stands-newline kind base (g.K.Sink.taken c.args.out.now) (g.K.Sink.taken c.carry_line.new.out) runner _ read stands
    (omega (arith, runner.line.ok.0, runner.short)) c.requires.within
    (subst P said (c.in_ok-carry_line.ensures.line kind base state stands.at))
    c.clear.ensures.items refl refl
