use Rattle.std.proofs.Common.{◌≡◌, ◌≢◌, ℕ, ◌+◌, List, vec_len, arith, subst, sym, ◌∙◌}
use Rattle.std.proofs.lemmas.Bool.{eqb-true, eqb-false}
use Rattle.std.proofs.lemmas.Result.{err_from_is_err_and}
use Rattle.mesh_run.specs.Inner.Kinds.{CarrierStands, lines_by, outcome_of, text_by}
use Rattle.mesh_run.specs.Inner.Lines.{Carried, CarryFails}
use Rattle.mesh_run.proofs.EndLemmas.{FailsIn-last, StandsBehind-empty, StandsBehind-last, nil-from_length}
use Rattle.mesh_run.proofs.runner.Runner.last_line.Goals as goal

pub returns-then-is_empty-clause-ok : goal.returns-then-is_empty-clause-ok
returns-then-is_empty-clause-ok g c = λ kind base read stands.
    let runner = c.args.self.now in
    let zero_long : vec_len runner.line ≡ 0 = eqb-true (vec_len runner.line) 0 (sym c.is_empty.ensures ∙ c.if-is_empty.true) in
    StandsBehind-empty kind base (g.K.Sink.taken c.args.out.now) runner read stands (nil-from_length runner.line.items (omega (arith, runner.line.ok.0, zero_long)))

pub returns-in_err-carry_line-clause-failed : goal.returns-in_err-carry_line-clause-failed
returns-in_err-carry_line-clause-failed g c = λ kind base read stands.
    let p = err_from_is_err_and c.from_residual.result c.from_residual.ensures.1 in
    let runner = c.args.self.now in
    let old = g.K.Sink.taken c.args.out.now in
    let new = g.K.Sink.taken c.carry_line.new.out in
    let state = (lines_by kind stands.lines).state in
    let some : vec_len runner.line ≢ 0 = eqb-false (vec_len runner.line) 0 (sym c.is_empty.ensures ∙ c.if-is_empty.false) in
    let P : List ℕ → Type 0 = λ line. CarryFails (text_by kind) (outcome_of kind line state) base new (runner.lines + 1) c.in_err-carry_line.field-0.0 in
    rw (p.1, p.2)
    (FailsIn-last kind base old new runner read c.in_err-carry_line.field-0.0 stands (omega (arith, runner.line.ok.0, runner.short))
    (omega (arith, runner.line.ok.0, some)) runner.within
    (subst P c.as_slice-line.ensures.value (c.in_err-carry_line.ensures.line kind base state stands.at)))

pub returns-clause-ok : goal.returns-clause-ok
returns-clause-ok g c = λ kind base read stands.
    let runner = c.args.self.now in
    let old = g.K.Sink.taken c.args.out.now in
    let new = g.K.Sink.taken c.carry_line.new.out in
    let state = (lines_by kind stands.lines).state in
    let some : vec_len runner.line ≢ 0 = eqb-false (vec_len runner.line) 0 (sym c.is_empty.ensures ∙ c.if-is_empty.false) in
    let P : List ℕ → Type 0 = λ line. Carried (text_by kind) (CarrierStands kind) (outcome_of kind line state) base new c.carry_line.new.self in
    StandsBehind-last kind base old new runner c.carry_line.new.self read stands (omega (arith, runner.line.ok.0, runner.short))
    (omega (arith, runner.line.ok.0, some)) runner.within
    (subst P c.as_slice-line.ensures.value (c.in_ok-carry_line.ensures.line kind base state stands.at))
