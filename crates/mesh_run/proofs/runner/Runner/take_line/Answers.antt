use Rattle.std.proofs.Common.{[], ◌∷◌, ◌++◌, ◌+◌, length, arith, append_assoc, append-nil, length-append, sym, ◌∙◌}
use Rattle.std.proofs.lemmas.Result.{err_from_is_err_and}
use Rattle.mesh_model.specs.Scenario.Lines.{newline}
use Rattle.mesh_run.proofs.ProgressLemmas.{Fails-later}
use Rattle.mesh_run.proofs.runner.Runner.take_line.Goals as goal

pub returns-in_err-hold-clause-failed : goal.returns-in_err-hold-clause-failed
returns-in_err-hold-clause-failed g c = λ unbroken kind base read stands.
    let p = err_from_is_err_and c.from_residual.result c.from_residual.ensures.1 in
    let text = c.args.text.now in
    let out = g.K.Sink.taken c.args.out.now in
    rw (p.1, p.2)
    (Fails-later kind base out (length read + 1) (length read + 1) (read ++ text) (read ++ (text ++ newline ∷ [])) (newline ∷ []) c.in_err-hold.field-0.0
    (omega arith) (sym (append_assoc read text (newline ∷ []))) (c.in_err-hold.ensures.failed out unbroken kind base read stands))

pub returns-in_err-hold-clause-faults : goal.returns-in_err-hold-clause-faults
returns-in_err-hold-clause-faults g c =
    let p = err_from_is_err_and c.from_residual.result c.from_residual.ensures.1 in
    record { kept = omega arith; cause = rw (p.1, p.2) (c.in_err-hold.ensures.blameless (g.K.Sink.faults c.args.out.now) (g.K.Sink.faults c.args.out.now)) }

pub returns-in_err-end_line-clause-failed : goal.returns-in_err-end_line-clause-failed
returns-in_err-end_line-clause-failed g c = λ unbroken kind base read stands.
    let p = err_from_is_err_and c.from_residual-in_err-end_line.result c.from_residual-in_err-end_line.ensures.1 in
    let text = c.args.text.now in
    let held = c.in_ok-hold.ensures.ok (g.K.Sink.taken c.args.out.now) unbroken kind base read stands in
    let ended = (read ++ text) ++ newline ∷ [] in
    rw (p.1, p.2)
    (Fails-later kind base (g.K.Sink.taken c.end_line.new.out) (length (read ++ text) + 1) (length read + 1) ended (read ++ (text ++ newline ∷ [])) [] c.in_err-end_line.field-0.0
    (omega (arith, length-append read text)) (sym (append_assoc read text (newline ∷ [])) ∙ sym (append-nil ended))
    (c.in_err-end_line.ensures.failed kind base (read ++ text) held))
