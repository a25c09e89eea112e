use Rattle.std.proofs.Common.{[], ◌∷◌, ◌++◌, ◌+◌, ◌-◌, length, take, drop, arith, ap, append_assoc, append-nil, length-append, sym, ◌∙◌}
use Rattle.std.proofs.lemmas.Result.{err_from_is_err_and}
use Rattle.mesh_model.specs.Scenario.Lines.{newline}
use Rattle.mesh_run.proofs.PieceLemmas.{piece-length, piece-step, unbroken-front, unbroken-none}
use Rattle.mesh_run.proofs.ProgressLemmas.{Fails-later}
use Rattle.mesh_run.proofs.runner.Runner.take_lines.Goals as goal

pub returns-in_err-take_line-clause-failed : goal.returns-in_err-take_line-clause-failed
returns-in_err-take_line-clause-failed g c = λ kind base read stands.
    let p = err_from_is_err_and c.from_residual.result c.from_residual.ensures.1 in
    let loop = c.loop-end.invariant in
    let rest = c.loop-end.rest.now in
    let end = c.in-Some.end in
    let line = take end rest ++ newline ∷ [] in
    let later = take (length rest - (end + 1)) (drop (end + 1) rest) in
    let all = ap (λ bytes. read ++ bytes) (piece-step c.args.bytes.now loop.done rest end loop.split c.in-Some.ensures)
    ∙ sym (append_assoc read (loop.done ++ line) later) ∙ ap (λ bytes. bytes ++ later) (sym (append_assoc read loop.done line)) in
    rw (p.1, p.2)
    (Fails-later kind base (g.K.Sink.taken c.take_line.new.out) (length (read ++ loop.done) + 1) (length read + 1) ((read ++ loop.done) ++ line) (read ++ c.args.bytes.now) later
    c.in_err-take_line.field-0.0 (omega (arith, length-append read loop.done)) all
    (c.in_err-take_line.ensures.failed (unbroken-front rest end c.in-Some.ensures) kind base (read ++ loop.done) (loop.stands kind base read stands)))

pub loop-end-preserved : goal.loop-end-preserved
loop-end-preserved g c =
    let loop = c.loop-end.invariant in
    let rest = c.loop-end.rest.now in
    let end = c.in-Some.end in
    let line = take end rest ++ newline ∷ [] in
    record {
      done = loop.done ++ line;
      split = piece-step c.args.bytes.now loop.done rest end loop.split c.in-Some.ensures;
      stands = λ kind base read stands.
          rw (append_assoc read loop.done line) at
          (c.in_ok-take_line.ensures.ok (unbroken-front rest end c.in-Some.ensures) kind base (read ++ loop.done) (loop.stands kind base read stands));
      ready = c.in_ok-take_line.ensures.ready;
      taken = omega (arith, loop.taken, piece-length rest end c.in-Some.ensures.0.high, c.in_ok-take_line.ensures.taken);
      within = loop.within;
      faults = omega (arith, loop.faults, c.in_ok-take_line.ensures.faults.kept);
    }

pub returns-in_err-hold-clause-failed : goal.returns-in_err-hold-clause-failed
returns-in_err-hold-clause-failed g c = λ kind base read stands.
    let p = err_from_is_err_and c.from_residual-in_err-hold.result c.from_residual-in_err-hold.ensures.1 in
    let loop = c.loop-end.invariant in
    let rest = c.loop-end.rest.now in
    let all = ap (λ bytes. read ++ bytes) loop.split ∙ sym (append_assoc read loop.done rest) ∙ sym (append-nil ((read ++ loop.done) ++ rest)) in
    rw (p.1, p.2)
    (Fails-later kind base (g.K.Sink.taken c.loop-end.out) (length (read ++ loop.done) + 1) (length read + 1) ((read ++ loop.done) ++ rest) (read ++ c.args.bytes.now) []
    c.in_err-hold.field-0.0 (omega (arith, length-append read loop.done)) all
    (c.in_err-hold.ensures.failed (g.K.Sink.taken c.loop-end.out) (unbroken-none rest c.in_default.ensures) kind base (read ++ loop.done) (loop.stands kind base read stands)))

pub returns-in_err-hold-clause-faults : goal.returns-in_err-hold-clause-faults
returns-in_err-hold-clause-faults g c =
    let p = err_from_is_err_and c.from_residual-in_err-hold.result c.from_residual-in_err-hold.ensures.1 in
    record {
      kept = c.loop-end.invariant.faults;
      cause = rw (p.1, p.2) (c.in_err-hold.ensures.blameless (g.K.Sink.faults c.args.out.now) (g.K.Sink.faults c.loop-end.out));
    }

pub returns-clause-ok : goal.returns-clause-ok
returns-clause-ok g c = λ kind base read stands.
    let loop = c.loop-end.invariant in
    let rest = c.loop-end.rest.now in
    let all = ap (λ bytes. read ++ bytes) loop.split ∙ sym (append_assoc read loop.done rest) in
    rw all
    (c.in_ok-hold.ensures.ok (g.K.Sink.taken c.loop-end.out) (unbroken-none rest c.in_default.ensures) kind base (read ++ loop.done) (loop.stands kind base read stands))
