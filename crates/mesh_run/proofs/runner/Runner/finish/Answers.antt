use Rattle.std.proofs.lemmas.Result.{err_from_is_err_and}
use Rattle.mesh_model.specs.Scenario.Lines.{lines_of}
use Rattle.mesh_run.specs.Inner.Kinds.{lines_by}
use Rattle.mesh_run.proofs.EndLemmas.{FailsIn-end, Finishes-end}
use Rattle.mesh_run.proofs.runner.Runner.finish.Goals as goal

pub returns-in_err-last_line-clause-failed : goal.returns-in_err-last_line-clause-failed
returns-in_err-last_line-clause-failed g c = λ kind base read stands.
    let p = err_from_is_err_and c.from_residual.result c.from_residual.ensures.1 in
    rw (p.1, p.2) (c.in_err-last_line.ensures.failed kind base read stands)

pub returns-in_err-end-clause-failed : goal.returns-in_err-end-clause-failed
returns-in_err-end-clause-failed g c = λ kind base read stands.
    let p = err_from_is_err_and c.from_residual-in_err-end.result c.from_residual-in_err-end.ensures.1 in
    let old = g.K.Sink.taken c.last_line.new.out in
    let new = g.K.Sink.taken c.end.new.out in
    let behind = c.in_ok-last_line.ensures.ok kind base read stands in
    rw (p.1, p.2)
    (FailsIn-end kind base old new c.last_line.new.self.carrier read c.in_err-end.field-0.0 behind (c.in_err-end.ensures.failed kind base (lines_by kind (lines_of read)).state behind.at))

pub returns-clause-ok : goal.returns-clause-ok
returns-clause-ok g c = λ kind base read stands.
    let behind = c.in_ok-last_line.ensures.ok kind base read stands in
    Finishes-end kind base (g.K.Sink.taken c.last_line.new.out) (g.K.Sink.taken c.end.new.out) c.last_line.new.self.carrier read behind (c.in_ok-end.ensures.ok kind base (lines_by kind (lines_of read)).state behind.at)
