use Rattle.std.specs.Option.{option_copied}
use Rattle.std.proofs.lemmas.Result.{err_from_is_err_and}
use Rattle.mesh_run.proofs.InputLemmas.{failed-told, finished-told}
use Rattle.mesh_run.proofs.input.run_input.Goals as goal

pub returns-in_err-read_all-clause-failed : goal.returns-in_err-read_all-clause-failed
returns-in_err-read_all-clause-failed g c =
    let p = err_from_is_err_and c.from_residual.result c.from_residual.ensures.1 in
    let out = g.K.Sink.taken c.args.out.now in
    rw (p.1, p.2)
    (failed-told c.args.kind (g.I.Intake.named c.args.intake.now (option_copied c.args.name)) (g.I.Intake.left c.open.new.self) (g.I.Intake.left c.read_all.new.intake) (g.I.Intake.left c.args.intake.now) out
    (g.K.Sink.taken c.read_all.new.out) c.in_err-read_all.field-0.0 c.in-Ok.ensures.opened (c.in_err-read_all.ensures.failed c.args.kind out (c.new_runner.ensures.stands out)))

pub returns-clause-finished : goal.returns-clause-finished
returns-clause-finished g c =
    let out = g.K.Sink.taken c.args.out.now in
    finished-told c.args.kind (g.I.Intake.named c.args.intake.now (option_copied c.args.name)) (g.I.Intake.left c.open.new.self) (g.I.Intake.left c.read_all.new.intake) out
    (g.K.Sink.taken c.read_all.new.out) c.in-Ok.ensures.opened (c.in_ok-read_all.ensures.ok c.args.kind out (c.new_runner.ensures.stands out))

pub returns-clause-at_end : goal.returns-clause-at_end
returns-clause-at_end g c =
    let out = g.K.Sink.taken c.args.out.now in
    (c.in_ok-read_all.ensures.ok c.args.kind out (c.new_runner.ensures.stands out)).at_end
