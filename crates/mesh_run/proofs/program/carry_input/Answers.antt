use Rattle.std.specs.Option.{option_copied}
use Rattle.mesh_run.proofs.RightlyLemmas.{failed_rightly, finished_rightly}
use Rattle.mesh_run.proofs.program.carry_input.Goals as goal

pub returns-in-Ok-clause-right : goal.returns-in-Ok-clause-right
returns-in-Ok-clause-right g c =
    finished_rightly c.args.kind (g.I.Intake.named c.args.intake.now (option_copied c.args.name)) (g.K.Sink.taken c.args.out.now)
    (g.K.Sink.taken c.run_input.new.out) c.in-Ok.ensures.finished

pub returns-clause-right : goal.returns-clause-right
returns-clause-right g c =
    failed_rightly c.args.kind (g.I.Intake.named c.args.intake.now (option_copied c.args.name)) (g.K.Sink.taken c.args.out.now)
    (g.K.Sink.taken c.run_input.new.out) (g.I.Intake.left c.args.intake.now) (g.I.Intake.left c.run_input.new.intake) c.in-Err.fault c.in-Err.ensures.failed
