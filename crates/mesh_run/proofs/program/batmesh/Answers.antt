use Rattle.mesh_model.specs.Run.CommandLine.{kind_of, words_of}
use Rattle.mesh_words.specs.Words.{texts}
use Rattle.mesh_run.specs.Outcome.{read_input}
use Rattle.mesh_run.proofs.RightlyLemmas.{unprinted_rightly}
use Rattle.mesh_run.proofs.program.batmesh.Goals as goal

pub returns-in-Err-Memory-clause-right : goal.returns-in-Err-Memory-clause-right
returns-in-Err-Memory-clause-right g c =
    unprinted_rightly (kind_of (texts c.args.words.now)) (read_input (g.I.Intake.named c.args.intake.now) (words_of (texts c.args.words.now))) (g.K.Sink.taken c.args.out.now)
