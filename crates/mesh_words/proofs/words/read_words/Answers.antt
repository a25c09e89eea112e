use Rattle.std.proofs.Common.{◌∙◌, sym}
use Rattle.mesh_words.specs.Words.{texts}
use Rattle.mesh_words.proofs.WordLemmas.{faultless, faulty}
use Rattle.mesh_words.proofs.words.read_words.Goals as goal

pub returns-in-Err-clause-usage : goal.returns-in-Err-clause-usage
returns-in-Err-clause-usage c is = faulty (texts c.args.words.now) (c.in-Err.ensures.usage is)

pub returns-in-Some-clause-taken : goal.returns-in-Some-clause-taken
returns-in-Some-clause-taken c = faultless (texts c.args.words.now) _ c.in-Ok.ensures.fault c.in-Ok.ensures.rows ∙ sym c.in-Some.ensures.call

pub returns-clause-usage : goal.returns-clause-usage
returns-clause-usage c is = faultless (texts c.args.words.now) _ c.in-Ok.ensures.fault c.in-Ok.ensures.rows ∙ sym c.in-None.ensures.call
