use Rattle.std.proofs.Common.{◌∙◌}
use Rattle.mesh_scenario.proofs.OffsetLemmas.{first_offset}
use Rattle.mesh_scenario.proofs.words.word_length.Goals as goal

pub returns-clause-value : goal.returns-clause-value
returns-clause-value c = c.unwrap_or.ensures ∙ first_offset c.args.text.now c.memchr2.result c.memchr2.ensures
