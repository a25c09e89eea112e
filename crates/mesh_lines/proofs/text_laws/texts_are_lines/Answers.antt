use Rattle.mesh_lines.proofs.TextLawLemmas.{printed_is_plain, texts_are_lines}
use Rattle.mesh_lines.proofs.text_laws.texts_are_lines.Goals as goal

pub returns-clause-plain : goal.returns-clause-plain
returns-clause-plain c = printed_is_plain

pub returns-clause-lines : goal.returns-clause-lines
returns-clause-lines c = texts_are_lines
