use Rattle.mesh_lines.proofs.InputLines.{input_lines_are_plain}
use Rattle.mesh_lines.proofs.PlainReading.{read_is_plain}
use Rattle.mesh_lines.proofs.line_laws.lines_give_plain_words.Goals as goal

pub returns-clause-lines : goal.returns-clause-lines
returns-clause-lines c = input_lines_are_plain

pub returns-clause-read : goal.returns-clause-read
returns-clause-read c = read_is_plain
