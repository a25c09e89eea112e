use Rattle.mesh_laws.proofs.Lines.Printing.{printed_grows, text_grows}
use Rattle.mesh_laws.proofs.line_laws.what_is_printed_grows.Goals as goal

pub returns-clause-printed : goal.returns-clause-printed
returns-clause-printed c = printed_grows

pub returns-clause-text : goal.returns-clause-text
returns-clause-text c = text_grows
