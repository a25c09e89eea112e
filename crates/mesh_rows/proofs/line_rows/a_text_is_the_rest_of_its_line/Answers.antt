use Rattle.std.proofs.Common.{refl}
use Rattle.mesh_rows.proofs.LineOnLiterals.{line_on_literals}
use Rattle.mesh_rows.proofs.line_rows.a_text_is_the_rest_of_its_line.Goals as goal

pub returns : goal.returns
unfolding line_on_literals
returns c = refl
