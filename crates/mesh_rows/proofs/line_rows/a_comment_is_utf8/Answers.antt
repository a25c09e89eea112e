use Rattle.std.proofs.Common.{refl}
use Rattle.mesh_rows.proofs.LineOnLiterals.{line_on_literals}
use Rattle.mesh_rows.proofs.line_rows.a_comment_is_utf8.Goals as goal

pub returns : goal.returns
unfolding line_on_literals
returns c = record { bad = refl; long = refl }
