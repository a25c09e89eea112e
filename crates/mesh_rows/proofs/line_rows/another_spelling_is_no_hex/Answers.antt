use Rattle.std.proofs.Common.{refl}
use Rattle.mesh_rows.proofs.LineOnLiterals.{line_on_literals}
use Rattle.mesh_rows.proofs.line_rows.another_spelling_is_no_hex.Goals as goal

pub returns : goal.returns
unfolding line_on_literals
returns c = record { half = refl; other = refl; blank = refl }
