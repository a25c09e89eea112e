use Rattle.std.proofs.Common.{refl}
use Rattle.mesh_rows.proofs.LineOnLiterals.{line_on_literals}
use Rattle.mesh_rows.proofs.line_rows.a_return_is_dropped_before_a_newline.Goals as goal

pub returns : goal.returns
unfolding line_on_literals
returns c = record { dropped = refl; stands = refl }
