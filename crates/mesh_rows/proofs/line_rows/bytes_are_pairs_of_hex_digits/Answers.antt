use Rattle.std.proofs.Common.{refl}
use Rattle.mesh_rows.proofs.LineOnLiterals.{line_on_literals}
use Rattle.mesh_rows.proofs.line_rows.bytes_are_pairs_of_hex_digits.Goals as goal

pub returns : goal.returns
unfolding line_on_literals
returns c = refl
