use Rattle.std.proofs.Common.{refl}
use Rattle.mesh_rows.proofs.LineOnLiterals.{line_on_literals}
use Rattle.mesh_rows.proofs.line_rows.a_fact_has_at_most_1000_bytes.Goals as goal

pub returns : goal.returns
unfolding line_on_literals
returns c = record { most = refl; more = refl }
