use Rattle.std.proofs.Common.{refl}
use Rattle.mesh_rows.proofs.OnLiterals.{model_on_literals}
use Rattle.mesh_rows.proofs.rows.nodes_have_tables_of_their_own.Goals as goal

pub returns : goal.returns
unfolding model_on_literals
returns c = (refl, refl)
