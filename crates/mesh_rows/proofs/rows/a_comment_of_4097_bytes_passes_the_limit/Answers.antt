use Rattle.std.proofs.Common.{refl}
use Rattle.mesh_rows.proofs.OnLiterals.{model_on_literals}
use Rattle.mesh_rows.proofs.rows.a_comment_of_4097_bytes_passes_the_limit.Goals as goal

pub returns : goal.returns
unfolding model_on_literals
returns c = record { halts = (refl, refl); told = refl }
