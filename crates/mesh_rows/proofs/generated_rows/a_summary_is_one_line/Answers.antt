use Rattle.std.proofs.Common.{refl}
use Rattle.mesh_rows.proofs.GeneratedOnLiterals.{generated_on_literals}
use Rattle.mesh_rows.proofs.generated_rows.a_summary_is_one_line.Goals as goal

pub returns : goal.returns
unfolding generated_on_literals
returns c = refl
