use Rattle.std.proofs.Common.{refl}
use Rattle.mesh_rows.proofs.GeneratedOnLiterals.{generated_on_literals}
use Rattle.mesh_rows.proofs.generated_rows.lines_of_received_frames_are_counted.Goals as goal

pub returns : goal.returns
unfolding generated_on_literals
returns c = refl
