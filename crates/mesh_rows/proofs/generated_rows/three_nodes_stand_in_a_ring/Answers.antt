use Rattle.std.proofs.Common.{refl}
use Rattle.mesh_rows.proofs.GeneratedOnLiterals.{generated_on_literals}
use Rattle.mesh_rows.proofs.generated_rows.three_nodes_stand_in_a_ring.Goals as goal

pub returns : goal.returns
unfolding generated_on_literals
returns c = record { nodes = refl; links = refl }
