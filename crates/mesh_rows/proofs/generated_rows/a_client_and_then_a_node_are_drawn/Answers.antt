use Rattle.std.proofs.Common.{refl}
use Rattle.mesh_rows.proofs.GeneratedOnLiterals.{generated_on_literals}
use Rattle.mesh_rows.proofs.generated_rows.a_client_and_then_a_node_are_drawn.Goals as goal

pub returns : goal.returns
unfolding generated_on_literals
returns c = record { few = refl; many = refl }
