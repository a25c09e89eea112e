use Rattle.mesh_loops.proofs.RingLemmas.{one_loop}
use Rattle.mesh_loops.proofs.laws.one_loop_through_a_node.Goals as goal

pub returns : goal.returns
returns c = one_loop
