use Rattle.mesh_loops.proofs.RingLemmas.{loops_are_rings}
use Rattle.mesh_loops.proofs.laws.loops_are_rings.Goals as goal

pub returns : goal.returns
returns c = loops_are_rings
