use Rattle.std.proofs.Common.{length}
use Rattle.mesh_dat.proofs.nearest.+nearest_three.Given as goal

abbrev pub decreases-nearest_three : goal.decreases-nearest_three
decreases-nearest_three l = length l.nodes.now
