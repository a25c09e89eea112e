use Rattle.std.proofs.Common.{◌≡◌, length}
use Rattle.mesh_model.specs.Packets.Containers.{containers_of}
use Rattle.mesh_model.specs.Packets.Contents.{first_part}
use Rattle.mesh_tvlv.specs.Walk.{to_come}
use Rattle.node_ground.proofs.reading.first_part.Given as goal

abbrev pub invariant-loop-container : goal.invariant-loop-container
invariant-loop-container l = first_part (containers_of l.bytes) ≡ first_part (to_come l.walk)

abbrev pub decreases-loop-container : goal.decreases-loop-container
decreases-loop-container l = length (to_come l.walk)
