use Rattle.std.proofs.Common.{◌≡◌, ◌++◌, take, flat_map}
use Rattle.mesh_model.specs.Packets.Pictures.{neighbour_spelling}
use Rattle.mesh_vis.proofs.writing.put_neighbours.Given as goal

abbrev pub invariant-loop-row : goal.invariant-loop-row
invariant-loop-row l = l.out.items ≡ l.fn.out.items ++ flat_map neighbour_spelling (take l.row-index l.rows)
