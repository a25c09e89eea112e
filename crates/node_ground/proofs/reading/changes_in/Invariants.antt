use Rattle.std.proofs.Common.{◌≡◌, take, map}
use Rattle.mesh_model.specs.Knowledge.Told.{change_told}
use Rattle.node_ground.proofs.reading.changes_in.Given as goal

abbrev pub invariant-loop-i : goal.invariant-loop-i
invariant-loop-i l = l.changes ≡ map change_told (take l.i l.table.changes)
