use Rattle.std.proofs.Common.{◌≡◌, take}
use Rattle.mesh_model.specs.Knowledge.Told.{sums_told}
use Rattle.tt_table.specs.Sums.{named_sums}
use Rattle.node_ground.proofs.reading.sums_in.Given as goal

abbrev pub invariant-loop-i : goal.invariant-loop-i
invariant-loop-i l = named_sums l.sums ≡ sums_told (take l.i l.table.vlans)
