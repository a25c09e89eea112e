use Rattle.std.proofs.Common.{◌≡◌, ◌+◌, ◌*◌, ◌++◌, length, take}
use Rattle.std.specs.List.{flat_map}
use Rattle.mesh_model.specs.Packets.BodySpellings.{vlan_spelling}
use Rattle.tt_table.specs.Sums.{named_sums}
use Rattle.node_ground.proofs.packing.put_vlans.Given as goal

abbrev pub invariant-loop-i : goal.invariant-loop-i
invariant-loop-i l = (l.out.items ≡ l.initial.out.items ++ flat_map vlan_spelling (take l.i (named_sums l.sums)))
    × (length l.out.items ≡ length l.initial.out.items + 8 * l.i)
