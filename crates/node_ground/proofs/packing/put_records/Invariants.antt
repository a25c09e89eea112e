use Rattle.std.proofs.Common.{◌≡◌, ◌+◌, ◌*◌, ◌++◌, length, map, take}
use Rattle.std.specs.List.{flat_map}
use Rattle.mesh_model.specs.Commits.Announcements.{record_of_change}
use Rattle.mesh_model.specs.Packets.BodySpellings.{change_spelling}
use Rattle.node_ground.proofs.packing.put_records.Given as goal

abbrev pub invariant-loop-change : goal.invariant-loop-change
invariant-loop-change l = (l.out.items ≡ l.initial.out.items ++ flat_map change_spelling (map record_of_change (take l.change-index l.changes)))
    × (length l.out.items ≡ length l.initial.out.items + 12 * l.change-index)
