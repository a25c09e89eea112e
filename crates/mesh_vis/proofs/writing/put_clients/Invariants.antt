use Rattle.std.proofs.Common.{◌≡◌, ◌++◌, take, flat_map}
use Rattle.mesh_model.specs.Packets.BodySpellings.{key_spelling}
use Rattle.mesh_vis.proofs.writing.put_clients.Given as goal

abbrev pub invariant-loop-key : goal.invariant-loop-key
invariant-loop-key l = l.out.items ≡ l.fn.out.items ++ flat_map key_spelling (take l.key-index l.keys)
