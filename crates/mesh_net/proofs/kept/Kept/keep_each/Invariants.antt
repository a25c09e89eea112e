use Rattle.std.proofs.Common.{◌≡◌, ◌++◌, take}
use Rattle.mesh_net.proofs.kept.Kept.keep_each.Given as goal

abbrev pub invariant-loop-sending : goal.invariant-loop-sending
invariant-loop-sending l = l.self ≡ l.fn.self ++ take l.sending-index l.sending-items
