use Rattle.std.proofs.Common.{length}
use Rattle.mesh_model.specs.Packets.LinkFrame.{link_frame}
use Rattle.node_clients.proofs.RoamingLemmas.{AreNoted}
use Rattle.node_clients.proofs.roaming.note_roamed.Given as goal

abbrev pub invariant-loop-packet : goal.invariant-loop-packet
invariant-loop-packet l = AreNoted l.me (link_frame l.bytes).packets l.frame.packets l.fn.locals l.locals

abbrev pub decreases-loop-packet : goal.decreases-loop-packet
decreases-loop-packet l = length l.frame.packets
