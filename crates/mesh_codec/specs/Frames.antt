-- The packets of a link frame where they lie. The main word is `frame_left`, what is left of a
-- frame whose packets are taken one after the other.
use Rattle.std.specs.Prelude.{ℕ, List, Option, Some, None}
use Rattle.mesh_model.specs.declared.link_frame.Ending.{Ending}
use Rattle.mesh_model.specs.Packets.FirstPacket as packets
use Rattle.mesh_model.specs.Packets.LinkFrame.{LinkFrame, link_frame, only_ending}
use Rattle.mesh_codec.specs.declared.first_packet.Packet.{Packet}

-- a packet apart from where its tail lies
abbrev pub seen : Packet → packets.Packet
seen packet = record { head = packet.head; tail = packet.tail.now }

-- the link frame that is left: these bytes, or nothing but an ending that was met
abbrev pub frame_left : List ℕ → Option Ending → LinkFrame
frame_left bytes None = link_frame bytes
frame_left bytes (Some ending) = only_ending ending
