-- What the packets of frames say of an originator's tables, as sayings of the table machine. Each
-- originator message of it announces the commit of its root; each answer with it as source was said
-- of its tables. The main words are `PacketSays` and `FrameSays`.
use Rattle.std.specs.Prelude.{◌≡◌, ◌⊎◌, ◌≤◌, ◌<◌, ℕ, List, length, Some, ⊤}
use Rattle.mesh_base.specs.declared.address.Mac.{Mac}
use Rattle.mesh_model.specs.Clients.Log.{Log}
use Rattle.mesh_model.specs.Knowledge.Told.{Answers, message_changes, message_in, part_told, stamp_told}
use Rattle.mesh_model.specs.Net.Due.{ticks_in}
use Rattle.mesh_model.specs.Net.Next.{Has}
use Rattle.mesh_model.specs.Packets.Bodies.{TtData}
use Rattle.mesh_model.specs.Packets.Containers.{containers_of}
use Rattle.mesh_model.specs.Packets.Contents.{first_part, first_table}
use Rattle.mesh_model.specs.Packets.FirstPacket.{Packet}
use Rattle.mesh_model.specs.Packets.LinkFrame.{link_frame}
use Rattle.mesh_model.specs.Tables.Judging.{Carried, InFull, InPart, InChanges}
use Rattle.mesh_model.specs.Tables.Versions.{Stamp}
use Rattle.mesh_laws.specs.Machine.World.{Saying, Announcement, Differences, Piece, WasSaid}
use Rattle.mesh_tie.specs.Originators.{number_at_root}
use Rattle.mesh_tie.specs.Sources.{Word, MessageOf, ContainersOf, Nothing, HasWholeAddresses, word_of}

-- one more than the most bytes of containers that a header can tell
abbrev pub containers_end : ℕ
containers_end = 65536

-- the saying that an answer is; a whole table is one piece, and a part is one of so many
abbrev pub saying_of : Stamp → Carried → Saying
saying_of stamp (InFull records) = Piece stamp.byte stamp.sums 0 1 records
saying_of stamp (InPart number count records) =
    Piece stamp.byte stamp.sums number count records
saying_of stamp (InChanges records) = Differences stamp.byte stamp.sums records

-- the saying that a translation table is, in a message that announces the commit of a number
abbrev pub announcement_by : ℕ → TtData → Saying
announcement_by number table = Announcement number (stamp_told table).byte (stamp_told table).sums
    (message_changes table)

-- containers hold an announcement, by an originator with this log, of the commit of a root
pub record IsAnnounced (orig : Mac) (log : Log) (said : List Saying) (root : ℕ) (tail : List ℕ)
    : Type 0 where
  pub table : TtData
  pub found : first_table (containers_of tail) ≡ Some table
  pub past : root ≤ ticks_in log
  pub was_said : WasSaid said (announcement_by (number_at_root orig log root) table)

-- containers hold an answer: in a translation table, or in a part of one
abbrev pub HoldsAnswer : List ℕ → Stamp → Carried → Type 0
HoldsAnswer tail stamp carried =
    (message_in (first_table (containers_of tail)) ≡ Answers stamp carried)
    ⊎ (part_told (first_part (containers_of tail)) ≡ Answers stamp carried)

-- containers are read as they were sent, and an answer in them was said
pub record IsAnswered (said : List Saying) (tail : List ℕ) : Type 0 where
  pub small : length tail < containers_end
  pub was_said : (stamp : Stamp) (carried : Carried) → HoldsAnswer tail stamp carried →
      WasSaid said (saying_of stamp carried)

-- what the containers of a packet of this word say of an originator with this log
abbrev pub WordSays : Mac → Log → List Saying → ℕ → List ℕ → Word → Type 0
WordSays orig log said root tail (MessageOf source) =
    (length tail < containers_end) × (source ≡ orig → IsAnnounced orig log said root tail)
WordSays orig log said root tail (ContainersOf source) = source ≡ orig → IsAnswered said tail
WordSays orig log said root tail Nothing = ⊤

-- what a packet with a root says of an originator with this log
pub record PacketSays (orig : Mac) (log : Log) (said : List Saying) (root : ℕ) (packet : Packet)
    : Type 0 where
  pub addresses : HasWholeAddresses packet.head
  pub says : WordSays orig log said root packet.tail (word_of packet.head)

-- what the bytes of a frame with a root say of an originator with this log
abbrev pub FrameSays : Mac → Log → List Saying → ℕ → List ℕ → Type 0
FrameSays orig log said root bytes = (packet : Packet) →
    Has (link_frame bytes).packets packet → PacketSays orig log said root packet
