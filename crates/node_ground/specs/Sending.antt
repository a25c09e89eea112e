-- A packet that can be written: its containers aren't longer than its header can tell, and it has a
-- tail only where its kind has one. And what an originator message announces, and an answer, whole
-- or in parts, whose containers aren't longer. The main words are `IsWritable`, `FitsOgm`,
-- `FitsPacket` and `FitsParts`.
use Rattle.std.specs.Prelude.{◌≡◌, ◌≤◌, ◌+◌, ◌*◌, ℕ, false, List, [], length, ⊤}
use Rattle.mesh_codec.specs.Encoding.{FitsFragment, longest_containers}
use Rattle.mesh_model.specs.declared.packet.Head.{Head}
use Rattle.mesh_model.specs.Clients.Limits.{clients_limit}
use Rattle.mesh_model.specs.Packets.Shapes.{TailKind, shape_of}
use Rattle.mesh_model.specs.Packets.Shapes.TailKind.{containers, all_the_rest, nothing}
use Rattle.mesh_model.specs.Tables.Answers.{Reply}
use Rattle.tt_table.specs.declared.announcement.Announcement.{Announcement}
use Rattle.tt_table.specs.Sums.{named_sums}

-- a tail may follow the header of a kind that has this tail
abbrev pub MayBeTail : TailKind → List ℕ → Type 0
MayBeTail containers tail = length tail ≤ longest_containers
MayBeTail all_the_rest tail = ⊤
MayBeTail nothing tail = tail ≡ []

-- a packet with this head and tail can be written
pub record IsWritable (head : Head) (tail : List ℕ) : Type 0 where
  pub fragment : FitsFragment head
  pub fits : MayBeTail (shape_of head).tail tail

-- the containers of an originator message that announces this aren't longer: that of the table has
-- 8 bytes, 8 more for each checksum and 12 for each change, and the others have at most 24
abbrev pub FitsOgm : Announcement → Type 0
FitsOgm announced =
    32 + 8 * length (named_sums announced.sums) + 12 * length announced.changes ≤ longest_containers

-- the container of an answer, with 8 bytes for each checksum and 12 for each record, isn't longer
abbrev pub FitsPacket : Reply → Type 0
FitsPacket reply =
    8 + 8 * length reply.stamp.sums + 12 * length reply.records ≤ longest_containers

-- each packet of an answer, whole or a part, isn't longer: a part has 4 bytes more and at most 1,024
-- records, and changes are no more than that
pub record FitsParts (reply : Reply) : Type 0 where
  pub sums : 12 + 8 * length reply.stamp.sums + 12 * 1024 ≤ longest_containers
  pub few : length reply.records ≤ clients_limit
  pub changes : reply.full ≡ false → length reply.records ≤ 1024
