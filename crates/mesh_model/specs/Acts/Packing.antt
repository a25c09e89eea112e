-- The packets that a node makes itself, and how they are put: on all links, or to the neighbour on
-- the way to a node. A packet that a node begins has 50 hops before it. The main words are
-- `sent_to` and `table_container`.
use Rattle.std.specs.Prelude.{ℕ, ◌+◌, Bool, true, false, List, [], ◌∷◌, map, Option, Some, None, if◌then◌else◌}
use Rattle.mesh_base.specs.declared.address.Mac.{Mac}
use Rattle.mesh_base.specs.declared.client.Key.{Key}
use Rattle.mesh_base.specs.declared.event.Reason.{Reason}
use Rattle.mesh_model.specs.declared.act.Act.{Act}
use Rattle.mesh_model.specs.declared.act.Act.TheVariants.{Link}
use Rattle.mesh_model.specs.declared.packet.Head.{Head}
use Rattle.mesh_model.specs.declared.table_change.Change.{Change}
use Rattle.mesh_model.specs.declared.table_outcome.Request.{Request}
use Rattle.mesh_model.specs.declared.table_outcome.Request.TheVariants.{Full, Changes}
use Rattle.mesh_model.specs.Commits.Announcements.{record_of_change}
use Rattle.mesh_model.specs.Packets.Bodies.{TtData, TtPart}
use Rattle.mesh_model.specs.Packets.BodySpellings.{key_spelling, tt_part_spelling, tt_spelling}
use Rattle.mesh_model.specs.Packets.Containers.{Container, containers_spelling}
use Rattle.mesh_model.specs.Packets.Layout.{spelling}
use Rattle.mesh_model.specs.Packets.Numbers.{full_table_flag, request_flag, response_flag, roaming_tvlv, tt_part_version, tt_tvlv, tvlv_version}
use Rattle.mesh_model.specs.Tables.Answers.{PartPlace, Reply, ReplyPart}
use Rattle.mesh_model.specs.Tables.Versions.{Stamp}

-- a packet to a neighbour
abbrev pub sent_to : Mac → Option Reason → Head → List ℕ → Act
sent_to next reason head tail = Link (Some next) reason (spelling head tail)

-- a packet on all links
abbrev pub sent_to_all : Head → List ℕ → Act
sent_to_all head tail = Link None None (spelling head tail)

-- a packet on the way to a node, where there is a way
abbrev pub sent_over : Option Mac → Head → List ℕ → List Act
sent_over None head tail = []
sent_over (Some next) head tail = sent_to next None head tail ∷ []

-- the container of a client that roamed
abbrev pub roaming_container : Key → Container
roaming_container key =
    record { kind = roaming_tvlv; version = tvlv_version; body = key_spelling key }

-- the container of a translation table
abbrev pub table_container : TtData → Container
table_container table =
    record { kind = tt_tvlv; version = tvlv_version; body = tt_spelling table }

-- the container of a part of a translation table
abbrev pub part_container : TtPart → Container
part_container part =
    record { kind = tt_tvlv; version = tt_part_version; body = tt_part_spelling part }

-- a translation table of a version with these flags and changes
abbrev pub table_told : ℕ → Stamp → List Change → TtData
table_told flags stamp changes = record {
  flags = flags;
  ttvn = stamp.byte;
  vlans = stamp.sums;
  changes = map record_of_change changes;
}

-- a flag beside that of a whole table, where it is one
abbrev pub with_full : ℕ → Bool → ℕ
with_full flag full = if full then flag + full_table_flag else flag

-- the flags of a request
abbrev pub request_flags : Request → ℕ
request_flags Full = with_full request_flag true
request_flags Changes = with_full request_flag false

-- the containers of a request for what was told
abbrev pub request_containers : Request → Stamp → List ℕ
request_containers request stamp =
    containers_spelling (table_container (table_told (request_flags request) stamp []) ∷ [])

-- the translation table of an answer
abbrev pub reply_table : Reply → TtData
reply_table reply = table_told (with_full response_flag reply.full) reply.stamp reply.records

-- the containers of an answer
abbrev pub reply_containers : Reply → List ℕ
reply_containers reply = containers_spelling (table_container (reply_table reply) ∷ [])

-- the containers of what one packet brings of an answer, by its place where it is a part
abbrev pub containers_at : Option PartPlace → Reply → List ℕ
containers_at None reply = reply_containers reply
containers_at (Some place) reply = containers_spelling (part_container
    (record { table = reply_table reply; number = place.number; count = place.count }) ∷ [])

-- the containers of what one packet brings of an answer
abbrev pub part_containers : ReplyPart → List ℕ
part_containers part = containers_at part.place part.reply
