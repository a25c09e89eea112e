-- What packets tell a node: an originator message with a translation table that can be read; a
-- request for a table, or an answer to one, which may come in parts; a client that roamed; a
-- broadcast. The main words are `message_of`, `table_message` and `part_told`.
use Rattle.std.specs.Prelude.{◌&&◌, Bool, List, [], map, fold, Option, Some, None, option_map, if◌then◌else◌}
use Rattle.mesh_base.specs.declared.address.Mac.{Mac}
use Rattle.mesh_model.specs.declared.packet.Head.{Head}
use Rattle.mesh_model.specs.declared.packet.Head.TheVariants.{IvOgm, Bcast, Elp, Ogm2, Unicast, Frag, Unicast4, Icmp, Utvlv}
use Rattle.mesh_model.specs.declared.table_change.Change.{Change}
use Rattle.mesh_model.specs.Packets.Bodies.{TtChange, TtData, TtPart, VlanSum, entry_of_change, is_deletion}
use Rattle.mesh_model.specs.Packets.Containers.{containers_of}
use Rattle.mesh_model.specs.Packets.Contents.{first_table}
use Rattle.mesh_model.specs.Packets.FirstPacket.{Packet}
use Rattle.mesh_model.specs.Packets.Numbers.{full_table_flag, request_flag, response_flag}
use Rattle.mesh_model.specs.Routes.Ogm.{has_flag}
use Rattle.mesh_model.specs.Tables.Judging.{Carried, InFull, InPart, InChanges}
use Rattle.mesh_model.specs.Tables.Sums.{with_sum}
use Rattle.mesh_model.specs.Tables.Versions.{Stamp}

-- the sums of VLANs, by wire number: where a VLAN stands twice, the later one counts
abbrev pub sums_told : List VlanSum → List VlanSum
sums_told vlans = fold (λ sums vlan. with_sum vlan sums) [] vlans

-- the byte and the sums of a translation table
abbrev pub stamp_told : TtData → Stamp
stamp_told table = record { byte = table.ttvn; sums = sums_told table.vlans }

-- the change that a record tells
abbrev pub change_told : TtChange → Change
change_told change = record { entry = entry_of_change change; del = is_deletion change }

-- the changes of a translation table
abbrev pub message_changes : TtData → List Change
message_changes table = map change_told table.changes

-- an originator message that a node takes: its originator and its translation table
pub record Message : Type 0 where
  pub orig : Mac
  pub table : TtData

-- the message of an originator whose containers hold a translation table that can be read
abbrev pub message_with : Mac → Option TtData → Option Message
message_with orig table = option_map (λ told. record { orig = orig; table = told }) table

-- the message that a packet is, where it is one
abbrev pub message_by : Head → Option TtData → Option Message
message_by (IvOgm ttl flags seq orig prev tq) table = message_with orig table
message_by (Bcast ttl seq orig) table = None
message_by (Elp orig seq interval) table = None
message_by (Ogm2 ttl flags seq orig throughput) table = message_with orig table
message_by (Unicast ttl ttvn dst) table = None
message_by (Frag ttl number priority dst orig seq total) table = None
message_by (Unicast4 ttl ttvn dst src subtype) table = None
message_by (Icmp ttl msg dst orig uid seq) table = None
message_by (Utvlv ttl dst src) table = None

-- the originator message that a packet is, where a node takes it
abbrev pub message_of : Packet → Option Message
message_of packet = message_by packet.head (first_table (containers_of packet.tail))

-- what a translation table for one node is: a request, for the whole table or for changes, under a
-- byte and sums; an answer; or neither
pub data TableMessage : Type 0 where
  Asks : (full : Bool) → Stamp → TableMessage
  Answers : Stamp → Carried → TableMessage
  Neither : TableMessage

-- what an answer carries, by whether it has the whole table
abbrev pub carried_told : Bool → List Change → Carried
carried_told full records = if full then InFull records else InChanges records

-- what a translation table for one node is, by its flags
abbrev pub table_message : TtData → TableMessage
table_message table =
    if has_flag request_flag table.flags
    then Asks (has_flag full_table_flag table.flags) (stamp_told table)
    else if has_flag response_flag table.flags
    then Answers (stamp_told table)
    (carried_told (has_flag full_table_flag table.flags) (message_changes table))
    else Neither

-- the same, where there is a table
abbrev pub message_in : Option TtData → TableMessage
message_in None = Neither
message_in (Some table) = table_message table

-- what a part of a translation table for one node is, by its flags: an answer, where it is told to
-- be one with a whole table
abbrev pub part_answer : TtPart → TableMessage
part_answer part =
    if has_flag response_flag part.table.flags && has_flag full_table_flag part.table.flags
    then Answers (stamp_told part.table)
    (InPart part.number part.count (message_changes part.table))
    else Neither

-- the same, where there is a part
abbrev pub part_told : Option TtPart → TableMessage
part_told None = Neither
part_told (Some part) = part_answer part
