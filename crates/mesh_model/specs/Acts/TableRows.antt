-- The rows of tables: what a node puts for an originator message that it takes, and for containers
-- that are for one node. An announcement may lead to a request. A request is answered by its
-- originator, or on the way by a node that holds the table; else it is passed on, as all containers
-- for another node are, while hops are left and a route leads there. A large table goes in parts, a
-- packet each. Without a route to the asker nothing is sent. The main words are `request_acts`,
-- `own_answer` and `passed_containers`.
use Rattle.mesh_model.specs.Packets.Numbers.{first_ttl}
use Rattle.std.specs.Prelude.{ℕ, ◌-◌, ◌&&◌, nat_le, Bool, List, [], length, flat_map, Option, Some, None, if◌then◌else◌}
use Rattle.mesh_base.specs.declared.address.Mac.{Mac}
use Rattle.mesh_model.specs.declared.act.Act.{Act}
use Rattle.mesh_model.specs.declared.packet.Head.TheVariants.{Utvlv}
use Rattle.mesh_model.specs.declared.table_change.Change.{Change}
use Rattle.mesh_model.specs.declared.table_outcome.Request.{Request}
use Rattle.mesh_model.specs.Acts.Packing.{part_containers, request_containers, sent_over}
use Rattle.mesh_model.specs.Clients.Limits.{clients_limit, vlans_limit}
use Rattle.mesh_model.specs.Knowledge.Known.{Knowledge, known_at}
use Rattle.mesh_model.specs.Knowledge.Told.{Message, TableMessage, Asks, Answers, Neither, message_in, stamp_told}
use Rattle.mesh_model.specs.Packets.Containers.{containers_of}
use Rattle.mesh_model.specs.Packets.Contents.{first_table}
use Rattle.mesh_model.specs.Routes.Queries.{Queries}
use Rattle.mesh_model.specs.Tables.Answers.{Reply, ReplyPart, held_reply, own_reply, parts_of_reply}
use Rattle.mesh_model.specs.Tables.Sums.{sums_of}
use Rattle.mesh_model.specs.Tables.Versions.{Version}

-- ---- requests

-- a request that goes out after an announcement, to the neighbour on the way to its originator
abbrev pub request_acts : Mac → Option Mac → Message → Option Request → List Act
request_acts me next message None = []
request_acts me next message (Some request) = sent_over next (Utvlv first_ttl message.orig me)
    (request_containers request (stamp_told message.table))

-- ---- answers

-- what one packet brings of an answer in the name of an originator to the node that asked, where
-- there is a way
abbrev pub part_acts : Option Mac → Mac → Mac → ReplyPart → List Act
part_acts next orig asker part =
    sent_over next (Utvlv first_ttl asker orig) (part_containers part)

-- an answer in the name of an originator to the node that asked
abbrev pub answer_acts : Queries → Knowledge → ℕ → Mac → Mac → Reply → List Act
answer_acts q known now orig asker reply =
    flat_map (part_acts (q.route known.routes now asker) orig asker) (parts_of_reply reply)

-- what the addressed node puts for a table that it is sent, by its last commit and the changes that
-- are told of that: the answer to a request
unfoldable pub own_answer : Queries → Mac → Knowledge → ℕ → Version → Option (List Change) → Mac
    → TableMessage → List Act
own_answer q me known now last told asker (Asks full stamp) =
    answer_acts q known now me asker (own_reply full stamp.byte last told)
own_answer q me known now last told asker (Answers stamp carried) = []
own_answer q me known now last told asker Neither = []

-- ---- containers for another node

-- whether a table is within what a node may have
abbrev pub is_within_limits : Version → Bool
is_within_limits held = nat_le (length held.table) clients_limit
    && nat_le (length (sums_of held.table)) vlans_limit

-- a held version, where it is within what a node may have
abbrev pub held_within : Option Version → Option Version
held_within None = None
held_within (Some held) = if is_within_limits held then Some held else None

-- the answer that a node on the way has to a request for an originator's table
abbrev pub way_reply : Queries → Knowledge → ℕ → Mac → TableMessage → Option Reply
way_reply q known now orig (Asks full stamp) =
    held_reply stamp (held_within (known_at q known now orig).held)
way_reply q known now orig (Answers stamp carried) = None
way_reply q known now orig Neither = None

-- containers that are passed on, while hops are left
abbrev pub passed_containers : Queries → Knowledge → ℕ → ℕ → Mac → Mac → List ℕ → List Act
passed_containers q known now ttl dst src tail = if nat_le ttl 1 then []
    else sent_over (q.route known.routes now dst) (Utvlv (ttl - 1) dst src) tail

-- what is put for containers for another node, by the answer that there is on the way
abbrev pub on_the_way : Queries → Knowledge → ℕ → ℕ → Mac → Mac → List ℕ → Option Reply → List Act
on_the_way q known now ttl dst src tail None = passed_containers q known now ttl dst src tail
on_the_way q known now ttl dst src tail (Some reply) = answer_acts q known now dst src reply

-- what a node puts for containers that are for another node
unfoldable pub other_containers : Queries → Knowledge → ℕ → ℕ → Mac → Mac → List ℕ → List Act
other_containers q known now ttl dst src tail = on_the_way q known now ttl dst src tail
    (way_reply q known now dst (message_in (first_table (containers_of tail))))
