-- The rows of frames for groups and of calls for a gateway. A frame for a group is handed out where
-- the group is joined at the node, and goes to each receiver, in the order of their addresses, or
-- as a broadcast where there are more than sixteen. A call for a gateway goes to the chosen one, or
-- as a broadcast where no route leads there. The main words are `group_acts` and `call_acts`.
use Rattle.std.specs.Prelude.{ℕ, suc, Bool, List, [], ◌∷◌, ◌++◌, filter_map, length, map, Option, Some, None, if◌then◌else◌}
use Rattle.std.specs.Option.{unwrap_or}
use Rattle.mesh_base.specs.declared.address.Mac.{Mac}
use Rattle.mesh_base.specs.declared.event.Reason.TheVariants.{Mc}
use Rattle.mesh_model.specs.declared.act.Act.{Act}
use Rattle.mesh_model.specs.declared.packet.Head.TheVariants.{Bcast, Unicast}
use Rattle.mesh_model.specs.declared.service.Fan.{Fan}
use Rattle.mesh_model.specs.declared.service.Fan.TheVariants.{Nobody, Each, Flood}
use Rattle.mesh_model.specs.Acts.BridgeRows.{Place, handed_out}
use Rattle.mesh_model.specs.Acts.Packing.{sent_to, sent_to_all}
use Rattle.mesh_model.specs.Clients.Mentions.{key_of}
use Rattle.mesh_model.specs.Knowledge.Addressee.{Way, way_to}
use Rattle.mesh_model.specs.Knowledge.Known.{Knowledge, told_at}
use Rattle.mesh_model.specs.Knowledge.Offers.{gateway_way, receivers}
use Rattle.mesh_model.specs.Packets.Numbers.{first_ttl}
use Rattle.mesh_model.specs.Packets.Payload.{ClientFrame, payload_spelling}
use Rattle.mesh_model.specs.Routes.Queries.{Queries}
use Rattle.mesh_model.specs.Services.Groups.{fan_of}

-- a client frame goes to the node of a way, with the byte that the node told last
abbrev pub addressed : Queries → Knowledge → ℕ → ℕ → Way → List ℕ → Act
addressed q known now ttl way payload = sent_to way.next (Some way.reason)
    (Unicast ttl (unwrap_or (told_at q known now way.orig) 0) way.orig) payload

-- a client frame that a node sends first, on a way
abbrev pub sent_on : Queries → Knowledge → Place → ClientFrame → Way → Act
sent_on q known at frame way =
    addressed q known at.now first_ttl way (payload_spelling frame)

-- a client frame goes to all nodes, as the node's next broadcast
abbrev pub flooded : Knowledge → Place → ClientFrame → Act
flooded known at frame =
    sent_to_all (Bcast first_ttl (suc known.sent) at.me) (payload_spelling frame)

-- ---- groups

-- a frame for a group goes to each receiver
abbrev pub each_acts : Queries → Knowledge → Place → ClientFrame → List Mac → List Act
each_acts q known at frame receivers = map (sent_on q known at frame)
    (filter_map (way_to q known at.now Mc) receivers)

-- a frame for a group goes to its receivers, by how it is sent to so many
abbrev pub fan_acts : Queries → Knowledge → Place → ClientFrame → List Mac → Fan → List Act
fan_acts q known at frame receivers Nobody = []
fan_acts q known at frame receivers Each = each_acts q known at frame receivers
fan_acts q known at frame receivers Flood = flooded known at frame ∷ []

-- the same, by how many there are
abbrev pub receivers_acts : Queries → Knowledge → Place → ClientFrame → List Mac → List Act
receivers_acts q known at frame receivers =
    fan_acts q known at frame receivers (fan_of (length receivers))

-- a frame for a group, which may be joined at the node
unfoldable pub group_acts : Queries → Knowledge → Place → ClientFrame → Bool → List Act
group_acts q known at frame joined = (if joined then handed_out at frame ∷ [] else [])
    ++ receivers_acts q known at frame
    (receivers q known at.now (key_of frame.dst frame.vid))

-- ---- calls for a gateway

-- a call for a gateway that goes on a way, or as a broadcast without one
abbrev pub called : Queries → Knowledge → Place → ClientFrame → Option Way → List Act
called q known at frame None = flooded known at frame ∷ []
called q known at frame (Some way) = sent_on q known at frame way ∷ []

-- a call for a gateway, by what is known then
unfoldable pub call_acts : Queries → Knowledge → Place → ClientFrame → List Act
call_acts q known at frame = called q known at frame (gateway_way q known at.now)
