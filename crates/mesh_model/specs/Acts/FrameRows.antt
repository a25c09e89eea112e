-- The rows of client frames: what a node puts for a client frame that a line or its LAN gives it,
-- for a broadcast, and for a packet that carries a client frame to it or past it. A sighting comes
-- first, with its advertisement. What is for all, or for a group, goes to those that receive it.
-- What is for a client that is present is handed out, at a gateway
-- to its LAN by its verdict; else it is sent where the client is known to be, or is lost. What is
-- carried may be no client frame: then nothing is printed of it, and a broadcast of it is sent on
-- all the same. The main words are `frame_acts`, `broadcast_acts`, `here_acts` and `passed_frame`.
use Rattle.mesh_model.specs.Packets.Numbers.{first_ttl}
use Rattle.std.specs.Prelude.{ℕ, ◌-◌, ◌||◌, nat_le, Bool, List, [], ◌∷◌, ◌++◌, Option, Some, None, is_some, if◌then◌else◌}
use Rattle.mesh_base.specs.Address.{is_broadcast, is_group}
use Rattle.mesh_base.specs.declared.address.Mac.{Mac}
use Rattle.mesh_base.specs.declared.client.Key.{Key}
use Rattle.mesh_base.specs.declared.event.Event.TheVariants.{Lost}
use Rattle.mesh_base.specs.declared.event.LossReason.{LossReason}
use Rattle.mesh_base.specs.declared.event.LossReason.TheVariants.{Unknown, Ttl, NoRoute}
use Rattle.mesh_base.specs.declared.event.Reason.TheVariants.{Fwd}
use Rattle.mesh_model.specs.declared.act.Act.{Act}
use Rattle.mesh_model.specs.declared.act.Act.TheVariants.{Print}
use Rattle.mesh_model.specs.declared.packet.Head.TheVariants.{Bcast, Unicast, Utvlv}
use Rattle.mesh_model.specs.Acts.BridgeRows.{Place, handed_out, out_acts, spread_of_broadcast, spread_of_packet}
use Rattle.mesh_model.specs.Acts.GroupRows.{addressed, flooded, group_acts, sent_on}
use Rattle.mesh_model.specs.Acts.Packing.{roaming_container, sent_to, sent_to_all}
use Rattle.mesh_model.specs.Clients.Lans.{Bridge}
use Rattle.mesh_model.specs.Clients.Mentions.{Mention, key_of}
use Rattle.mesh_model.specs.Clients.Present.{present_row}
use Rattle.mesh_model.specs.Knowledge.Addressee.{Way, addressee}
use Rattle.mesh_model.specs.Knowledge.Known.{Broadcast, Knowledge, is_new_broadcast}
use Rattle.mesh_model.specs.Packets.Containers.{containers_spelling}
use Rattle.mesh_model.specs.Packets.Payload.{ClientFrame, client_frame_of}
use Rattle.mesh_model.specs.Routes.Queries.{Queries}

-- ---- what is printed

-- a client frame is lost at a node
abbrev pub lost : Place → LossReason → ClientFrame → Act
lost at reason frame = Print (Lost at.now at.me frame.vid frame.src frame.dst reason)

-- what a broadcast of an originator carries goes to the clients of a node, where it is a client
-- frame
abbrev pub handed_out_if : Bridge → Place → Mac → Option ClientFrame → List Act
handed_out_if bridge at orig None = []
handed_out_if bridge at orig (Some frame) =
    out_acts bridge at (spread_of_broadcast bridge orig frame) frame

-- what is carried is lost, where it is a client frame
abbrev pub lost_if : Place → LossReason → Option ClientFrame → List Act
lost_if at reason None = []
lost_if at reason (Some frame) = lost at reason frame ∷ []

-- ---- on a way

-- the advertisement of a client that was sighted, where it is advertised
abbrev pub advert_acts : Mac → Key → Option Way → List Act
advert_acts me key None = []
advert_acts me key (Some way) = sent_to way.next None (Utvlv first_ttl way.orig me)
    (containers_spelling (roaming_container key ∷ [])) ∷ []

-- ---- client frames of clients

-- a client frame that a client of the node sends on a way, or loses where there is none
abbrev pub on_way : Queries → Knowledge → Place → ClientFrame → Option Way → List Act
on_way q known at frame None = lost at Unknown frame ∷ []
on_way q known at frame (Some way) = sent_on q known at frame way ∷ []

-- whether a client is present, by the mentions at a node
abbrev pub is_present : List Mention → ℕ → Key → Bool
is_present mentions now key = is_some (present_row mentions now key)

-- a client frame after its sighting, by what is known and mentioned then
unfoldable pub frame_acts : Queries → Knowledge → List Mention → Place → ClientFrame → List Act
frame_acts q known mentions at frame =
    if is_broadcast frame.dst then flooded known at frame ∷ []
    else if is_group frame.dst then group_acts q known at frame
    (is_present mentions at.now (key_of frame.dst frame.vid))
    else if is_present mentions at.now (key_of frame.dst frame.vid) then handed_out at frame ∷ []
    else on_way q known at frame (addressee q known at.now (key_of frame.dst frame.vid))

-- ---- broadcasts

-- a broadcast that is sent on, while hops are left
abbrev pub broadcast_on : ℕ → Broadcast → List ℕ → List Act
broadcast_on ttl broadcast tail = if nat_le ttl 1 then []
    else sent_to_all (Bcast (ttl - 1) broadcast.number broadcast.orig) tail ∷ []

-- a broadcast: it is handed out and then sent on, once
unfoldable pub broadcast_acts : Knowledge → Bridge → Place → ℕ → Broadcast → List ℕ → List Act
broadcast_acts known bridge at ttl broadcast tail =
    if is_new_broadcast at.me at.now broadcast known.taken
    then handed_out_if bridge at broadcast.orig (client_frame_of tail)
    ++ broadcast_on ttl broadcast tail
    else []

-- ---- packets for one node

-- a client frame is addressed anew, while hops are left
abbrev pub readdressed : Queries → Knowledge → Place → ℕ → ClientFrame → List ℕ → Option Way
    → List Act
readdressed q known at ttl frame tail None = lost at Unknown frame ∷ []
readdressed q known at ttl frame tail (Some way) = if nat_le ttl 1 then lost at Ttl frame ∷ []
    else addressed q known at.now (ttl - 1) way tail ∷ []

-- a client frame at the node to which it was addressed
abbrev pub arrived : Queries → Knowledge → List Mention → Bridge → Place → ℕ → List ℕ
    → Option ClientFrame → List Act
arrived q known mentions bridge at ttl tail None = []
arrived q known mentions bridge at ttl tail (Some frame) =
    if is_group frame.dst || is_present mentions at.now (key_of frame.dst frame.vid)
    then out_acts bridge at (spread_of_packet frame) frame
    else readdressed q known at ttl frame tail
    (addressee q known at.now (key_of frame.dst frame.vid))

-- a packet for this node
unfoldable pub here_acts : Queries → Knowledge → List Mention → Bridge → Place → ℕ → List ℕ
    → List Act
here_acts q known mentions bridge at ttl tail =
    arrived q known mentions bridge at ttl tail (client_frame_of tail)

-- a packet that goes on to a neighbour, or is lost where there is none
abbrev pub on_route : Place → ℕ → ℕ → Mac → List ℕ → Option Mac → List Act
on_route at ttl ttvn dst tail None = lost_if at NoRoute (client_frame_of tail)
on_route at ttl ttvn dst tail (Some next) =
    sent_to next (Some Fwd) (Unicast (ttl - 1) ttvn dst) tail ∷ []

-- a packet for another node, which goes on while hops are left and a route leads there
unfoldable pub passed_frame : Queries → Knowledge → Place → ℕ → ℕ → Mac → List ℕ → List Act
passed_frame q known at ttl ttvn dst tail =
    if nat_le ttl 1 then lost_if at Ttl (client_frame_of tail)
    else on_route at ttl ttvn dst tail (q.route known.routes at.now dst)
