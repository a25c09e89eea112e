-- The lines of events, each ending with a newline. `fN T A>B KIND HEX` is a link frame with its
-- number, the moment of sending, the sender and the receiver, the kind of its packet, and its
-- bytes; a reason stands as `by=R` before the bytes. `lN T LAN KIND HEX` is a LAN frame, which is a
-- client frame, a claim, an unclaim or an announcement. `recv T NAME VID SRC DST TEXT` is a client
-- frame that reached the clients of a node, or a LAN from a gateway; `lost T NODE VID SRC DST R` is
-- one that was lost, and `alias NODE K J` a commit that announces what an earlier one announced.
-- `ping A B seq=S` and what came of it is a ping, `trace A B` and what came of it a probe of a
-- traceroute; `arp NODE IP` and what came of it a question for an IP address, `alfred NODE get
-- TYPE` and what came of it one for facts; `route T NODE ORIG NEXT` is a route that changed, by
-- addresses alone. Elsewhere an address that no node has is printed itself. A choice hides link
-- frames by their kind: `ogm` shows iv_ogm, ogm2 and elp, `client` unicast, frag, unicast4 and bcast;
-- `all` alone shows LAN frames. The main word is `event_text`.
use Rattle.std.specs.Prelude.{ℕ, ◌/◌, ◌%◌, ◌==◌, Bool, true, false, List, [], ◌∷◌, ◌++◌, codes, decimal, slice_index_or, Option, Some, None, if◌then◌else◌}
use Rattle.std.specs.List.{list_any}
use Rattle.std.specs.Option.{option_map_or, unwrap_or}
use Rattle.hex.specs.Hex.{encode_lower}
use Rattle.mesh_base.specs.Address.{mac_text}
use Rattle.mesh_base.specs.Names.{NamesGiven, lan_name, node_name}
use Rattle.mesh_base.specs.declared.address.Mac.{Mac}
use Rattle.mesh_base.specs.declared.client.Vid.{Vid}
use Rattle.mesh_base.specs.declared.event.ArpResult.{ArpResult}
use Rattle.mesh_base.specs.declared.event.ArpResult.TheVariants as arps
use Rattle.mesh_base.specs.declared.event.Event.{Event}
use Rattle.mesh_base.specs.declared.event.Event.TheVariants.{FrameSent, Received, LanSent, Bridged, Lost, Alias, Pinged, Traced, Arp, Alfred, Route}
use Rattle.mesh_base.specs.declared.event.FactResult.{FactResult}
use Rattle.mesh_base.specs.declared.event.FactResult.TheVariants as facts
use Rattle.mesh_base.specs.declared.event.LossReason.{LossReason}
use Rattle.mesh_base.specs.declared.event.LossReason.TheVariants.{Unknown, Ttl, NoRoute}
use Rattle.mesh_base.specs.declared.event.PingResult.{PingResult}
use Rattle.mesh_base.specs.declared.event.PingResult.TheVariants as pings
use Rattle.mesh_base.specs.declared.event.Reason.{Reason}
use Rattle.mesh_base.specs.declared.event.Reason.TheVariants.{Roam, Table, Old, Gw, Mc, Alfred, Fwd}
use Rattle.mesh_base.specs.declared.event.TraceResult.{TraceResult}
use Rattle.mesh_base.specs.declared.event.TraceResult.TheVariants as traces
use Rattle.mesh_model.specs.declared.frame_choice.FrameChoice.{FrameChoice}
use Rattle.mesh_model.specs.declared.frame_choice.FrameChoice.TheVariants.{Hidden, All, Client, Ogm}
use Rattle.mesh_model.specs.declared.frame_choice.FrameChoice.TheVariants as choices
use Rattle.mesh_model.specs.Packets.LanFrames.{claim_type, is_of_gateway, unclaim_type}
use Rattle.mesh_model.specs.Packets.Numbers.{iv_ogm_type, bcast_type, elp_type, frag_type, ogm2_type, unicast_type, unicast4_type}
use Rattle.mesh_model.specs.Packets.Shapes.{Shape, shape_of_type}
use Rattle.mesh_model.specs.Text.PacketLines.{line_of, named_number, named_address}
use Rattle.mesh_model.specs.Text.Routes.{route_text}
use Rattle.mesh_model.specs.Text.Tables.{vid_text}

-- the name of the first node of this address, or the address
abbrev pub name_text : NamesGiven → Mac → List ℕ
name_text names mac = unwrap_or (node_name names.nodes mac) (mac_text mac)

-- the name of a LAN by its number; nothing where there is none
abbrev pub lan_text : NamesGiven → ℕ → List ℕ
lan_text names number = unwrap_or (lan_name names.lans number) []

-- the type byte of a frame; 255, which is no kind's, where it has none
abbrev pub type_byte : List ℕ → ℕ
type_byte bytes = slice_index_or bytes 0 255

-- the word of a frame's kind, or `-` for none
abbrev pub kind_word : List ℕ → List ℕ
kind_word bytes =
    option_map_or (λ (shape : Shape). shape.word) (shape_of_type (type_byte bytes)) (codes "-")

-- whether a frame's type byte is one of these
abbrev pub is_of_type : List ℕ → List ℕ → Bool
is_of_type types bytes = list_any (λ kind. kind == type_byte bytes) types

-- the word of a type of a gateway's frame
abbrev pub gateway_word : ℕ → List ℕ
gateway_word kind = if kind == claim_type then codes "claim"
    else if kind == unclaim_type then codes "unclaim" else codes "announce"

-- the word of a LAN frame's kind; the type of a gateway's frame is its fourth byte
abbrev pub lan_kind_word : List ℕ → List ℕ
lan_kind_word bytes =
    if is_of_gateway bytes then gateway_word (slice_index_or bytes 3 255) else codes "client"

-- whether a link frame is printed
abbrev pub shows : FrameChoice → List ℕ → Bool
shows Hidden bytes = false
shows All bytes = true
shows Client bytes =
    is_of_type (bcast_type ∷ unicast_type ∷ frag_type ∷ unicast4_type ∷ []) bytes
shows Ogm bytes = is_of_type (iv_ogm_type ∷ elp_type ∷ ogm2_type ∷ []) bytes
shows choices.Route bytes = false

-- whether LAN frames are printed
abbrev pub shows_lan : FrameChoice → Bool
shows_lan Hidden = false
shows_lan All = true
shows_lan Client = false
shows_lan Ogm = false
shows_lan choices.Route = false

-- whether an event is printed
abbrev pub is_shown : FrameChoice → Event → Bool
is_shown choice (FrameSent number moment from to reason bytes) = shows choice bytes
is_shown choice (Received moment node vid src dst text) = true
is_shown choice (LanSent number moment lan bytes) = shows_lan choice
is_shown choice (Bridged moment lan vid src dst text) = true
is_shown choice (Lost moment node vid src dst reason) = true
is_shown choice (Alias node commit earlier) = true
is_shown choice (Pinged node target seq result) = true
is_shown choice (Traced node target result) = true
is_shown choice (Arp node ip result) = true
is_shown choice (Alfred node type_no result) = true
is_shown choice (Route at node orig next) = true

-- the word of a reason
abbrev pub reason_word : Reason → List ℕ
reason_word Roam = codes "roam"
reason_word Table = codes "table"
reason_word Old = codes "old"
reason_word Gw = codes "gw"
reason_word Mc = codes "mc"
reason_word Alfred = codes "alfred"
reason_word Fwd = codes "fwd"

-- a reason as it stands before the bytes, where there is one
abbrev pub by_text : Option Reason → List ℕ
by_text None = []
by_text (Some reason) = codes " by=" ++ reason_word reason

-- the word of a loss
abbrev pub loss_word : LossReason → List ℕ
loss_word Unknown = codes "unknown"
loss_word Ttl = codes "ttl"
loss_word NoRoute = codes "noroute"

-- the line of a client frame: a word, moment, the name of a node or LAN, VLAN, source and
-- destination, and what stands last
unfoldable pub client_frame_line : List ℕ → ℕ → List ℕ → Vid → Mac → Mac → List ℕ → List ℕ
client_frame_line word moment name vid src dst last = line_of
    (word ∷ named_number (codes " ") moment ∷ codes " " ∷ name
    ∷ codes " " ∷ vid_text vid ∷ named_address (codes " ") src ∷ named_address (codes " ") dst
    ∷ codes " " ∷ last ∷ [])

-- a word, a node and the target of its session
abbrev pub session_text : List ℕ → NamesGiven → Mac → Mac → List ℕ
session_text word names node target =
    word ++ codes " " ++ name_text names node ++ codes " " ++ name_text names target

-- what came of a ping
abbrev pub ping_text : NamesGiven → PingResult → List ℕ
ping_text names pings.NoRoute = codes " noroute"
ping_text names (pings.Reply ttl rtt) =
    codes " reply" ++ named_number (codes " ttl=") ttl ++ named_number (codes " rtt=") rtt
ping_text names (pings.Unreachable from) = codes " unreachable from=" ++ name_text names from
ping_text names (pings.Exceeded from) = codes " exceeded from=" ++ name_text names from

-- the hop of a probe, and the node that answered it
abbrev pub hop_text : NamesGiven → ℕ → Mac → List ℕ
hop_text names hop from = named_number (codes " hop=") hop ++ codes " " ++ name_text names from

-- what came of a probe of a traceroute
abbrev pub trace_text : NamesGiven → TraceResult → List ℕ
trace_text names traces.NoRoute = codes " noroute"
trace_text names (traces.Passed hop from rtt) =
    hop_text names hop from ++ named_number (codes " rtt=") rtt
trace_text names (traces.Ended hop from rtt) =
    hop_text names hop from ++ named_number (codes " rtt=") rtt ++ codes " end"
trace_text names (traces.Unreachable hop from) = hop_text names hop from ++ codes " unreachable"

-- an IP address as it is printed: its four bytes as numbers
unfoldable pub ip_text : ℕ → List ℕ
ip_text ip = decimal (ip / 16777216) ++ named_number (codes ".") (ip / 65536 % 256)
    ++ named_number (codes ".") (ip / 256 % 256) ++ named_number (codes ".") (ip % 256)

-- what came of a question for an IP address
abbrev pub arp_text : ArpResult → List ℕ
arp_text arps.Off = codes " off"
arp_text arps.Unknown = codes " none"
arp_text (arps.Cached mac) = named_address (codes " is ") mac ++ codes " cache"
arp_text (arps.Found mac) = named_address (codes " is ") mac ++ codes " dht"

-- what came of a question for facts
abbrev pub fact_text : FactResult → List ℕ
fact_text facts.Off = codes " off"
fact_text facts.NoPrimary = codes " noprimary"
fact_text facts.Empty = codes " empty"
fact_text (facts.Fact source version text) =
    named_address (codes " ") source ++ named_number (codes " ") version ++ codes " " ++ text

-- the line of an event
unfoldable pub event_line : NamesGiven → Event → List ℕ
event_line names (FrameSent number moment from to reason bytes) = line_of
    (named_number (codes "f") number ∷ named_number (codes " ") moment
    ∷ codes " " ∷ name_text names from ∷ codes ">" ∷ name_text names to
    ∷ codes " " ∷ kind_word bytes ∷ by_text reason ∷ codes " " ∷ encode_lower bytes ∷ [])
event_line names (Received moment node vid src dst text) =
    client_frame_line (codes "recv") moment (name_text names node) vid src dst text
event_line names (LanSent number moment lan bytes) = line_of
    (named_number (codes "l") number ∷ named_number (codes " ") moment
    ∷ codes " " ∷ lan_text names lan ∷ codes " " ∷ lan_kind_word bytes
    ∷ codes " " ∷ encode_lower bytes ∷ [])
event_line names (Bridged moment lan vid src dst text) =
    client_frame_line (codes "recv") moment (lan_text names lan) vid src dst text
event_line names (Lost moment node vid src dst reason) =
    client_frame_line (codes "lost") moment (name_text names node) vid src dst (loss_word reason)
event_line names (Alias node commit earlier) = line_of
    (codes "alias " ∷ name_text names node ∷ named_number (codes " ") commit
    ∷ named_number (codes " ") earlier ∷ [])
event_line names (Pinged node target seq result) = line_of
    (session_text (codes "ping") names node target
    ∷ named_number (codes " seq=") seq ∷ ping_text names result ∷ [])
event_line names (Traced node target result) = line_of
    (session_text (codes "trace") names node target ∷ trace_text names result ∷ [])
event_line names (Arp node ip result) = line_of
    (codes "arp " ∷ name_text names node ∷ codes " " ∷ ip_text ip ∷ arp_text result ∷ [])
event_line names (Alfred node type_no result) = line_of
    (codes "alfred " ∷ name_text names node ∷ named_number (codes " get ") type_no
    ∷ fact_text result ∷ [])
event_line names (Route at node orig next) =
    route_text (record { moment = at; node = node; orig = orig; next = next })

-- an event as it is printed, where the choice shows it
abbrev pub event_text : FrameChoice → NamesGiven → Event → List ℕ
event_text choice names event = if is_shown choice event then event_line names event else []
