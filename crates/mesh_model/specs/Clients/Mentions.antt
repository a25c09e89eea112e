-- The mentions of clients in a node's log, newest first: sightings with their flags, departures,
-- roaming advertisements taken, and the joining and leaving of groups. A client frame, an ARP
-- question and a call for a gateway are sightings of their source, and so is a client frame from a
-- LAN that its gateway passes; one that is held back is none. A sighting's flags are WIFI where the
-- node's clients were set to be wireless before it, else 0. At a reboot all mentions before it are
-- forgotten. The main word is `mentions`.
use Rattle.std.specs.Prelude.{ℕ, Bool, List, [], ◌∷◌, ◌++◌, filter_map, Option, Some, None, option_map, if◌then◌else◌}
use Rattle.mesh_base.specs.declared.address.Mac.{Mac}
use Rattle.mesh_base.specs.declared.client.Key.{Key}
use Rattle.mesh_base.specs.declared.client.Vid.{Vid}
use Rattle.mesh_model.specs.declared.packet.Head.{Head}
use Rattle.mesh_model.specs.declared.packet.Head.TheVariants.{IvOgm, Bcast, Elp, Ogm2, Unicast, Frag, Unicast4, Icmp, Utvlv}
use Rattle.mesh_model.specs.Packets.Containers.{containers_of}
use Rattle.mesh_model.specs.Packets.Contents.{first_roaming}
use Rattle.mesh_model.specs.Packets.FirstPacket.{Packet}
use Rattle.mesh_model.specs.Packets.LanFrames.{client_frame_in, lan_message_of}
use Rattle.mesh_model.specs.Packets.LinkFrame.{link_frame}
use Rattle.mesh_model.specs.Packets.Numbers.{wifi_flag}
use Rattle.mesh_model.specs.Packets.Payload.{ClientFrame}
use Rattle.mesh_model.specs.Routes.Addresses.{same_mac}
use Rattle.mesh_model.specs.Bridges.Verdicts.{verdict_from_lan}
use Rattle.mesh_model.specs.Clients.Lans.{bridge}
use Rattle.mesh_model.specs.Clients.Log.{Given, Tick, LinkFrame, LanFrame, Line, LineGiven, Attach, Frame, Gone, Join, Leave, Arp, Dhcp, Sets, Put, Get, Ping, Trace, Reboot, Log, is_reboot, settings}

-- what a mention says of its key
pub data News : Type 0 where
  Sighted : (flags : ℕ) → News
  Departed : News
  Roamed : News
  Joined : News
  Left : News

-- a key, when it was mentioned, and what was said of it
pub record Mention : Type 0 where
  pub moment : ℕ
  pub key : Key
  pub news : News

-- whether a node's clients are wireless, by its log
abbrev pub is_wifi_on : Log → Bool
is_wifi_on log = (settings log).wifi

-- what a sighting right after a log says
abbrev pub sighted_after : Log → News
sighted_after older = Sighted (if is_wifi_on older then wifi_flag else 0)

-- the key of an address in a VLAN
abbrev pub key_of : Mac → Vid → Key
key_of mac vid = record { mac = mac; vid = vid }

-- the client that a line names, where it names one
abbrev pub client_of : LineGiven → Option Key
client_of (Attach lan gateways) = None
client_of (Frame src dst vid text) = Some (key_of src vid)
client_of (Gone key) = Some key
client_of (Join key) = Some key
client_of (Leave key) = Some key
client_of (Arp mac own_ip asked_ip vid) = Some (key_of mac vid)
client_of (Dhcp key text) = Some key
client_of (Sets setting) = None
client_of (Put type_no version text) = None
client_of (Get type_no) = None
client_of (Ping target) = None
client_of (Trace target) = None
client_of Reboot = None

-- the mention that containers for a node make of a client that roamed from it
abbrev pub roamed : ℕ → Key → Mention
roamed moment key = record { moment = moment; key = key; news = Roamed }

-- the mention that a packet makes at the node of an address, by its head: an advertisement for it
abbrev pub roamed_in : Mac → ℕ → List ℕ → Head → Option Mention
roamed_in me moment tail (IvOgm ttl flags seq orig prev tq) = None
roamed_in me moment tail (Bcast ttl seq orig) = None
roamed_in me moment tail (Elp orig seq interval) = None
roamed_in me moment tail (Ogm2 ttl flags seq orig throughput) = None
roamed_in me moment tail (Unicast ttl ttvn dst) = None
roamed_in me moment tail (Frag ttl number priority dst orig seq total) = None
roamed_in me moment tail (Unicast4 ttl ttvn dst src subtype) = None
roamed_in me moment tail (Icmp ttl msg dst orig uid seq) = None
roamed_in me moment tail (Utvlv ttl dst src) = if same_mac dst me
    then option_map (roamed moment) (first_roaming (containers_of tail)) else None

-- the mention that a packet makes at the node of an address
abbrev pub roamed_by : Mac → ℕ → Packet → Option Mention
roamed_by me moment packet = roamed_in me moment packet.tail packet.head

-- a mention alone
abbrev pub mention : ℕ → Key → News → List Mention
mention moment key news = record { moment = moment; key = key; news = news } ∷ []

-- the mention that a line makes at a moment, where a sighting says this
abbrev pub line_mentions : News → ℕ → LineGiven → List Mention
line_mentions sighted moment (Attach lan gateways) = []
line_mentions sighted moment (Frame src dst vid text) = mention moment (key_of src vid) sighted
line_mentions sighted moment (Gone key) = mention moment key Departed
line_mentions sighted moment (Join key) = mention moment key Joined
line_mentions sighted moment (Leave key) = mention moment key Left
line_mentions sighted moment (Arp mac own_ip asked_ip vid) =
    mention moment (key_of mac vid) sighted
line_mentions sighted moment (Dhcp key text) = mention moment key sighted
line_mentions sighted moment (Sets setting) = []
line_mentions sighted moment (Put type_no version text) = []
line_mentions sighted moment (Get type_no) = []
line_mentions sighted moment (Ping target) = []
line_mentions sighted moment (Trace target) = []
line_mentions sighted moment Reboot = []

-- the client frame that the gateway of an address passes of one on its LAN, right after a log
abbrev pub passed_from_lan : Mac → Log → ℕ → Option ClientFrame → Option ClientFrame
passed_from_lan me older moment None = None
passed_from_lan me older moment (Some frame) =
    if (verdict_from_lan me (bridge older).claims moment (key_of frame.src frame.vid)).pass
    then Some frame else None

-- the sighting of the source of a client frame that is passed, where one is
abbrev pub passed_mentions : News → ℕ → Option ClientFrame → List Mention
passed_mentions sighted moment None = []
passed_mentions sighted moment (Some frame) =
    mention moment (key_of frame.src frame.vid) sighted

-- the mentions that an input right after a log makes at the node of an address, with their news
abbrev pub mentions_by : Mac → Log → ℕ → Given → List Mention
mentions_by me older moment (Tick index) = []
mentions_by me older moment (LinkFrame number from throughput bytes) =
    filter_map (roamed_by me moment) (link_frame bytes).packets
mentions_by me older moment (LanFrame bytes) = passed_mentions (sighted_after older) moment
    (passed_from_lan me older moment (client_frame_in (lan_message_of bytes)))
mentions_by me older moment (Line line) = line_mentions (sighted_after older) moment line

-- the mentions after an input, from the log and the mentions before it
abbrev pub next_mentions : Mac → Log → List Mention → ℕ → Given → List Mention
next_mentions me older before moment given =
    if is_reboot given then [] else mentions_by me older moment given ++ before

-- the mentions in the log of the node of an address, newest first
abbrev pub mentions : Mac → Log → List Mention
mentions me [] = []
mentions me (entry ∷ older) =
    next_mentions me older (mentions me older) entry.moment entry.given
