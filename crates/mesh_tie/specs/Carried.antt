-- What frames carry for clients: the payloads of broadcasts and of packets for one node, and client
-- frames on LANs. A payload is a message of the fact store, or it is passed on as it came, whoever
-- addresses it anew or bridges it; so it is of a packet that was cut, where it is put together. So
-- what holds of payloads and goes on to hold with each step holds of all others that were ever
-- sent, if it holds of those that are begun: the client frames that lines give. That each is one of
-- these, as it was spelled, is such a thing, and that each client frame in them is from a client
-- that records can tell. The facts that nodes keep, send and print are those that lines put, and
-- pictures that nodes put of themselves. The main words are `Carries`, `CarriesGivenFrames`,
-- `CarriesClients`, `TellsPutFacts` and `SendsPutFacts`.
use Rattle.std.specs.Prelude.{◌≡◌, ◌≤◌, ◌⊎◌, ℕ, true, List, ◌∷◌, ◌++◌, slice_get, Option, Some, None, ⊤}
use Rattle.std.specs.List.{AllByRecursion}
use Rattle.mesh_base.specs.declared.address.Mac.{Mac}
use Rattle.mesh_base.specs.declared.client.Vid.{Vid}
use Rattle.mesh_base.specs.declared.event.Event.TheVariants.{Alfred, Bridged, Received}
use Rattle.mesh_base.specs.declared.event.FactResult.TheVariants.{Fact as FactTold}
use Rattle.mesh_model.specs.declared.packet.Head.{Head}
use Rattle.mesh_model.specs.declared.packet.Head.TheVariants.{IvOgm, Bcast, Elp, Ogm2, Unicast, Frag, Unicast4, Icmp, Utvlv}
use Rattle.mesh_model.specs.declared.service.Fact.{Fact}
use Rattle.mesh_model.specs.declared.service.KeptFact.{KeptFact}
use Rattle.mesh_model.specs.Acts.Choosing.{call_frame}
use Rattle.mesh_model.specs.Clients.Log.{Line, LineGiven, Log, LogEntry, Tick, Attach, Frame, Gone, Join, Leave, Arp, Dhcp, Sets, Put, Get, Ping, Trace, Reboot}
use Rattle.mesh_model.specs.Clients.Mentions.{key_of}
use Rattle.mesh_model.specs.Knowledge.Pictured.{picture_by}
use Rattle.mesh_model.specs.Net.Mesh.{NodeLog, SentFrame, LanPut, Mesh}
use Rattle.mesh_model.specs.Net.Next.{Has}
use Rattle.mesh_model.specs.Packets.FactMessages.{CameFact, FactMessage, HasPart, Primary, Requests, HasEnd, fact_message_of, fact_message_spelling}
use Rattle.mesh_model.specs.Packets.FirstPacket.{Packet}
use Rattle.mesh_model.specs.Packets.LanFrames.{client_frame_in, lan_message_of}
use Rattle.mesh_model.specs.Packets.LinkFrame.{link_frame}
use Rattle.mesh_model.specs.Packets.Payload.{ClientFrame, client_frame_of, payload_spelling}
use Rattle.mesh_model.specs.Routes.Queries.{Queries}
use Rattle.mesh_model.specs.Routes.RouteLog.{is_round}
use Rattle.mesh_model.specs.Scenario.AlfredForms.{least_fact_type}
use Rattle.mesh_model.specs.Services.Facts.{facts_at}
use Rattle.mesh_model.specs.Services.Pictures.{picture_fact, picture_type}
use Rattle.mesh_model.specs.Services.Transactions.{APart, TxnCall}
use Rattle.mesh_tie.specs.Sources.{IsWhole}
use Rattle.mesh_tie.specs.Steps.{IsClient, IsReachable, Steps, TellsClient}
use Rattle.mesh_tie.specs.Tie.{known_at_node}
use Rattle.mesh_tie.specs.TieLaws.{AllKeep}

-- a payload is a message of the fact store between two nodes, or for all, as it is spelled
pub record IsStoreMessage (payload : List ℕ) : Type 0 where
  pub dst : Mac
  pub src : Mac
  pub message : FactMessage
  pub whole_dst : IsWhole dst
  pub whole_src : IsWhole src
  pub spelled : payload ≡ fact_message_spelling dst src message

-- something holds of a payload, unless it is such a message
abbrev pub UnlessStored : (List ℕ → Type 0) → List ℕ → Type 0
UnlessStored P payload = P payload ⊎ IsStoreMessage payload

-- it holds of the tail of a packet, where the packet is of a kind that carries a payload
abbrev pub TailHas : (List ℕ → Type 0) → List ℕ → Head → Type 0
TailHas P tail (IvOgm ttl flags seq orig prev tq) = ⊤
TailHas P tail (Bcast ttl seq orig) = UnlessStored P tail
TailHas P tail (Elp orig seq interval) = ⊤
TailHas P tail (Ogm2 ttl flags seq orig throughput) = ⊤
TailHas P tail (Unicast ttl ttvn dst) = UnlessStored P tail
TailHas P tail (Frag ttl number priority dst orig seq total) = ⊤
TailHas P tail (Unicast4 ttl ttvn dst src subtype) = ⊤
TailHas P tail (Icmp ttl msg dst orig uid seq) = ⊤
TailHas P tail (Utvlv ttl dst src) = ⊤

-- it holds of each payload in a link frame
abbrev pub FrameCarries : (List ℕ → Type 0) → List ℕ → Type 0
FrameCarries P bytes = (packet : Packet) → Has (link_frame bytes).packets packet →
    TailHas P packet.tail packet.head

-- it holds of the payload that a frame on a LAN is, where it is one
abbrev pub PutCarries : (List ℕ → Type 0) → List ℕ → Type 0
PutCarries P bytes =
    (frame : ClientFrame) → client_frame_in (lan_message_of bytes) ≡ Some frame → P bytes

-- the client frame that a line gives a node, where it gives one: a client's frame, or its call for
-- a gateway
abbrev pub frame_of_line : LineGiven → Option ClientFrame
frame_of_line (Attach lan gateways) = None
frame_of_line (Frame src dst vid text) =
    Some (record { dst = dst; src = src; vid = vid; text = text })
frame_of_line (Gone key) = None
frame_of_line (Join key) = None
frame_of_line (Leave key) = None
frame_of_line (Arp mac own_ip asked_ip vid) = None
frame_of_line (Dhcp key text) = Some (call_frame key text)
frame_of_line (Sets setting) = None
frame_of_line (Put type_no version text) = None
frame_of_line (Get type_no) = None
frame_of_line (Ping target) = None
frame_of_line (Trace target) = None
frame_of_line Reboot = None

-- a line gave a node of a mesh a client frame, with a client that records can tell, or put it on a
-- LAN
pub data WasGiven (mesh : Mesh) (frame : ClientFrame) : Type 0 where
  to_node : (place : ℕ) (node : NodeLog) (entry : LogEntry) (line : LineGiven) →
      slice_get mesh.nodes place ≡ Some node → Has node.log entry →
      entry.given ≡ Line line → frame_of_line line ≡ Some frame →
      TellsClient (Frame frame.src frame.dst frame.vid frame.text) → WasGiven mesh frame
  on_lan : (place : ℕ) (put : LanPut) →
      slice_get mesh.puts place ≡ Some put → put.by ≡ None →
      put.bytes ≡ payload_spelling frame →
      TellsClient (Frame frame.src frame.dst frame.vid frame.text) → WasGiven mesh frame

-- a client frame is read of a payload of which something holds
abbrev pub IsReadOf : (List ℕ → Type 0) → ClientFrame → Type 0
IsReadOf P frame =
    (payload : List ℕ) × P payload × (client_frame_of payload ≡ Some frame)

-- it holds of each payload that was ever sent on a link or put on a LAN; and each client frame that
-- was ever handed out, or that reached the clients of a LAN, is read of such a one, unless a line
-- gave it
pub record Carries (P : Mesh → List ℕ → Type 0) (mesh : Mesh) : Type 0 where
  pub frames : (place : ℕ) (frame : SentFrame) → slice_get mesh.frames place ≡ Some frame →
      FrameCarries (P mesh) frame.bytes
  pub puts : (place : ℕ) (put : LanPut) → slice_get mesh.puts place ≡ Some put →
      PutCarries (P mesh) put.bytes
  pub handed_out : (moment : ℕ) (node : Mac) (vid : Vid) (src dst : Mac) (text : List ℕ) →
      Has mesh.events (Received moment node vid src dst text) →
      WasGiven mesh (record { dst = dst; src = src; vid = vid; text = text })
      ⊎ IsReadOf (P mesh) (record { dst = dst; src = src; vid = vid; text = text })
  pub bridged : (moment lan : ℕ) (vid : Vid) (src dst : Mac) (text : List ℕ) →
      Has mesh.events (Bridged moment lan vid src dst text) →
      IsReadOf (P mesh) (record { dst = dst; src = src; vid = vid; text = text })

-- it goes on to hold with each step, and holds of the client frames that lines gave, as they are
-- spelled, and of those that are read of payloads of which it holds, as a gateway spells them again
pub record IsKept (queries : Mac → Queries) (P : Mesh → List ℕ → Type 0) : Type 0 where
  pub stays : (mesh after : Mesh) (payload : List ℕ) → Steps queries mesh after →
      P mesh payload → P after payload
  pub begun : (mesh : Mesh) (frame : ClientFrame) → WasGiven mesh frame →
      P mesh (payload_spelling frame)
  pub read_on : (mesh : Mesh) (payload : List ℕ) (frame : ClientFrame) → P mesh payload →
      client_frame_of payload ≡ Some frame → P mesh (payload_spelling frame)

-- ---- what lines gave

-- a payload is the client frame that a line gave, as it is spelled
abbrev pub IsGivenFrame : Mesh → List ℕ → Type 0
IsGivenFrame mesh payload =
    (frame : ClientFrame) × WasGiven mesh frame × (payload ≡ payload_spelling frame)

-- so is all that was ever sent
abbrev pub CarriesGivenFrames : Type 0
CarriesGivenFrames = (queries : Mac → Queries) → AllKeep queries → (mesh : Mesh) →
    IsReachable queries mesh → Carries IsGivenFrame mesh

-- each client frame that was handed out, or that reached the clients of a LAN, is one that a line
-- gave
pub record HandsOutGiven (mesh : Mesh) : Type 0 where
  pub handed_out : (moment : ℕ) (node : Mac) (vid : Vid) (src dst : Mac) (text : List ℕ) →
      Has mesh.events (Received moment node vid src dst text) →
      WasGiven mesh (record { dst = dst; src = src; vid = vid; text = text })
  pub bridged : (moment lan : ℕ) (vid : Vid) (src dst : Mac) (text : List ℕ) →
      Has mesh.events (Bridged moment lan vid src dst text) →
      WasGiven mesh (record { dst = dst; src = src; vid = vid; text = text })

-- so it is in every mesh that is reached
abbrev pub HandsOutGivenFrames : Type 0
HandsOutGivenFrames = (queries : Mac → Queries) → AllKeep queries → (mesh : Mesh) →
    IsReachable queries mesh → HandsOutGiven mesh

-- ---- clients

-- the client frame that a payload is, where it is one, is from a client that records can tell
abbrev pub IsFromClient : List ℕ → Type 0
IsFromClient payload = (frame : ClientFrame) → client_frame_of payload ≡ Some frame →
    IsClient (key_of frame.src frame.vid)

-- so is all that was ever sent
abbrev pub CarriesClients : Type 0
CarriesClients = (queries : Mac → Queries) → AllKeep queries → (mesh : Mesh) →
    IsReachable queries mesh → Carries (λ mesh payload. IsFromClient payload) mesh

-- ---- facts

-- a line put a fact at a node of a mesh, which is the fact's source; it is of a type that lines may
-- put
pub record WasPut (mesh : Mesh) (fact : Fact) : Type 0 where
  pub place : ℕ
  pub node : NodeLog
  pub entry : LogEntry
  pub found : slice_get mesh.nodes place ≡ Some node
  pub noted : Has node.log entry
  pub given_is : entry.given ≡ Line (Put fact.type_no fact.version fact.bytes)
  pub source_is : fact.source ≡ node.mac
  pub type_is : least_fact_type ≤ fact.type_no

-- a node of a mesh put a fact at a round: its picture at the tick, by its log before it
pub record WasPictured (queries : Mac → Queries) (mesh : Mesh) (fact : Fact) : Type 0 where
  pub place : ℕ
  pub node : NodeLog
  pub newer : Log
  pub entry : LogEntry
  pub older : Log
  pub index : ℕ
  pub found : slice_get mesh.nodes place ≡ Some node
  pub log_is : node.log ≡ newer ++ entry ∷ older
  pub given_is : entry.given ≡ Tick index
  pub round : is_round index ≡ true
  pub fact_is : fact ≡ picture_fact node.mac
      (picture_by (queries node.mac) node.mac older entry.moment index)

-- a line put a fact, or its source did
abbrev pub IsPutFact : (Mac → Queries) → Mesh → Fact → Type 0
IsPutFact queries mesh fact = WasPut mesh fact ⊎ WasPictured queries mesh fact

-- a fact of the type of pictures that was put is the picture of its source at one of its rounds
abbrev pub PicturesAreTrue : Type 0
PicturesAreTrue = (queries : Mac → Queries) (mesh : Mesh) (fact : Fact) →
    IsPutFact queries mesh fact → fact.type_no ≡ picture_type → WasPictured queries mesh fact

-- each fact that was ever printed for a question is one that a line put, byte by byte
abbrev pub TellsPutFacts : Type 0
TellsPutFacts = (queries : Mac → Queries) → AllKeep queries → (mesh : Mesh) →
    IsReachable queries mesh → (me : Mac) (asked : ℕ) (source : Mac) (version : ℕ)
    (text : List ℕ) → Has mesh.events (Alfred me asked (FactTold source version text)) →
    (type_no : ℕ) × WasPut mesh (record {
      source = source;
      type_no = type_no;
      version = version;
      bytes = text;
    })

-- each fact that a node has at a moment is one that was put, byte by byte
abbrev pub KeepsPutFacts : Type 0
KeepsPutFacts = (queries : Mac → Queries) → AllKeep queries → (mesh : Mesh) →
    IsReachable queries mesh → (place : ℕ) (node : NodeLog) →
    slice_get mesh.nodes place ≡ Some node → (now : ℕ) (kept : KeptFact) →
    Has (facts_at (known_at_node queries node).services.facts now) kept →
    IsPutFact queries mesh kept.fact

-- something holds of each fact that a message of the store brings
abbrev pub BringsFacts : (Fact → Type 0) → FactMessage → Type 0
BringsFacts F (HasPart push id number facts) = AllByRecursion F facts
BringsFacts F Primary = ⊤
BringsFacts F (Requests id type_no) = ⊤
BringsFacts F (HasEnd push id count) = ⊤

-- of each that comes with the payload of a packet
abbrev pub PayloadBrings : (Fact → Type 0) → List ℕ → Head → Type 0
PayloadBrings F tail (IvOgm ttl flags seq orig prev tq) = ⊤
PayloadBrings F tail (Bcast ttl seq orig) =
    (came : CameFact) → fact_message_of tail ≡ Some came → BringsFacts F came.message
PayloadBrings F tail (Elp orig seq interval) = ⊤
PayloadBrings F tail (Ogm2 ttl flags seq orig throughput) = ⊤
PayloadBrings F tail (Unicast ttl ttvn dst) =
    (came : CameFact) → fact_message_of tail ≡ Some came → BringsFacts F came.message
PayloadBrings F tail (Frag ttl number priority dst orig seq total) = ⊤
PayloadBrings F tail (Unicast4 ttl ttvn dst src subtype) = ⊤
PayloadBrings F tail (Icmp ttl msg dst orig uid seq) = ⊤
PayloadBrings F tail (Utvlv ttl dst src) = ⊤

-- of each that a message of a transaction brought
abbrev pub CallBringsFacts : (Fact → Type 0) → TxnCall → Type 0
CallBringsFacts F call = (number : ℕ) (facts : List Fact) →
    call.brought ≡ APart number facts → AllByRecursion F facts

-- something holds of each fact that stands in a broadcast or in a packet for one node that was ever
-- sent, and of each that came to a node with a transaction
pub record SendsOnly (F : Fact → Type 0) (queries : Mac → Queries) (mesh : Mesh) : Type 0 where
  pub sent : (place : ℕ) (frame : SentFrame) → slice_get mesh.frames place ≡ Some frame →
      (packet : Packet) → Has (link_frame frame.bytes).packets packet →
      PayloadBrings F packet.tail packet.head
  pub pushed : (place : ℕ) (node : NodeLog) → slice_get mesh.nodes place ≡ Some node →
      (call : TxnCall) → Has (known_at_node queries node).services.pushes call →
      CallBringsFacts F call
  pub answered : (place : ℕ) (node : NodeLog) → slice_get mesh.nodes place ≡ Some node →
      (call : TxnCall) → Has (known_at_node queries node).services.answers call →
      CallBringsFacts F call

-- each of these was put
abbrev pub SendsPutFacts : Type 0
SendsPutFacts = (queries : Mac → Queries) → AllKeep queries → (mesh : Mesh) →
    IsReachable queries mesh → SendsOnly (IsPutFact queries mesh) queries mesh
