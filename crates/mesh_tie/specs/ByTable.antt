-- Client frames that a node sends by table. What such a frame carries is for a client that is named
-- by the commit which the last message announced that the node had accepted when it sent the frame:
-- before the step of its input or, of a packet of a link frame, behind the packets in front of it.
-- A frame that is cut goes as fragments, which have no reason; this isn't said of them. The main
-- words are `HadCome` and `FramesByTable`.
use Rattle.std.specs.Prelude.{◌≡◌, ◌≤◌, ◌⊎◌, ◌-◌, ◌++◌, ◌∷◌, ℕ, List, slice_get, Option, Some, IsTrue}
use Rattle.mesh_base.specs.declared.address.Mac.{Mac}
use Rattle.mesh_base.specs.declared.event.Reason.TheVariants.{Table}
use Rattle.mesh_model.specs.declared.act.Act.{Act}
use Rattle.mesh_model.specs.declared.act.Act.TheVariants.{Link}
use Rattle.mesh_model.specs.declared.packet.Head.TheVariants.{Unicast}
use Rattle.mesh_model.specs.Acts.Rows.{Own, own_by, packet_acts}
use Rattle.mesh_model.specs.Clients.Log.{Given, Tick, LinkFrame, LanFrame, Line, Log, LogEntry}
use Rattle.mesh_model.specs.Clients.Mentions.{key_of}
use Rattle.mesh_model.specs.Commits.Announcements.{commit_at_root}
use Rattle.mesh_model.specs.Knowledge.Known.{Knowledge}
use Rattle.mesh_model.specs.Knowledge.Steps.{Coming, after_packets, knowledge}
use Rattle.mesh_model.specs.Net.Due.{ticks_in}
use Rattle.mesh_model.specs.Net.Mesh.{NodeLog, SentFrame, Mesh}
use Rattle.mesh_model.specs.Net.Next.{Has}
use Rattle.mesh_model.specs.Packets.FirstPacket.{Packet}
use Rattle.mesh_model.specs.Packets.Layout.{spelling}
use Rattle.mesh_model.specs.Packets.LinkFrame.{link_frame}
use Rattle.mesh_model.specs.Packets.Payload.{ClientFrame, client_frame_of, payload_spelling}
use Rattle.mesh_model.specs.Routes.Queries.{Queries}
use Rattle.mesh_model.specs.Tables.Known.{LastTold, TableCalls, known_by, names}
use Rattle.mesh_tie.specs.Originators.{log_of}
use Rattle.mesh_tie.specs.Sources.{IsWhole}
use Rattle.mesh_tie.specs.TieLaws.{IsWithoutAlias}

-- ---- what a node had been told when it put an act

-- an act is one of a packet among others, and this had come when the node took that packet: all
-- that had come before, and what the packets in front of it brought
pub record IsOfPacket (q : Queries) (me : Mac) (own : Own) (by : Coming) (known : Knowledge)
    (packets : List Packet) (act : Act) (came : TableCalls) : Type 0 where
  pub front : List Packet
  pub packet : Packet
  pub back : List Packet
  pub packets_are : packets ≡ front ++ packet ∷ back
  pub among : Has (packet_acts q me own by (after_packets q me by known front) packet) act
  pub came_is : came ≡ (after_packets q me by known front).tables

-- what had come for tables when the node of an address put an act for what it was given at a
-- moment, right after a log
abbrev pub HadCome : Queries → Mac → Log → ℕ → Given → Act → TableCalls → Type 0
HadCome q me older now (Tick index) act came = came ≡ (knowledge q me older).tables
HadCome q me older now (LinkFrame number from throughput bytes) act came =
    IsOfPacket q me (own_by me older)
    (record { now = now; from = from; throughput = throughput; number = number })
    (knowledge q me older) (link_frame bytes).packets act came
HadCome q me older now (LanFrame bytes) act came = came ≡ (knowledge q me older).tables
HadCome q me older now (Line line) act came = came ≡ (knowledge q me older).tables

-- ---- what is sent by table

-- bytes are a client frame as it is spelled, whose addresses are of six bytes
pub record IsSpelled (payload : List ℕ) (client : ClientFrame) : Type 0 where
  pub is : payload ≡ payload_spelling client
  pub dst : IsWhole client.dst
  pub src : IsWhole client.src

-- what is carried is for a client that is named by the commit of the root of the last announcement,
-- of those that had come
pub record NamesClient (orig : Mac) (log : Log) (frames : List SentFrame) (came : TableCalls)
    (payload : List ℕ) : Type 0 where
  pub client : ClientFrame
  pub carried : IsSpelled payload client ⊎ (client_frame_of payload ≡ Some client)
  pub last : LastTold
  pub told : (known_by came orig).told ≡ Some last
  pub frame : SentFrame
  pub sent : slice_get frames (last.frame - 1) ≡ Some frame
  pub past : frame.root ≤ ticks_in log
  pub named : IsTrue (names (key_of client.dst client.vid)
      (Some (commit_at_root orig log frame.root)))

-- the same of what had come when the node looked for where to send
pub record NamedThen (had_come : TableCalls → Type 0) (orig : Mac) (log : Log)
    (frames : List SentFrame) (payload : List ℕ) : Type 0 where
  pub came : TableCalls
  pub then : had_come came
  pub names_client : NamesClient orig log frames came payload

-- bytes are a client frame to a node; where that is an originator, its commit names the client
pub record IsSentByTable (had_come : TableCalls → Type 0) (orig : Mac) (log : Log)
    (frames : List SentFrame) (bytes : List ℕ) : Type 0 where
  pub ttl : ℕ
  pub ttvn : ℕ
  pub dst : Mac
  pub payload : List ℕ
  pub whole : IsWhole dst
  pub bytes_are : bytes ≡ spelling (Unicast ttl ttvn dst) payload
  pub named : dst ≡ orig → NamedThen had_come orig log frames payload

-- the bytes were sent by an act of an entry right behind a log
abbrev pub IsSentInStep : (Mac → Queries) → Mac → Mesh → Mac → LogEntry → Log → Option Mac
    → List ℕ → Type 0
IsSentInStep queries orig mesh me entry older to bytes = IsSentByTable
    (HadCome (queries me) me older entry.moment entry.given (Link to (Some Table) bytes)) orig
    (log_of orig mesh.nodes) mesh.frames bytes

-- every frame that a node ever sent by table, by the acts in its log
abbrev pub FramesByTable : Type 0
FramesByTable = (queries : Mac → Queries) (orig : Mac) (mesh : Mesh) →
    IsWithoutAlias queries orig mesh → (place : ℕ) (node : NodeLog)
    (newer older : Log) (entry : LogEntry) →
    slice_get mesh.nodes place ≡ Some node → node.log ≡ newer ++ entry ∷ older →
    (to : Option Mac) (bytes : List ℕ) → Has entry.acts (Link to (Some Table) bytes) →
    IsSentInStep queries orig mesh node.mac entry older to bytes
