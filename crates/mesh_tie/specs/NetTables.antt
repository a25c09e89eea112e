-- What a net tells of tables: what messages and answers say of them, those that its nodes hold, and
-- the events that its log gains. All are right where nodes have addresses of their own and lines name
-- clients that records can tell, unless an event told of an alias. The main words are
-- `SayingsAreRight`, `TablesAreRight` and `GainsAreRight`.
use Rattle.std.specs.Prelude.{◌≡◌, ◌++◌, ◌∷◌, ℕ, List, slice_get, Some, None, IsTrue, ⊤}
use Rattle.mesh_base.specs.declared.address.Mac.{Mac}
use Rattle.mesh_base.specs.declared.event.Event.{Event}
use Rattle.mesh_base.specs.declared.event.Event.TheVariants.{FrameSent}
use Rattle.mesh_base.specs.declared.event.Reason.TheVariants.{Table}
use Rattle.mesh_model.specs.Clients.Log.{Given, Tick, LinkFrame, LanFrame, Line, Frame, LogEntry}
use Rattle.mesh_model.specs.Net.Mesh.{NodeLog, LanPut, Mesh}
use Rattle.mesh_model.specs.Net.Next.{Has}
use Rattle.mesh_model.specs.Packets.Payload.{ClientFrame, payload_spelling}
use Rattle.mesh_model.specs.Routes.Queries.{Queries}
use Rattle.mesh_model.specs.Tables.Known.{LastTold, is_agreed, known_by}
use Rattle.mesh_model.specs.Tables.Versions.{Version}
use Rattle.mesh_laws.specs.Machine.World.{IsCommit}
use Rattle.mesh_tie.specs.AliasesSeen.{ToldNone}
use Rattle.mesh_tie.specs.LinesByTable.{SentRightly, ToldNoneOf}
use Rattle.mesh_tie.specs.Originators.{commits_of}
use Rattle.mesh_tie.specs.Sources.{IsWhole}
use Rattle.mesh_tie.specs.Steps.{TellsClient}
use Rattle.mesh_tie.specs.Tie.{known_at_node}
use Rattle.mesh_tie.specs.TieLaws.{AnnouncesCommits, AnswersWithCommits, HoldsTheTold}

-- the client that an input names, where it names one, is such as records can tell, and its client
-- frame goes to a whole address
abbrev pub NamesClients : Given → Type 0
NamesClients (Tick index) = ⊤
NamesClients (LinkFrame number from throughput bytes) = ⊤
NamesClients (LanFrame bytes) = ⊤
NamesClients (Line line) = TellsClient line

-- bytes on a LAN are a client frame, with a client that records can tell, to a whole address
pub record TellsPut (bytes : List ℕ) : Type 0 where
  pub frame : ClientFrame
  pub is : bytes ≡ payload_spelling frame
  pub tells : TellsClient (Frame frame.src frame.dst frame.vid frame.text)

-- nodes have whole addresses, each its own, and were given clients that records can tell, with
-- frames to whole addresses; and such are the frames that no gateway put on a LAN
pub record IsTellable (mesh : Mesh) : Type 0 where
  pub whole : (place : ℕ) (node : NodeLog) → slice_get mesh.nodes place ≡ Some node →
      IsWhole node.mac
  pub distinct : (place other : ℕ) (node second : NodeLog) →
      slice_get mesh.nodes place ≡ Some node → slice_get mesh.nodes other ≡ Some second →
      node.mac ≡ second.mac → place ≡ other
  pub clients : (place : ℕ) (node : NodeLog) (entry : LogEntry) →
      slice_get mesh.nodes place ≡ Some node → Has node.log entry → NamesClients entry.given
  pub puts : (place : ℕ) (put : LanPut) → slice_get mesh.puts place ≡ Some put →
      put.by ≡ None → TellsPut put.bytes

-- every originator message of an originator announces its commit, and every answer in its name
-- carries one
pub record SaysRightly (orig : Mac) (mesh : Mesh) : Type 0 where
  pub messages : AnnouncesCommits orig mesh
  pub answers : AnswersWithCommits orig mesh

-- so it is of each originator of which no event told of an alias
abbrev pub SayingsAreRight : Mesh → Type 0
SayingsAreRight mesh = (orig : Mac) → ToldNone orig mesh → SaysRightly orig mesh

-- every table that a node holds of an originator was committed under the held byte, and one in
-- agreement is that of the commit that the node was told last
pub record HoldsRightly (queries : Mac → Queries) (orig : Mac) (mesh : Mesh) (node : NodeLog)
    : Type 0 where
  pub committed : (held : Version) →
      (known_by (known_at_node queries node).tables orig).held ≡ Some held →
      IsCommit (commits_of orig mesh) held
  pub told_last : (last : LastTold) (held : Version) →
      (known_by (known_at_node queries node).tables orig).told ≡ Some last →
      (known_by (known_at_node queries node).tables orig).held ≡ Some held →
      IsTrue (is_agreed (known_by (known_at_node queries node).tables orig)) →
      HoldsTheTold orig mesh last held

-- so does each node, of each originator of which no event told of an alias
abbrev pub TablesAreRight : (Mac → Queries) → Mesh → Type 0
TablesAreRight queries mesh = (orig : Mac) → ToldNone orig mesh → (place : ℕ) (node : NodeLog) →
    slice_get mesh.nodes place ≡ Some node → HoldsRightly queries orig mesh node

-- each event that a log gained of a frame that was sent by table: its addressee's commit names its
-- client, as its sender was told last when it sent the frame, unless an event before told of an
-- alias of the addressee
abbrev pub GainsAreRight : (Mac → Queries) → Mesh → Mesh → List Event → List Event → Type 0
GainsAreRight queries before after old new = (orig : Mac) → ToldNone orig before →
    (front back : List Event) (number moment : ℕ) (me next : Mac) (bytes : List ℕ) →
    new ≡ old ++ front ++ FrameSent number moment me next (Some Table) bytes ∷ back →
    ToldNoneOf orig front → SentRightly queries orig after moment me bytes
