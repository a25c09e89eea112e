-- How a mesh is tied to a world of the table machine, for one originator: the commits are those in
-- its log, every frame that was sent says what was said, and each node was told and holds what it
-- knows of the originator, and gathers parts that were said. The main word is `IsTied`.
use Rattle.std.specs.Prelude.{◌≡◌, ◌≤◌, ◌<◌, ◌-◌, ◌^◌, ℕ, List, length, slice_get, Option, Some, None, ⊤}
use Rattle.std.specs.List.{AllByRecursion}
use Rattle.mesh_base.specs.declared.address.Mac.{Mac}
use Rattle.mesh_base.specs.declared.client.Entry.{Entry}
use Rattle.mesh_model.specs.Clients.Limits.{clients_limit}
use Rattle.mesh_model.specs.Clients.Log.{Log}
use Rattle.mesh_model.specs.Commits.History.{commits}
use Rattle.mesh_model.specs.Knowledge.Known.{Knowledge}
use Rattle.mesh_model.specs.Knowledge.Served.{Offered, Services}
use Rattle.mesh_model.specs.Knowledge.Steps.{knowledge}
use Rattle.mesh_model.specs.Marks.Calls.{Call, Marked, Released, Unmarked, Advised, Asked, Forgotten}
use Rattle.mesh_model.specs.Net.Due.{ticks_in}
use Rattle.mesh_model.specs.Net.Mesh.{NodeLog, SentFrame, Mesh}
use Rattle.mesh_model.specs.Packets.Bodies.{client_flags}
use Rattle.mesh_model.specs.Routes.Queries.{Queries}
use Rattle.mesh_model.specs.Tables.Gathered.{Gathered, records_at}
use Rattle.mesh_model.specs.Tables.Known.{Known, LastTold, TableCall, Announced, Answered, Dropped, known_by, stamp_of}
use Rattle.mesh_model.specs.Tables.Sums.{entry_sum, sum_at}
use Rattle.mesh_model.specs.Tables.Versions.{Stamp, Version}
use Rattle.mesh_model.specs.declared.table_change.Change.{Change}
use Rattle.mesh_laws.specs.Machine.Moves.{PieceWasSaid}
use Rattle.mesh_laws.specs.Machine.World.{Node, Saying, Told, World, IsCommit, silent_node}
use Rattle.mesh_tvlv.specs.Laws.{FitsKey}
use Rattle.mesh_tie.specs.Originators.{commits_of, log_of, number_at_root}
use Rattle.mesh_tie.specs.Sayings.{FrameSays}
use Rattle.mesh_tie.specs.Sources.{IsWhole}

-- what the node of this address and log knows
abbrev pub known_at_node : (Mac → Queries) → NodeLog → Knowledge
known_at_node queries node = knowledge (queries node.mac) node.mac node.log

-- ---- nodes

-- the world's node was told what was told last: the frame that brought it was sent, and the number
-- is that of the commit of its root
abbrev pub IsToldBy : Mac → Log → List SentFrame → Option LastTold → Option Told → Type 0
IsToldBy orig log frames None told = told ≡ None
IsToldBy orig log frames (Some last) told = (frame : SentFrame)
    × (slice_get frames (last.frame - 1) ≡ Some frame)
    × (frame.root ≤ ticks_in log)
    × (told ≡ Some (record {
      number = number_at_root orig log frame.root;
      byte = last.stamp.byte;
      sums = last.stamp.sums;
    }))

-- the parts that are gathered were said under the byte and sums that were told last, each by its
-- number as a piece of so many
abbrev pub GatheredWereSaid : List Saying → Option Stamp → Gathered → Type 0
GatheredWereSaid said told gathered = (number : ℕ) (records : List Change) →
    records_at number gathered ≡ Some records →
    (wanted : Stamp) × (told ≡ Some wanted) × (number < gathered.count)
    × PieceWasSaid said wanted.byte (sum_at wanted.sums) number gathered.count records

-- the world's node was told and holds what a node knows, and what that gathers was said
pub record NodeIsTied (orig : Mac) (log : Log) (frames : List SentFrame) (said : List Saying)
    (known : Known) (node : Node) : Type 0 where
  pub held : node.held ≡ known.held
  pub told : IsToldBy orig log frames known.told node.told
  pub gathered : GatheredWereSaid said (stamp_of known) known.gathered

-- ---- the mesh
pub record IsTied (queries : Mac → Queries) (orig : Mac) (mesh : Mesh) (world : World) : Type 0
  where
    pub commits : world.commits ≡ commits_of orig mesh
    pub frames : (place : ℕ) (frame : SentFrame) → slice_get mesh.frames place ≡ Some frame →
        FrameSays orig (log_of orig mesh.nodes) world.said frame.root frame.bytes
    pub nodes : (place : ℕ) (node : NodeLog) → slice_get mesh.nodes place ≡ Some node →
        NodeIsTied orig (log_of orig mesh.nodes) mesh.frames world.said
        (known_by (known_at_node queries node).tables orig) (world.nodes place)
    pub absent : (place : ℕ) → slice_get mesh.nodes place ≡ None → world.nodes place ≡ silent_node

-- ---- what holds beside the tie

-- the addresses in what came for tables are whole
abbrev pub HasWholeSource : TableCall → Type 0
HasWholeSource (Announced orig frame stamp changes) = IsWhole orig
HasWholeSource (Answered orig stamp carried) = ⊤
HasWholeSource (Dropped orig) = ⊤

-- the targets of marks are whole
abbrev pub HasWholeTarget : Call → Type 0
HasWholeTarget (Marked now key target told) = IsWhole target
HasWholeTarget (Released target byte) = ⊤
HasWholeTarget (Unmarked key) = ⊤
HasWholeTarget (Advised now key) = ⊤
HasWholeTarget (Asked now orig) = ⊤
HasWholeTarget (Forgotten orig) = ⊤

-- the originators that offered something are whole, and so is the chosen gateway
pub record ServesWhole (services : Services) : Type 0 where
  pub offers : AllByRecursion (λ (one : Offered). IsWhole one.orig) services.offers
  pub choice : (gateway : Mac) → services.choice ≡ Some gateway → IsWhole gateway

-- the addresses that a node may send payloads and containers to are whole
pub record KnowsWhole (known : Knowledge) : Type 0 where
  pub tables : AllByRecursion HasWholeSource known.tables
  pub marks : AllByRecursion HasWholeTarget known.marks
  pub services : ServesWhole known.services

-- addresses of nodes are whole and of one node each, and so are those that they may send to
pub record IsOrderly (queries : Mac → Queries) (mesh : Mesh) : Type 0 where
  pub whole : (place : ℕ) (node : NodeLog) → slice_get mesh.nodes place ≡ Some node →
      IsWhole node.mac
  pub distinct : (place other : ℕ) (node second : NodeLog) →
      slice_get mesh.nodes place ≡ Some node → slice_get mesh.nodes other ≡ Some second →
      node.mac ≡ second.mac → place ≡ other
  pub knows : (place : ℕ) (node : NodeLog) → slice_get mesh.nodes place ≡ Some node →
      KnowsWhole (known_at_node queries node)

-- an entry that a record can tell, and whose checksum fits its bytes
pub record FitsEntry (entry : Entry) : Type 0 where
  pub key : FitsKey entry.key
  pub flags : client_flags entry.flags ≡ entry.flags
  pub sum : entry_sum entry < 2 ^ 32

-- a table that a full answer can tell
pub record FitsAnswer (table : List Entry) : Type 0 where
  pub few : length table ≤ clients_limit
  pub each : AllByRecursion FitsEntry table

-- every commit can be told
abbrev pub CommitsFit : Mesh → Type 0
CommitsFit mesh = (place : ℕ) (node : NodeLog) → slice_get mesh.nodes place ≡ Some node →
    (version : Version) → IsCommit (commits node.mac node.log) version → FitsAnswer version.table
