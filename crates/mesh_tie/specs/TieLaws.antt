-- The laws of the tables in every mesh that is reached, whatever its network does. Each step is a
-- list of moves of the table machine; so, for each originator of whose commits no two are an alias,
-- every message of it announces its commit, every answer in its name carries one, every table that
-- a node holds of it is one, and a table in agreement is the one that was told last; the parts that a
-- node gathers are pieces of that one. The main words are `StepsAreMoves`, `HeldAreCommitted` and
-- `AgreedAreTold`.
use Rattle.std.specs.Prelude.{◌≡◌, ◌⊎◌, ◌-◌, ℕ, [], slice_get, Some, IsTrue}
use Rattle.mesh_base.specs.declared.address.Mac.{Mac}
use Rattle.mesh_model.specs.declared.line_form.Algorithm.{Algorithm}
use Rattle.mesh_model.specs.Clients.Log.{Log}
use Rattle.mesh_model.specs.Commits.Announcements.{commit_at_root}
use Rattle.mesh_model.specs.Commits.History.{commits}
use Rattle.mesh_model.specs.Knowledge.Told.{message_changes, stamp_told}
use Rattle.mesh_model.specs.Net.Mesh.{NodeLog, SentFrame, Mesh}
use Rattle.mesh_model.specs.Net.Next.{Has}
use Rattle.mesh_model.specs.Packets.Bodies.{TtData}
use Rattle.mesh_model.specs.Packets.Containers.{containers_of}
use Rattle.mesh_model.specs.Packets.Contents.{first_table}
use Rattle.mesh_model.specs.Packets.FirstPacket.{Packet}
use Rattle.mesh_model.specs.Packets.LinkFrame.{link_frame}
use Rattle.mesh_model.specs.Routes.Algorithms.{queries_of}
use Rattle.mesh_model.specs.Routes.Queries.{Queries}
use Rattle.mesh_model.specs.Tables.Judging.{Carried}
use Rattle.mesh_model.specs.Tables.Known.{LastTold, is_agreed, known_by, stamp_of}
use Rattle.mesh_model.specs.Tables.Versions.{Stamp, Version}
use Rattle.mesh_laws.specs.HeldLaws.{ArePiecesOfCommits, CarriesCommit, stamp_of_commit}
use Rattle.mesh_laws.specs.Machine.Agreement.{HasNoAlias, LeadTo}
use Rattle.mesh_laws.specs.Machine.Moves.{Reaches}
use Rattle.mesh_laws.specs.Machine.World.{World, IsCommit, start}
use Rattle.mesh_tie.specs.Originators.{commits_of, log_of, number_at_root}
use Rattle.mesh_tie.specs.Sayings.{HoldsAnswer}
use Rattle.mesh_tie.specs.Sources.{ContainersOf, KeepsOriginators, MessageOf, word_of}
use Rattle.mesh_tie.specs.Steps.{IsReachable, Steps}
use Rattle.mesh_tie.specs.Tie.{CommitsFit, IsTied, known_at_node}

-- every node's algorithm keeps originator messages their originators'
abbrev pub AllKeep : (Mac → Queries) → Type 0
AllKeep queries = (me : Mac) → KeepsOriginators me (queries me)

-- every commit of every mesh that is reached can be told
abbrev pub CommitsAlwaysFit : Type 0
CommitsAlwaysFit = (queries : Mac → Queries) → AllKeep queries → (mesh : Mesh) →
    IsReachable queries mesh → CommitsFit mesh

-- each algorithm keeps originator messages their originators'
abbrev pub AlgorithmsKeep : Type 0
AlgorithmsKeep = (algorithm : Algorithm) → AllKeep (queries_of algorithm)

-- each step of a mesh is, for each originator, a list of the machine's moves
abbrev pub StepsAreMoves : Type 0
StepsAreMoves = (queries : Mac → Queries) → AllKeep queries → (mesh after : Mesh) →
    IsReachable queries mesh → Steps queries mesh after → (orig : Mac) (world : World) →
    Reaches start world → IsTied queries orig mesh world →
    (next : World) × Reaches world next × IsTied queries orig after next

-- so each mesh that is reached is tied to a world that moves reach
abbrev pub MeshesAreTied : Type 0
MeshesAreTied = (queries : Mac → Queries) → AllKeep queries → (mesh : Mesh) →
    IsReachable queries mesh → (orig : Mac) →
    (world : World) × Reaches start world × IsTied queries orig mesh world

-- a mesh that is reached, where an originator has no alias among its commits
pub record IsWithoutAlias (queries : Mac → Queries) (orig : Mac) (mesh : Mesh) : Type 0 where
  pub keep : AllKeep queries
  pub reachable : IsReachable queries mesh
  pub none : HasNoAlias (commits_of orig mesh)

-- ---- what was sent

-- a translation table announces the commit of a root: its byte, its sums, and its changes or none
pub record AnnouncesCommit (orig : Mac) (log : Log) (root : ℕ) (table : TtData) : Type 0 where
  pub stamp : stamp_told table ≡ stamp_of_commit (commit_at_root orig log root)
  pub changes : (message_changes table ≡ []) ⊎ LeadTo (commits orig log)
      (number_at_root orig log root) (commit_at_root orig log root) (message_changes table)

-- every originator message of an originator that was ever sent announces the commit of its root
abbrev pub AnnouncesCommits : Mac → Mesh → Type 0
AnnouncesCommits orig mesh = (place : ℕ) (frame : SentFrame) (packet : Packet) →
    slice_get mesh.frames place ≡ Some frame → Has (link_frame frame.bytes).packets packet →
    word_of packet.head ≡ MessageOf orig →
    (table : TtData) × (first_table (containers_of packet.tail) ≡ Some table)
    × AnnouncesCommit orig (log_of orig mesh.nodes) frame.root table

abbrev pub MessagesAnnounce : Type 0
MessagesAnnounce = (queries : Mac → Queries) (orig : Mac) (mesh : Mesh) →
    IsWithoutAlias queries orig mesh → AnnouncesCommits orig mesh

-- every answer with an originator as its source that was ever sent, or part of one, carries a commit
-- of it
abbrev pub AnswersWithCommits : Mac → Mesh → Type 0
AnswersWithCommits orig mesh = (place : ℕ) (frame : SentFrame) (packet : Packet) →
    slice_get mesh.frames place ≡ Some frame → Has (link_frame frame.bytes).packets packet →
    word_of packet.head ≡ ContainersOf orig → (stamp : Stamp) (carried : Carried) →
    HoldsAnswer packet.tail stamp carried → CarriesCommit (commits_of orig mesh) stamp carried

abbrev pub AnswersCarry : Type 0
AnswersCarry = (queries : Mac → Queries) (orig : Mac) (mesh : Mesh) →
    IsWithoutAlias queries orig mesh → AnswersWithCommits orig mesh

-- ---- what is held and gathered

-- every table that a node holds of an originator is a commit of it under the held byte
abbrev pub HeldAreCommitted : Type 0
HeldAreCommitted = (queries : Mac → Queries) (orig : Mac) (mesh : Mesh) →
    IsWithoutAlias queries orig mesh → (place : ℕ) (node : NodeLog) (held : Version) →
    slice_get mesh.nodes place ≡ Some node →
    (known_by (known_at_node queries node).tables orig).held ≡ Some held →
    IsCommit (commits_of orig mesh) held

-- the parts that a node gathers of its table are pieces of the commit that was told last
abbrev pub GatheredAreCommitted : Type 0
GatheredAreCommitted = (queries : Mac → Queries) (orig : Mac) (mesh : Mesh) →
    IsWithoutAlias queries orig mesh → (place : ℕ) (node : NodeLog) →
    slice_get mesh.nodes place ≡ Some node →
    ArePiecesOfCommits (commits_of orig mesh)
    (stamp_of (known_by (known_at_node queries node).tables orig))
    (known_by (known_at_node queries node).tables orig).gathered

-- a table in agreement is that of the commit that the last accepted message announced
pub record HoldsTheTold (orig : Mac) (mesh : Mesh) (last : LastTold) (held : Version) : Type 0
  where
    pub frame : SentFrame
    pub sent : slice_get mesh.frames (last.frame - 1) ≡ Some frame
    pub table : held.table ≡ (commit_at_root orig (log_of orig mesh.nodes) frame.root).table

abbrev pub AgreedAreTold : Type 0
AgreedAreTold = (queries : Mac → Queries) (orig : Mac) (mesh : Mesh) →
    IsWithoutAlias queries orig mesh → (place : ℕ) (node : NodeLog) (last : LastTold)
    (held : Version) → slice_get mesh.nodes place ≡ Some node →
    (known_by (known_at_node queries node).tables orig).told ≡ Some last →
    (known_by (known_at_node queries node).tables orig).held ≡ Some held →
    IsTrue (is_agreed (known_by (known_at_node queries node).tables orig)) →
    HoldsTheTold orig mesh last held
