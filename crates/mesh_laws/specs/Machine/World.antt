-- The world of the table machine, for one originator: its commits, newest first, each a table under
-- a byte; all that was ever said of them; and for each node what it was last told and what it
-- holds. An announcement tells the number of its commit, which no packet does: how many commits are
-- older. The main word is `World`; all begins at `start`.
pub use Rattle.mesh_model.specs.Commits.Versions.{first_commit, commit_numbered}
use Rattle.std.specs.Prelude.{◌≡◌, ◌⊎◌, ℕ, ◌==◌, if◌then◌else◌, List, [], ◌∷◌, Option, Some, None}
use Rattle.mesh_model.specs.Packets.Bodies.{VlanSum}
use Rattle.mesh_model.specs.declared.table_change.Change.{Change}
use Rattle.mesh_model.specs.Tables.Versions.{Version}

-- what was said of the originator's tables: an announcement of a commit by its number, with changes
-- or with none; an answer in changes; or a piece of a full answer, by its place among so many
pub data Saying : Type 0 where
  Announcement : (number byte : ℕ) → (sums : List VlanSum) → (changes : List Change) → Saying
  Differences : (byte : ℕ) → (sums : List VlanSum) → (changes : List Change) → Saying
  Piece : (byte : ℕ) → (sums : List VlanSum) → (place count : ℕ) → (records : List Change) → Saying

-- what a node was told: a commit's number, its byte and its sums
pub record Told : Type 0 where
  pub number : ℕ
  pub byte : ℕ
  pub sums : List VlanSum

-- a node's part: what it was told and what it holds, each of them or none
pub record Node : Type 0 where
  pub told : Option Told
  pub held : Option Version

-- the whole
pub record World : Type 0 where
  pub commits : List Version
  pub said : List Saying
  pub nodes : ℕ → Node

-- a node that was told nothing and holds nothing
abbrev pub silent_node : Node
silent_node = record { told = None; held = None }

-- the beginning: commit 0 alone, nothing said, nothing told and nothing held
abbrev pub start : World
start = record { commits = first_commit ∷ []; said = []; nodes = λ m. silent_node }

-- a version is a commit
abbrev pub IsCommit : List Version → Version → Type 0
IsCommit commits version = (number : ℕ) × (commit_numbered number commits ≡ Some version)

-- something was said
abbrev pub WasSaid : List Saying → Saying → Type 0
WasSaid [] saying = ⊥
WasSaid (last ∷ before) saying = (saying ≡ last) ⊎ WasSaid before saying

-- the world with one commit more
abbrev pub with_commit : Version → World → World
with_commit version world = record world { commits = version ∷ world.commits }

-- the world with one saying more
abbrev pub with_saying : Saying → World → World
with_saying saying world = record world { said = saying ∷ world.said }

-- the world with another part of one node
abbrev pub with_node : ℕ → Node → World → World
with_node m node world =
    record world { nodes = λ k. if k == m then node else world.nodes k }
