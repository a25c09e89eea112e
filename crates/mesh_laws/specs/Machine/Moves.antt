-- The moves of the table machine. The originator commits any table under any byte, and says of its
-- last commit what it likes: an announcement, an answer in changes, or a piece of a full answer. A
-- node passes on what it holds, is told any announcement that was ever made, takes changes or a
-- full answer that were ever said, or drops all. Nothing says when a move comes, nor that it does.
-- The main words are `Move` and `Reaches`.
use Rattle.std.specs.Prelude.{◌≡◌, ◌⊎◌, ℕ, ◌<◌, List, [], ◌∷◌, length, Option, Some, Ok}
use Rattle.mesh_base.specs.declared.client.Entry.{Entry}
use Rattle.mesh_base.specs.declared.client.Vid.{Vid}
use Rattle.mesh_model.specs.Packets.Bodies.{VlanSum}
use Rattle.mesh_model.specs.declared.table_change.Change.{Change}
use Rattle.mesh_model.specs.Tables.Changes.{IsInKeyOrder, changeset}
use Rattle.mesh_model.specs.Tables.Strict.{apply_strictly}
use Rattle.mesh_model.specs.Tables.Sums.{checksums, sums_of, sum_at}
use Rattle.mesh_model.specs.Tables.Versions.{Version, next_byte}
use Rattle.mesh_laws.specs.Machine.Pieces.{piece, piece_count, put_together}
use Rattle.mesh_laws.specs.Machine.World.{Saying, Announcement, Differences, Piece, Told, Node, World, WasSaid, silent_node, with_commit, with_saying, with_node}

-- changes are those of the last commit, from the one before it, which has the byte before
abbrev pub AreLastChanges : List Version → List Change → Type 0
AreLastChanges [] changes = ⊥
AreLastChanges (first ∷ []) changes = ⊥
AreLastChanges (last ∷ before ∷ older) changes =
    (last.byte ≡ next_byte before.byte) × (changes ≡ changeset before.table last.table)

-- an announcement of a version by its number, with these changes
abbrev pub announcement_of : ℕ → Version → List Change → Saying
announcement_of number version changes =
    Announcement number version.byte (sums_of version.table) changes

-- an answer in changes that leads to a version
abbrev pub differences_to : Version → List Change → Saying
differences_to version changes = Differences version.byte (sums_of version.table) changes

-- a piece of a full answer that carries a version
abbrev pub piece_of : Version → ℕ → Saying
piece_of version place = Piece version.byte (sums_of version.table) place
    (piece_count version.table) (piece place version.table)

-- what a node holds once it is told a byte and sums: the empty table where no VLAN is named
abbrev pub held_when_told : ℕ → List VlanSum → Option Version → Option Version
held_when_told byte [] held = Some (record { byte = byte; table = [] })
held_when_told byte (first ∷ others) held = held

-- changes were said under a byte and sums, in an announcement or in an answer
abbrev pub WereOffered : List Saying → ℕ → List VlanSum → List Change → Type 0
WereOffered said byte sums changes =
    ((number : ℕ) × WasSaid said (Announcement number byte sums changes) × (changes ≡ [] → ⊥))
    ⊎ WasSaid said (Differences byte sums changes)

-- a piece was said under a byte and sums that are these for every VLAN
abbrev pub PieceWasSaid : List Saying → ℕ → (Vid → ℕ) → ℕ → ℕ → List Change → Type 0
PieceWasSaid said byte sums place count records = (named : List VlanSum)
    × (sum_at named ≡ sums) × WasSaid said (Piece byte named place count records)

-- a node that was told this and holds a table under the told byte
abbrev pub agreed_node : Told → List Entry → Node
agreed_node told table =
    record { told = Some told; held = Some (record { byte = told.byte; table = table }) }

-- one move: nothing is asked of the originator but what its commits and sayings are made of, and of
-- a node but what it needs to take something
pub data Move : World → World → Type 0 where
  -- any table, in key order, under any byte is the next commit
  commits : (w : World) (version : Version) →
      version.byte < 256 →
      IsInKeyOrder version.table →
      Move w (with_commit version w)
  -- the last commit is announced, with its changes or with none
  announces : (w : World) (last : Version) (older : List Version) (changes : List Change) →
      w.commits ≡ last ∷ older →
      (changes ≡ []) ⊎ AreLastChanges (last ∷ older) changes →
      Move w (with_saying (announcement_of (length older) last changes) w)
  -- an answer carries the last commit's changes
  answers_changes : (w : World) (last : Version) (older : List Version) (changes : List Change) →
      w.commits ≡ last ∷ older →
      AreLastChanges (last ∷ older) changes →
      Move w (with_saying (differences_to last changes) w)
  -- a piece of a full answer carries the last commit
  answers_piece : (w : World) (last : Version) (older : List Version) (place : ℕ) →
      w.commits ≡ last ∷ older →
      place < piece_count last.table →
      Move w (with_saying (piece_of last place) w)
  -- a node passes on a piece of what it holds
  passes : (w : World) (m : ℕ) (held : Version) (place : ℕ) →
      (w.nodes m).held ≡ Some held →
      place < piece_count held.table →
      Move w (with_saying (piece_of held place) w)
  -- a node is told what was ever announced; where no VLAN is named it holds the empty table
  is_told : (w : World) (m number byte : ℕ) (sums : List VlanSum) (changes : List Change) →
      WasSaid w.said (Announcement number byte sums changes) →
      Move w (with_node m (record {
        told = Some (record { number = number; byte = byte; sums = sums });
        held = held_when_told byte sums (w.nodes m).held;
      }) w)
  -- a node takes changes that were ever said under the told byte and sums: the byte is next after
  -- the held one, the changes apply strictly, and the result has the told sums
  takes_changes : (w : World) (m : ℕ) (told : Told) (held : Version) (sums : List VlanSum)
      (changes : List Change) (table : List Entry) →
      (w.nodes m).told ≡ Some told →
      (w.nodes m).held ≡ Some held →
      WereOffered w.said told.byte sums changes →
      sum_at sums ≡ sum_at told.sums →
      told.byte ≡ next_byte held.byte →
      apply_strictly held.table changes ≡ Ok table →
      checksums table ≡ sum_at told.sums →
      Move w (with_node m (agreed_node told table) w)
  -- a node takes pieces 0 to n - 1 of n, n at least 1, that were ever said under the told byte and
  -- sums: in order they are additions that apply strictly to the empty table, and the result has
  -- the told sums
  takes_full : (w : World) (m : ℕ) (told : Told) (count : ℕ) (pieces : ℕ → List Change)
      (table : List Entry) →
      (w.nodes m).told ≡ Some told →
      0 < count →
      ((place : ℕ) → place < count →
      PieceWasSaid w.said told.byte (sum_at told.sums) place count (pieces place)) →
      apply_strictly [] (put_together count pieces) ≡ Ok table →
      checksums table ≡ sum_at told.sums →
      Move w (with_node m (agreed_node told table) w)
  -- a node forgets what it was told and what it holds
  drops : (w : World) (m : ℕ) → Move w (with_node m silent_node w)

-- any number of moves
pub data Reaches : World → World → Type 0 where
  no_move : (w : World) → Reaches w w
  then_move : (u v w : World) → Reaches u v → Move v w → Reaches u w
