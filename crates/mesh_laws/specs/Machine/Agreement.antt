-- What agreement of an originator's tables means. Two commits are an alias where they have one byte
-- and equal sums but differ as tables. A saying agrees where it is what its commit would have said;
-- a node is in agreement where it holds the told byte and sums. The main words are `HasNoAlias`,
-- `Agrees` and `IsAgreed`.
use Rattle.std.specs.Prelude.{◌≡◌, ◌⊎◌, ℕ, suc, ◌<◌, List, [], Some}
use Rattle.mesh_model.specs.Packets.Bodies.{VlanSum}
use Rattle.mesh_model.specs.declared.table_change.Change.{Change}
use Rattle.mesh_model.specs.Tables.Changes.{changeset}
use Rattle.mesh_model.specs.Tables.Sums.{checksums, sums_of, sum_at}
use Rattle.mesh_model.specs.Tables.Versions.{Version, next_byte}
use Rattle.mesh_laws.specs.Machine.Pieces.{piece, piece_count}
use Rattle.mesh_laws.specs.Machine.World.{Saying, Announcement, Differences, Piece, Told, commit_numbered, IsCommit}

-- commits of one byte and equal checksums have one table
abbrev pub HasNoAlias : List Version → Type 0
HasNoAlias commits = (one other : Version) → IsCommit commits one → IsCommit commits other →
    one.byte ≡ other.byte → checksums one.table ≡ checksums other.table → one.table ≡ other.table

-- a byte and sums are those of a version
abbrev pub AreOf : Version → ℕ → List VlanSum → Type 0
AreOf version byte sums = (byte ≡ version.byte) × (sums ≡ sums_of version.table)

-- changes lead to the commit of a number from the commit just before it, which has the byte before
pub record LeadTo (commits : List Version) (number : ℕ) (commit : Version)
    (changes : List Change) : Type 0 where
  pub earlier : ℕ
  pub before : Version
  pub number_is : number ≡ suc earlier
  pub was_commit : commit_numbered earlier commits ≡ Some before
  pub byte_is : commit.byte ≡ next_byte before.byte
  pub changes_are : changes ≡ changeset before.table commit.table

-- what was said agrees with the commits: an announcement has the byte and sums of the commit of its
-- number, and its changes or none; an answer in changes leads to a commit under its byte and sums;
-- a piece is one of a commit under its byte and sums
abbrev pub Agrees : List Version → Saying → Type 0
Agrees commits (Announcement number byte sums changes) = (commit : Version)
    × (commit_numbered number commits ≡ Some commit)
    × AreOf commit byte sums
    × ((changes ≡ []) ⊎ LeadTo commits number commit changes)
Agrees commits (Differences byte sums changes) = (number : ℕ) × (commit : Version)
    × (commit_numbered number commits ≡ Some commit)
    × AreOf commit byte sums
    × LeadTo commits number commit changes
Agrees commits (Piece byte sums place count records) = (commit : Version)
    × IsCommit commits commit
    × AreOf commit byte sums
    × (count ≡ piece_count commit.table)
    × (place < count)
    × (records ≡ piece place commit.table)

-- what is held has the told byte and the told sums
abbrev pub IsAgreed : Told → Version → Type 0
IsAgreed told held = (held.byte ≡ told.byte) × (checksums held.table ≡ sum_at told.sums)
