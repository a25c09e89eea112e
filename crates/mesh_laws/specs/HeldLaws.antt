-- What is known of an originator's table where all that came for it tells of commits that it made,
-- and no two of these are an alias: what is held is a commit under its byte, and where it agrees,
-- the commit that was told last; the parts that are gathered are pieces of that commit. What came may
-- be late, repeated or lack something. The main words are `CameFrom` and `AreOfCommits`.
use Rattle.std.specs.Prelude.{◌≡◌, ◌⊎◌, ◌<◌, ℕ, List, [], map, Option, Some, IsTrue, ⊤}
use Rattle.std.specs.List.{AllByRecursion}
use Rattle.mesh_base.specs.declared.address.Mac.{Mac}
use Rattle.mesh_model.specs.declared.table_change.Change.{Change}
use Rattle.mesh_model.specs.Tables.Changes.{IsInKeyOrder, addition}
use Rattle.mesh_model.specs.Tables.Gathered.{Gathered, records_at}
use Rattle.mesh_model.specs.Tables.Judging.{Carried, InFull, InPart, InChanges}
use Rattle.mesh_model.specs.Tables.Known.{TableCall, TableCalls, Announced, Answered, Dropped, agrees, known_by, stamp_of}
use Rattle.mesh_model.specs.Tables.Pieces.{piece, piece_count}
use Rattle.mesh_model.specs.Tables.Sums.{sums_of}
use Rattle.mesh_model.specs.Tables.Versions.{Stamp, Version}
use Rattle.mesh_laws.specs.KnownLaws.{IsToldWhole}
use Rattle.mesh_laws.specs.Machine.Agreement.{HasNoAlias, LeadTo}
use Rattle.mesh_laws.specs.Machine.World.{IsCommit, commit_numbered}

-- the byte and the sums of a version
abbrev pub stamp_of_commit : Version → Stamp
stamp_of_commit version = record { byte = version.byte; sums = sums_of version.table }

-- ---- what comes
-- an announcement tells a commit: its byte and sums, with the changes that lead to it or with none
abbrev pub TellsCommit : List Version → Stamp → List Change → Type 0
TellsCommit made stamp changes = (number : ℕ) × (commit : Version)
    × (commit_numbered number made ≡ Some commit) × (stamp ≡ stamp_of_commit commit)
    × ((changes ≡ []) ⊎ LeadTo made number commit changes)

-- an answer carries a commit in full, a piece of one, or the changes that lead to a commit, under
-- its byte and sums
abbrev pub CarriesCommit : List Version → Stamp → Carried → Type 0
CarriesCommit made stamp (InFull records) = (commit : Version) × IsCommit made commit
    × (stamp ≡ stamp_of_commit commit) × (records ≡ map addition commit.table)
CarriesCommit made stamp (InPart number count records) = (commit : Version)
    × IsCommit made commit × (stamp ≡ stamp_of_commit commit)
    × (count ≡ piece_count commit.table) × (number < count) × (records ≡ piece number commit.table)
CarriesCommit made stamp (InChanges records) = (number : ℕ) × (commit : Version)
    × (commit_numbered number made ≡ Some commit) × (stamp ≡ stamp_of_commit commit)
    × LeadTo made number commit records

-- what came, if it came for this originator, tells of its commits
abbrev pub IsOfCommits : List Version → Mac → TableCall → Type 0
IsOfCommits made orig (Announced for frame stamp changes) =
    for ≡ orig → TellsCommit made stamp changes
IsOfCommits made orig (Answered for stamp carried) = for ≡ orig → CarriesCommit made stamp carried
IsOfCommits made orig (Dropped for) = ⊤

-- tables in key order, each under a byte, no two of which are an alias
pub record AreCommits (made : List Version) : Type 0 where
  pub bytes : (version : Version) → IsCommit made version → version.byte < 256
  pub ordered : (version : Version) → IsCommit made version → IsInKeyOrder version.table
  pub no_alias : HasNoAlias made

-- all that came for an originator tells of these commits, and no two of them are an alias
pub record CameFrom (made : List Version) (orig : Mac) (calls : TableCalls) : Type 0 where
  pub commits : AreCommits made
  pub each : AllByRecursion (IsOfCommits made orig) calls

-- ---- what is known then
-- what is held is the commit that was told, and no other has its byte and sums
pub record HoldsTold (made : List Version) (told : Option Stamp) (held : Option Version)
    : Type 0 where
  pub commit : Version
  pub is_commit : IsCommit made commit
  pub told_is : told ≡ Some (stamp_of_commit commit)
  pub held_is : held ≡ Some commit
  pub only : (other : Version) → IsCommit made other →
      told ≡ Some (stamp_of_commit other) → other ≡ commit

-- a commit was told, if anything was; a commit is held, if anything is; and where they agree, the
-- one that was told
pub record AreOfCommits (made : List Version) (told : Option Stamp) (held : Option Version)
    : Type 0 where
  pub told_is : (stamp : Stamp) → told ≡ Some stamp →
      (commit : Version) × IsCommit made commit × (stamp ≡ stamp_of_commit commit)
  pub held_is : (version : Version) → held ≡ Some version → IsCommit made version
  pub agreed_is : IsTrue (agrees told held) → HoldsTold made told held

-- the parts that are gathered are pieces of the commit that was told, of as many as it has
abbrev pub ArePiecesOfCommits : List Version → Option Stamp → Gathered → Type 0
ArePiecesOfCommits made told gathered = (number : ℕ) (records : List Change) →
    records_at number gathered ≡ Some records →
    (commit : Version) × IsCommit made commit × (told ≡ Some (stamp_of_commit commit))
    × (gathered.count ≡ piece_count commit.table) × (number < gathered.count)
    × (records ≡ piece number commit.table)

-- so it is of what is known of an originator
abbrev pub KnownAreOfCommits : Type 0
KnownAreOfCommits = (made : List Version) (orig : Mac) (calls : TableCalls) →
    CameFrom made orig calls →
    AreOfCommits made (stamp_of (known_by calls orig)) (known_by calls orig).held

-- and of what is gathered of its table
abbrev pub GatheredAreOfCommits : Type 0
GatheredAreOfCommits = (made : List Version) (orig : Mac) (calls : TableCalls) →
    CameFrom made orig calls →
    ArePiecesOfCommits made (stamp_of (known_by calls orig)) (known_by calls orig).gathered

-- a commit in full is the whole table that was told, where that commit was told
abbrev pub CommitsAreToldWhole : Type 0
CommitsAreToldWhole = (commit : Version) → IsInKeyOrder commit.table →
    IsToldWhole (Some (stamp_of_commit commit)) (stamp_of_commit commit)
    (map addition commit.table)
