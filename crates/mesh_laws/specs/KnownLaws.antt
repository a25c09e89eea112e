-- Laws of what a node knows of an originator's table: what its differences and its agreement mean
-- in checksums, when what is held changes, and that the right answer is taken, in one piece or in
-- parts. What is held changes as the table machine's moves do. The main words are
-- `FullAnswerIsTaken`, `PartsAreTaken` and `ChangesAsHeard`.
use Rattle.std.specs.Prelude.{◌≡◌, ◌≢◌, ◌⊎◌, ◌↔◌, ◌<◌, ◌≤◌, ℕ, ◌==◌, ◌&&◌, Bool, true, false, List, [], ◌∷◌, ◌++◌, map, Option, Some, None, is_some, IsTrue, Ok, ⊤}
use Rattle.std.specs.List.{AllByRecursion, IsDistinct, list_any}
use Rattle.mesh_base.specs.declared.address.Mac.{Mac}
use Rattle.mesh_base.specs.declared.client.Entry.{Entry}
use Rattle.mesh_base.specs.declared.client.Vid.{Vid}
use Rattle.mesh_model.specs.Clients.Present.{same_key}
use Rattle.mesh_model.specs.Packets.Bodies.{VlanSum}
use Rattle.mesh_model.specs.declared.table_change.Change.{Change}
use Rattle.mesh_model.specs.declared.table_outcome.Difference.{Difference}
use Rattle.mesh_model.specs.declared.table_outcome.Heard.{Heard}
use Rattle.mesh_model.specs.declared.table_outcome.Heard.TheVariants.{Emptied, Unheld, Same, SumDiffers, Gap, Bare, Clash, Applied}
use Rattle.mesh_model.specs.declared.table_outcome.Taken.{Taken}
use Rattle.mesh_model.specs.declared.table_outcome.Taken.TheVariants.{BadPart, NotTold, SumDiffers as SumsDiffer, Part, Unheld as NothingHeld, Gap as NotNext, Clash as NotStrict, Taken as IsTaken}
use Rattle.mesh_model.specs.Routes.Addresses.{same_mac}
use Rattle.mesh_model.specs.Tables.Changes.{addition}
use Rattle.mesh_model.specs.Tables.Differences.{first_difference}
use Rattle.mesh_model.specs.Tables.Gathered.{Gathered, gathered_records, is_bad_part, missing_part, none_gathered, with_table_part}
use Rattle.mesh_model.specs.Tables.Judging.{Carried, InFull, InPart, InChanges, announcement_row, answer_row}
use Rattle.mesh_model.specs.Tables.Known.{Known, TableCall, TableCalls, Announced, Answered, Dropped, agrees, answered, is_agreed, known_by, stamp_of}
use Rattle.mesh_model.specs.Tables.Pieces.{most_pieces}
use Rattle.mesh_model.specs.Tables.Strict.{apply_strictly}
use Rattle.mesh_model.specs.Tables.Sums.{checksums, sum_at}
use Rattle.mesh_model.specs.Tables.Versions.{Stamp, Version, next_byte}
use Rattle.mesh_laws.specs.Machine.Pieces.{put_together}

-- ---- differences and agreement
-- no difference is found exactly where each VLAN has one checksum in both lists
abbrev pub FindsEachDifference : Type 0
FindsEachDifference = (kept told : List VlanSum) →
    (first_difference kept told ≡ None) ↔ (sum_at kept ≡ sum_at told)

-- a VLAN at which two lists differ, with both checksums, and the least such
pub record IsLeastDifference (kept told : List VlanSum) (difference : Difference) : Type 0 where
  pub kept_is : difference.kept ≡ sum_at kept difference.vid
  pub told_is : difference.told ≡ sum_at told difference.vid
  pub differs : difference.kept ≢ difference.told
  pub least : (vid : Vid) → vid.0 < difference.vid.0 → sum_at kept vid ≡ sum_at told vid

-- a difference that is found is the least
abbrev pub FindsLeastDifference : Type 0
FindsLeastDifference = (kept told : List VlanSum) (difference : Difference) →
    first_difference kept told ≡ Some difference → IsLeastDifference kept told difference

-- what is held agrees exactly where its byte and its checksums are the told ones
abbrev pub AgreesByChecksums : Type 0
AgreesByChecksums = (told : Stamp) (held : Version) → IsTrue (agrees (Some told) (Some held))
    ↔ ((held.byte ≡ told.byte) × (checksums held.table ≡ sum_at told.sums))

-- ---- when what is held changes
-- whether an outcome says that another table is held
abbrev pub heard_another : Heard → Bool
heard_another Emptied = true
heard_another (Unheld told) = false
heard_another Same = false
heard_another (SumDiffers vid kept told) = false
heard_another (Gap held told) = false
heard_another (Bare held told) = false
heard_another (Clash entry) = false
heard_another Applied = true

-- an announcement changes what is held exactly where its outcome says so
abbrev pub ChangesAsHeard : Type 0
ChangesAsHeard = (held : Option Version) (stamp : Stamp) (changes : List Change) →
    is_some (announcement_row held stamp changes).table
    ≡ heard_another (announcement_row held stamp changes).outcome

-- whether an outcome says that another table is held
abbrev pub took_another : Taken → Bool
took_another (BadPart number count) = false
took_another (NotTold told wanted) = false
took_another (SumsDiffer vid kept told) = false
took_another (Part have want) = false
took_another NothingHeld = false
took_another (NotNext held told) = false
took_another (NotStrict entry) = false
took_another IsTaken = true

-- an answer changes what is held exactly where its outcome says so
abbrev pub ChangesAsTaken : Type 0
ChangesAsTaken = (told : Option Stamp) (held : Option Version) (gathered : Gathered) (stamp : Stamp)
    (carried : Carried) → is_some (answer_row told held gathered stamp carried).table
    ≡ took_another (answer_row told held gathered stamp carried).outcome

-- ---- how it changes
-- the empty table is held only where no VLAN is announced
abbrev pub IsEmptiedByNone : Type 0
IsEmptiedByNone = (held : Option Version) (stamp : Stamp) (changes : List Change) →
    (announcement_row held stamp changes).outcome ≡ Emptied →
    (stamp.sums ≡ []) × ((announcement_row held stamp changes).table ≡ Some [])

-- changes lead from a held table to the next one: the byte is the next, they apply strictly, and
-- the result has the told checksums
pub record LeadsOn (held : Option Version) (told : Stamp) (changes : List Change)
    (table : Option (List Entry)) : Type 0 where
  pub before : Version
  pub after : List Entry
  pub held_is : held ≡ Some before
  pub byte_is : told.byte ≡ next_byte before.byte
  pub applied : apply_strictly before.table changes ≡ Ok after
  pub sums_are : checksums after ≡ sum_at told.sums
  pub table_is : table ≡ Some after

-- announced changes are applied only where there are some and they lead on
abbrev pub IsAppliedOnward : Type 0
IsAppliedOnward = (held : Option Version) (stamp : Stamp) (changes : List Change) →
    (announcement_row held stamp changes).outcome ≡ Applied →
    (changes ≢ []) × LeadsOn held stamp changes (announcement_row held stamp changes).table

-- an answer has the byte and the checksums that were told
pub record IsTold (told : Option Stamp) (stamp : Stamp) (wanted : Stamp) : Type 0 where
  pub told_is : told ≡ Some wanted
  pub byte_is : wanted.byte ≡ stamp.byte
  pub sums_are : sum_at wanted.sums ≡ sum_at stamp.sums

-- changes of an answer are taken only under the told byte and checksums, and where they lead on
abbrev pub IsTakenOnward : Type 0
IsTakenOnward = (told : Option Stamp) (held : Option Version) (gathered : Gathered) (stamp : Stamp)
    (records : List Change) →
    (answer_row told held gathered stamp (InChanges records)).outcome ≡ IsTaken →
    (wanted : Stamp) × IsTold told stamp wanted
    × LeadsOn held wanted records (answer_row told held gathered stamp (InChanges records)).table

-- records make a whole table with the told checksums
pub record MakeWhole (told : Stamp) (records : List Change) (table : Option (List Entry))
    : Type 0 where
  pub whole : List Entry
  pub applied : apply_strictly [] records ≡ Ok whole
  pub sums_are : checksums whole ≡ sum_at told.sums
  pub table_is : table ≡ Some whole

-- a full answer is taken only under the told byte and checksums, and where it makes a whole table
abbrev pub IsTakenWhole : Type 0
IsTakenWhole = (told : Option Stamp) (held : Option Version) (gathered : Gathered) (stamp : Stamp)
    (records : List Change) →
    (answer_row told held gathered stamp (InFull records)).outcome ≡ IsTaken →
    (wanted : Stamp) × IsTold told stamp wanted
    × MakeWhole wanted records (answer_row told held gathered stamp (InFull records)).table

-- parts that are gathered make a whole table with the told checksums: none is missing, and their
-- records in order make it
pub record ComeTogether (told : Option Stamp) (stamp : Stamp) (gathered : Gathered)
    (table : Option (List Entry)) : Type 0 where
  pub wanted : Stamp
  pub is_told : IsTold told stamp wanted
  pub complete : missing_part gathered ≡ None
  pub make : MakeWhole wanted (gathered_records gathered) table

-- a part is taken only where its number can be, under the told byte and checksums, and where with
-- those that are gathered it makes a whole table
abbrev pub IsTakenInParts : Type 0
IsTakenInParts = (told : Option Stamp) (held : Option Version) (gathered : Gathered) (stamp : Stamp)
    (number count : ℕ) (records : List Change) →
    (answer_row told held gathered stamp (InPart number count records)).outcome ≡ IsTaken →
    (is_bad_part number count ≡ false)
    × ComeTogether told stamp (with_table_part number count records gathered)
    (answer_row told held gathered stamp (InPart number count records)).table

-- ---- the right answer is taken
-- no two entries have one key
abbrev pub HaveDistinctKeys : List Entry → Type 0
HaveDistinctKeys entries = IsDistinct same_key (map (λ entry. entry.key) entries)

-- an answer in full has the byte and the checksums that were told, and its records are additions of
-- distinct keys that have those checksums
pub record IsToldWhole (told : Option Stamp) (stamp : Stamp) (records : List Change) : Type 0 where
  pub wanted : Stamp
  pub entries : List Entry
  pub is_told : IsTold told stamp wanted
  pub records_are : records ≡ map addition entries
  pub distinct : HaveDistinctKeys entries
  pub sums_are : checksums entries ≡ sum_at wanted.sums

-- such an answer is taken, whatever is held, and what is known agrees then
abbrev pub FullAnswerIsTaken : Type 0
FullAnswerIsTaken = (known : Known) (stamp : Stamp) (records : List Change) →
    IsToldWhole (stamp_of known) stamp records →
    ((answer_row (stamp_of known) known.held known.gathered stamp (InFull records)).outcome
    ≡ IsTaken)
    × IsTrue (is_agreed (answered stamp (InFull records) known))

-- ---- the right parts are taken
-- parts of the whole table that was told, so many, by number: their records in order are additions
-- of distinct keys that have the told checksums
pub record ArePartsOf (wanted : Stamp) (count : ℕ) (parts : ℕ → List Change) : Type 0 where
  pub entries : List Entry
  pub some : 0 < count
  pub few : count ≤ most_pieces
  pub records_are : put_together count parts ≡ map addition entries
  pub distinct : HaveDistinctKeys entries
  pub sums_are : checksums entries ≡ sum_at wanted.sums

-- an answer for an originator carries one of these parts, if it carries a part
abbrev pub CarriesPart : Stamp → ℕ → (ℕ → List Change) → Stamp → Carried → Type 0
CarriesPart wanted count parts stamp (InFull records) = ⊤
CarriesPart wanted count parts stamp (InPart number of_many records) =
    (wanted.byte ≡ stamp.byte) × (sum_at wanted.sums ≡ sum_at stamp.sums)
    × (of_many ≡ count) × (number < count) × (records ≡ parts number)
CarriesPart wanted count parts stamp (InChanges records) = ⊤

-- what came, if it came for this originator, is one of these parts, or an answer that isn't a part
abbrev pub IsOneOfParts : Mac → Stamp → ℕ → (ℕ → List Change) → TableCall → Type 0
IsOneOfParts orig wanted count parts (Announced for frame stamp changes) =
    same_mac for orig ≡ false
IsOneOfParts orig wanted count parts (Answered for stamp carried) =
    IsTrue (same_mac for orig) → CarriesPart wanted count parts stamp carried
IsOneOfParts orig wanted count parts (Dropped for) = same_mac for orig ≡ false

-- whether an answer carries the part of a number
abbrev pub carries_number : ℕ → Carried → Bool
carries_number number (InFull records) = false
carries_number number (InPart other count records) = number == other
carries_number number (InChanges records) = false

-- whether what came brought the part of a number for an originator
abbrev pub brings : Mac → ℕ → TableCall → Bool
brings orig number (Announced for frame stamp changes) = false
brings orig number (Answered for stamp carried) =
    same_mac for orig && carries_number number carried
brings orig number (Dropped for) = false

-- whether the part of a number is among what came for an originator
abbrev pub has_come : Mac → ℕ → TableCalls → Bool
has_come orig number calls = list_any (brings orig number) calls

-- a part, by its number, is the last one that was missing, after what came since no part was there
pub record IsLastPart (orig : Mac) (before came : TableCalls) (wanted stamp : Stamp)
    (count number : ℕ) (parts : ℕ → List Change) : Type 0 where
  -- before that the table was told, and no part was there
  pub is_told : IsTold (stamp_of (known_by before orig)) stamp wanted
  pub none_kept : (known_by before orig).gathered ≡ none_gathered
  -- what came since are these parts, in any order and some more than once
  pub others_are : AllByRecursion (IsOneOfParts orig wanted count parts) came
  -- this one isn't among them
  pub below : number < count
  pub missing : has_come orig number came ≡ false
  -- and each other is
  pub last : (other : ℕ) → other < count → (other ≡ number) ⊎ (has_come orig other came ≡ true)

-- the part of a number comes, of so many, under a byte and sums
abbrev pub part_comes : Mac → Stamp → ℕ → ℕ → (ℕ → List Change) → TableCall
part_comes orig stamp count number parts =
    Answered orig stamp (InPart number count (parts number))

-- the last part that was missing is taken, whatever is held, and what is known agrees then
abbrev pub PartsAreTaken : Type 0
PartsAreTaken = (orig : Mac) (before came : TableCalls) (wanted stamp : Stamp) (count number : ℕ)
    (parts : ℕ → List Change) → ArePartsOf wanted count parts →
    IsLastPart orig before came wanted stamp count number parts →
    ((answer_row (stamp_of (known_by (came ++ before) orig))
    (known_by (came ++ before) orig).held (known_by (came ++ before) orig).gathered stamp
    (InPart number count (parts number))).outcome ≡ IsTaken)
    × IsTrue (is_agreed
    (known_by (part_comes orig stamp count number parts ∷ came ++ before) orig))
