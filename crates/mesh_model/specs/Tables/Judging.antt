-- What an announcement or an answer makes of the table that is held: its outcome and, where another
-- table is held then, that table, both in one value, so that neither can be without the other. The
-- first case that applies decides. A part of a full answer waits for those that are missing; with
-- the last one it is as though all their records had come at once. The main words are
-- `announcement_row` and `answer_row`;
-- `wanted_request` is what a node asks for after an announcement.
use Rattle.std.specs.Prelude.{ℕ, ◌==◌, List, [], ◌∷◌, Option, Some, None, Result, Ok, Err, if◌then◌else◌}
use Rattle.mesh_base.specs.declared.client.Entry.{Entry}
use Rattle.mesh_model.specs.Packets.Bodies.{VlanSum}
use Rattle.mesh_model.specs.declared.table_change.Change.{Change}
use Rattle.mesh_model.specs.declared.table_outcome.Difference.{Difference}
use Rattle.mesh_model.specs.declared.table_outcome.Heard.{Heard}
use Rattle.mesh_model.specs.declared.table_outcome.Heard.TheVariants.{Emptied, Unheld, Same, SumDiffers, Gap, Bare, Clash, Applied}
use Rattle.mesh_model.specs.declared.table_outcome.Request.{Request}
use Rattle.mesh_model.specs.declared.table_outcome.Request.TheVariants.{Full, Changes}
use Rattle.mesh_model.specs.declared.table_outcome.Taken.{Taken}
use Rattle.mesh_model.specs.declared.table_outcome.Taken.TheVariants.{BadPart, NotTold, SumDiffers as SumsDiffer, Part, Unheld as NothingHeld, Gap as NotNext, Clash as NotStrict, Taken as IsTaken}
use Rattle.mesh_model.specs.Tables.Differences.{first_difference}
use Rattle.mesh_model.specs.Tables.Gathered.{Gathered, gathered_count, gathered_records, is_bad_part, missing_part, with_table_part}
use Rattle.mesh_model.specs.Tables.Strict.{apply_strictly}
use Rattle.mesh_model.specs.Tables.Sums.{sums_of}
use Rattle.mesh_model.specs.Tables.Versions.{Version, Stamp, next_byte}

-- an outcome, and the table that is held then where it is another than before
pub record Row (Outcome : Type 0) : Type 0 where
  pub outcome : Outcome
  pub table : Option (List Entry)

-- the table stays as it was
abbrev pub stays : {Outcome : Type 0} → Outcome → Row Outcome
stays outcome = record { outcome = outcome; table = None }

-- this table is held
abbrev pub becomes : {Outcome : Type 0} → Outcome → List Entry → Row Outcome
becomes outcome table = record { outcome = outcome; table = Some table }

-- how changes do on a table, where the sums of the result are told: the first that fails has this
-- entry; the result's sums differ; or they lead to this table
pub data Trial : Type 0 where
  Fails : (entry : Entry) → Trial
  Differs : (difference : Difference) → Trial
  Leads : (table : List Entry) → Trial

-- a table, unless its sums differ from the told ones
abbrev pub unless_differs : Option Difference → List Entry → Trial
unless_differs None table = Leads table
unless_differs (Some difference) table = Differs difference

-- what strict application gave, beside the told sums
abbrev pub trial_of : List VlanSum → Result (List Entry) Change → Trial
trial_of told (Ok table) = unless_differs (first_difference (sums_of table) told) table
trial_of told (Err change) = Fails change.entry

-- changes are tried on a table, and their result is compared with the told sums
abbrev pub trial : List Entry → List Change → List VlanSum → Trial
trial table changes told = trial_of told (apply_strictly table changes)

-- ---- announcements
-- the byte is the next, and changes came
abbrev pub heard_trial : Trial → Row Heard
heard_trial (Fails entry) = stays (Clash entry)
heard_trial (Differs difference) =
    stays (SumDiffers difference.vid difference.kept difference.told)
heard_trial (Leads table) = becomes Applied table

-- the byte is the held one
abbrev pub same_byte_row : Option Difference → Row Heard
same_byte_row None = stays Same
same_byte_row (Some difference) =
    stays (SumDiffers difference.vid difference.kept difference.told)

-- the byte is the next
abbrev pub next_byte_row : Version → Stamp → List Change → Row Heard
next_byte_row held stamp [] = stays (Bare held.byte stamp.byte)
next_byte_row held stamp (change ∷ changes) =
    heard_trial (trial held.table (change ∷ changes) stamp.sums)

-- a table is held
abbrev pub held_row : Version → Stamp → List Change → Row Heard
held_row held stamp changes =
    if held.byte == stamp.byte then same_byte_row (first_difference (sums_of held.table) stamp.sums)
    else if next_byte held.byte == stamp.byte then next_byte_row held stamp changes
    else stays (Gap held.byte stamp.byte)

-- VLANs are announced
abbrev pub named_row : Option Version → Stamp → List Change → Row Heard
named_row None stamp changes = stays (Unheld stamp.byte)
named_row (Some held) stamp changes = held_row held stamp changes

-- the same by the VLANs that are announced: where there is none, the empty table is held
abbrev pub row_by_vlans : List VlanSum → Row Heard → Row Heard
row_by_vlans [] named = becomes Emptied []
row_by_vlans (first ∷ others) named = named

-- what an announcement with these changes, or with none, makes of what is held
abbrev pub announcement_row : Option Version → Stamp → List Change → Row Heard
announcement_row held stamp changes = row_by_vlans stamp.sums (named_row held stamp changes)

-- what a node asks for after an announcement
abbrev pub wanted_request : Heard → Option Request
wanted_request Emptied = None
wanted_request (Unheld told) = Some Full
wanted_request Same = None
wanted_request (SumDiffers vid kept told) = Some Full
wanted_request (Gap held told) = Some Full
wanted_request (Bare held told) = Some Changes
wanted_request (Clash entry) = Some Full
wanted_request Applied = None

-- ---- answers
-- what an answer carries: a whole table, as additions; a part of one, by its number, of so many; or
-- changes
pub data Carried : Type 0 where
  InFull : (records : List Change) → Carried
  InPart : (number count : ℕ) → (records : List Change) → Carried
  InChanges : (records : List Change) → Carried

-- the records are tried
abbrev pub taken_trial : Trial → Row Taken
taken_trial (Fails entry) = stays (NotStrict entry)
taken_trial (Differs difference) =
    stays (SumsDiffer difference.vid difference.kept difference.told)
taken_trial (Leads table) = becomes IsTaken table

-- what is gathered is tried, unless a part is missing
abbrev pub unless_missing : Option ℕ → Stamp → Gathered → Row Taken
unless_missing None told gathered =
    taken_trial (trial [] (gathered_records gathered) told.sums)
unless_missing (Some want) told gathered = stays (Part (gathered_count gathered) want)

-- a part came, and this is gathered with it
abbrev pub part_row : Stamp → Gathered → Row Taken
part_row told gathered = unless_missing (missing_part gathered) told gathered

-- changes came
abbrev pub changes_row : Option Version → Stamp → List Change → Row Taken
changes_row None told records = stays NothingHeld
changes_row (Some held) told records =
    if next_byte held.byte == told.byte then taken_trial (trial held.table records told.sums)
    else stays (NotNext held.byte told.byte)

-- the answer has the announced byte and sums
abbrev pub carried_row : Option Version → Gathered → Stamp → Carried → Row Taken
carried_row held gathered told (InFull records) = taken_trial (trial [] records told.sums)
carried_row held gathered told (InPart number count records) =
    part_row told (with_table_part number count records gathered)
carried_row held gathered told (InChanges records) = changes_row held told records

-- the same, unless a carried sum differs from the announced one
abbrev pub unless_carried_differs : Option Difference → Row Taken → Row Taken
unless_carried_differs None row = row
unless_carried_differs (Some difference) row =
    stays (SumsDiffer difference.vid difference.kept difference.told)

-- something was announced
abbrev pub told_row : Stamp → Option Version → Gathered → Stamp → Carried → Row Taken
told_row told held gathered stamp carried =
    if told.byte == stamp.byte then unless_carried_differs
    (first_difference told.sums stamp.sums) (carried_row held gathered told carried)
    else stays (NotTold stamp.byte (Some told.byte))

-- the answer is no bad part
abbrev pub good_row : Option Stamp → Option Version → Gathered → Stamp → Carried → Row Taken
good_row None held gathered stamp carried = stays (NotTold stamp.byte None)
good_row (Some told) held gathered stamp carried = told_row told held gathered stamp carried

-- the same, unless the answer is a bad part
abbrev pub unless_bad_part : Carried → Row Taken → Row Taken
unless_bad_part (InFull records) row = row
unless_bad_part (InPart number count records) row =
    if is_bad_part number count then stays (BadPart number count) else row
unless_bad_part (InChanges records) row = row

-- what an answer makes of what was told, what is held and what is gathered
abbrev pub answer_row : Option Stamp → Option Version → Gathered → Stamp → Carried → Row Taken
answer_row told held gathered stamp carried =
    unless_bad_part carried (good_row told held gathered stamp carried)
