-- What is kept of an originator, as the definitions see it: what was told, what is held and what is
-- gathered. No public clause cites this file but for `stamp` and `stamp_in`.
use Rattle.std.specs.Prelude.{◌≡◌, ℕ, false, List, Option, Some, None, IsSome, option_map, if◌then◌else◌}
use Rattle.std.specs.List.Sorted.{IsStrictlySortedBy}
use Rattle.std.specs.Map.{keys_of, lookup}
use Rattle.mesh_base.specs.declared.address.Mac.{Mac}
use Rattle.mesh_base.specs.declared.client.Entry.{Entry}
use Rattle.mesh_model.specs.Routes.Addresses.{insert_mac, mac_order, same_mac}
use Rattle.mesh_model.specs.declared.table_change.Change.{Change}
use Rattle.mesh_model.specs.declared.table_row.GlobalRow.{GlobalRow}
use Rattle.mesh_model.specs.declared.table_outcome.Heard.{Heard}
use Rattle.mesh_model.specs.declared.table_outcome.Taken.{Taken}
use Rattle.mesh_model.specs.Tables.Gathered.{Gathered, none_gathered}
use Rattle.mesh_model.specs.Tables.Judging.{Carried, Row, Trial, Fails, Differs, Leads, announcement_row, answer_row, good_row}
use Rattle.mesh_model.specs.Tables.Known.{agrees, held_after, kept_under}
use Rattle.mesh_model.specs.Tables.Versions.{Stamp, Version}
use Rattle.tt_global.specs.declared.judging.Judged.{Judged}
use Rattle.tt_global.specs.declared.judging.Parts.{Parts}
use Rattle.tt_global.specs.declared.judging.Parts.TheVariants as becomes
use Rattle.tt_global.specs.declared.judging.Trial.{Trial as TableTrial}
use Rattle.tt_global.specs.declared.judging.Trial.TheVariants as tried
use Rattle.tt_global.specs.declared.known.HeldTable.{HeldTable}
use Rattle.tt_global.specs.declared.known.KnownTable.{KnownTable}
use Rattle.tt_table.specs.Sums.{SumsView, named_sums}
use Rattle.tt_table.specs.declared.announcement.Announcement.{Announcement}

-- a byte and sums
abbrev pub stamp : ℕ → SumsView → Stamp
stamp byte sums = record { byte = byte; sums = named_sums sums }

-- the byte and the sums of an announcement
abbrev pub stamp_in : Announcement → Stamp
stamp_in announced = stamp announced.byte announced.sums

-- a table under a byte
abbrev pub version_of : HeldTable → Version
version_of held = record { byte = held.byte; table = held.table.entries }

-- what was told, where something is kept
abbrev pub told_in : Option KnownTable → Option Stamp
told_in None = None
told_in (Some known) = Some (stamp known.byte known.sums)

-- what is held, where something is
abbrev pub held_in : Option KnownTable → Option Version
held_in None = None
held_in (Some known) = option_map version_of known.held

-- the parts that are gathered
abbrev pub gathered_in : Option KnownTable → Gathered
gathered_in None = none_gathered
gathered_in (Some known) = known.gathered

-- an originator's row, by what is kept
abbrev pub kept_row : Mac → KnownTable → GlobalRow
kept_row orig known = record {
  orig = orig;
  held = option_map (λ held. held.byte) known.held;
  told = known.byte;
  ok = agrees (told_in (Some known)) (held_in (Some known));
}

-- the byte of what is held, where it agrees with what was told
abbrev pub agreed_in : Option KnownTable → Option ℕ
agreed_in kept = if agrees (told_in kept) (held_in kept)
    then option_map (λ held. held.byte) (held_in kept) else None

-- what an announcement makes of what is kept of an originator
abbrev pub announcement_of : Option KnownTable → Stamp → List Change → Row Heard
announcement_of kept stamp changes = announcement_row (held_in kept) stamp changes

-- what an answer makes of what is kept of an originator
abbrev pub answer_of : Option KnownTable → Stamp → Carried → Row Taken
answer_of kept stamp carried =
    answer_row (told_in kept) (held_in kept) (gathered_in kept) stamp carried

-- the same, where the answer is no bad part
abbrev pub good_of : Option KnownTable → Stamp → Carried → Row Taken
good_of kept stamp carried =
    good_row (told_in kept) (held_in kept) (gathered_in kept) stamp carried

-- what is gathered then, from what was before and what is with the part that came
abbrev pub parts_then : Parts → Gathered → Gathered → Gathered
parts_then becomes.Stay before with_it = before
parts_then becomes.Grow before with_it = with_it
parts_then becomes.End before with_it = none_gathered

-- parts are gathered of what is kept, or are dropped, only where something is kept
abbrev pub GathersBy : Parts → Option KnownTable → Gathered → Gathered → Type 0
GathersBy becomes.Stay kept with_it gathered = gathered ≡ gathered_in kept
GathersBy becomes.Grow kept with_it gathered = IsSome kept × (gathered ≡ with_it)
GathersBy becomes.End kept with_it gathered = IsSome kept × (gathered ≡ none_gathered)

-- an outcome with its table
abbrev pub row_in : {T : Type 0} → Judged T → Row T
row_in judged = record {
  outcome = judged.outcome;
  table = option_map (λ table. table.entries) judged.table;
}

-- how changes did on a table
abbrev pub trial_in : TableTrial → Trial
trial_in (tried.Fails entry) = Fails entry
trial_in (tried.Differs difference) = Differs difference
trial_in (tried.Leads table) = Leads table.entries

-- what is kept of an originator becomes this by an announcement
pub record IsAnnounced (stamp : Stamp) (changes : List Change) (before after : Option KnownTable)
    : Type 0 where
  pub told_is : told_in after ≡ Some stamp
  pub held_is : held_in after
      ≡ held_after stamp.byte (announcement_of before stamp changes).table (held_in before)
  pub gathered_is : gathered_in after ≡ kept_under (told_in before) stamp (gathered_in before)

-- what is kept of one originator becomes what an announcement makes of it, and all else is as before
pub record Announces (orig : Mac) (stamp : Stamp) (changes : List Change)
    (old new : List (Mac × KnownTable)) : Type 0 where
  pub row_is :
      IsAnnounced stamp changes (lookup (same_mac orig) old) (lookup (same_mac orig) new)
  pub others_stay : (other : Mac) → same_mac orig other ≡ false →
      lookup (same_mac other) new ≡ lookup (same_mac other) old
  pub keys_are : IsStrictlySortedBy mac_order (keys_of old) →
      keys_of new ≡ insert_mac orig (keys_of old)
  pub rise : IsStrictlySortedBy mac_order (keys_of old) →
      IsStrictlySortedBy mac_order (keys_of new)

-- of one originator this is held, and all else is as before
pub record IsHeld (orig : Mac) (version : Version) (old new : List (Mac × KnownTable))
    : Type 0 where
  pub told_stays : (other : Mac) →
      told_in (lookup (same_mac other) new) ≡ told_in (lookup (same_mac other) old)
  pub held_is : (other : Mac) → held_in (lookup (same_mac other) new)
      ≡ (if same_mac orig other then Some version else held_in (lookup (same_mac other) old))
  pub gathered_stays : (other : Mac) →
      gathered_in (lookup (same_mac other) new) ≡ gathered_in (lookup (same_mac other) old)
  pub keys_stay : keys_of new ≡ keys_of old

-- of one originator of which something is kept a table, if one came, is held under a byte, and all
-- else is as before
abbrev pub HoldsThen : Mac → ℕ → Option (List Entry) → List (Mac × KnownTable)
    → List (Mac × KnownTable) → Type 0
HoldsThen orig byte None old new = new ≡ old
HoldsThen orig byte (Some table) old new = IsSome (lookup (same_mac orig) old) →
    IsHeld orig (record { byte = byte; table = table }) old new

-- of one originator these parts are gathered, and all else is as before
pub record IsGathered (orig : Mac) (gathered : Gathered) (old new : List (Mac × KnownTable))
    : Type 0 where
  pub told_stays : (other : Mac) →
      told_in (lookup (same_mac other) new) ≡ told_in (lookup (same_mac other) old)
  pub held_stays : (other : Mac) →
      held_in (lookup (same_mac other) new) ≡ held_in (lookup (same_mac other) old)
  pub gathered_is : (other : Mac) → gathered_in (lookup (same_mac other) new)
      ≡ (if same_mac orig other then gathered else gathered_in (lookup (same_mac other) old))
  pub keys_stay : keys_of new ≡ keys_of old

-- the same, where something is kept of the originator
abbrev pub GathersThen : Mac → Gathered → List (Mac × KnownTable) → List (Mac × KnownTable)
    → Type 0
GathersThen orig gathered old new =
    IsSome (lookup (same_mac orig) old) → IsGathered orig gathered old new

-- what the parts of one originator become, so many being there with the one that came
abbrev pub GathersAs : Parts → Mac → Gathered → List (Mac × KnownTable) → List (Mac × KnownTable)
    → Type 0
GathersAs becomes.Stay orig with_it old new = new ≡ old
GathersAs becomes.Grow orig with_it old new = GathersThen orig with_it old new
GathersAs becomes.End orig with_it old new = GathersThen orig none_gathered old new
