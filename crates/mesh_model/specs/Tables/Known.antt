-- What a node knows of an originator's table: what was announced last, what is held, and the parts of
-- a full answer that are gathered. An announcement and an answer each change it by one step; a life
-- of the originator that ends drops all of it. Parts are gathered under one byte and sums that were
-- told, and until none is missing. It is asked of the list of all that came, newest first. The main
-- words are `known_by` and `is_agreed`; `originators_by` are the originators of which something was
-- announced.
use Rattle.std.specs.Prelude.{ℕ, ◌==◌, ◌&&◌, Bool, false, not, List, [], ◌∷◌, filter, Option, Some, None, option_map, is_none, is_some, if◌then◌else◌}
use Rattle.mesh_base.specs.declared.address.Mac.{Mac}
use Rattle.mesh_base.specs.declared.client.Entry.{Entry}
use Rattle.mesh_base.specs.declared.client.Key.{Key}
use Rattle.mesh_model.specs.declared.table_change.Change.{Change}
use Rattle.mesh_model.specs.declared.table_row.GlobalRow.{GlobalRow}
use Rattle.mesh_model.specs.Routes.Addresses.{insert_mac, same_mac}
use Rattle.mesh_model.specs.Tables.Changes.{flags_at}
use Rattle.mesh_model.specs.Tables.Differences.{first_difference}
use Rattle.mesh_model.specs.Tables.Gathered.{Gathered, is_bad_part, missing_part, none_gathered, with_table_part}
use Rattle.mesh_model.specs.Tables.Judging.{Carried, InFull, InPart, InChanges, announcement_row, answer_row}
use Rattle.mesh_model.specs.Tables.Sums.{sums_of}
use Rattle.mesh_model.specs.Tables.Versions.{Version, Stamp}

-- what was announced last, and the number of the frame that brought it
pub record LastTold : Type 0 where
  pub frame : ℕ
  pub stamp : Stamp

-- what was told and what is held, each of them or none, and the parts that are gathered
pub record Known : Type 0 where
  pub told : Option LastTold
  pub held : Option Version
  pub gathered : Gathered

-- nothing was told, nothing is held and nothing is gathered
abbrev pub nothing : Known
nothing = record { told = None; held = None; gathered = none_gathered }

-- what was told, without its frame
abbrev pub stamp_of : Known → Option Stamp
stamp_of known = option_map (λ told. told.stamp) known.told

-- what is held once a table, if any, came under a byte
abbrev pub held_after : ℕ → Option (List Entry) → Option Version → Option Version
held_after byte None held = held
held_after byte (Some table) held = Some (record { byte = byte; table = table })

-- whether a byte and sums are those that were told
abbrev pub matches_told : Option Stamp → Stamp → Bool
matches_told None stamp = false
matches_told (Some told) stamp = (told.byte == stamp.byte)
    && is_none (first_difference told.sums stamp.sums)

-- what is gathered once this byte and these sums are told
abbrev pub kept_under : Option Stamp → Stamp → Gathered → Gathered
kept_under told stamp gathered = if matches_told told stamp then gathered else none_gathered

-- a frame brought an announcement with these changes, or with none
abbrev pub announced : ℕ → Stamp → List Change → Known → Known
announced frame stamp changes known = record {
  told = Some (record { frame = frame; stamp = stamp });
  held = held_after stamp.byte (announcement_row known.held stamp changes).table known.held;
  gathered = kept_under (stamp_of known) stamp known.gathered;
}

-- what is gathered, while a part is missing
abbrev pub while_missing : Gathered → Gathered
while_missing gathered = if is_some (missing_part gathered) then gathered else none_gathered

-- what is gathered once an answer came under the told byte and sums that carries this
abbrev pub gathered_from : Carried → Gathered → Gathered
gathered_from (InFull records) before = before
gathered_from (InPart number count records) before = if is_bad_part number count then before
    else while_missing (with_table_part number count records before)
gathered_from (InChanges records) before = before

-- what is gathered once an answer came, by what was told
abbrev pub gathered_after : Option Stamp → Stamp → Carried → Gathered → Gathered
gathered_after told stamp carried before =
    if matches_told told stamp then gathered_from carried before else before

-- an answer came
abbrev pub answered : Stamp → Carried → Known → Known
answered stamp carried known = record {
  told = known.told;
  held = held_after stamp.byte
      (answer_row (stamp_of known) known.held known.gathered stamp carried).table known.held;
  gathered = gathered_after (stamp_of known) stamp carried known.gathered;
}

-- whether what is held has the told byte and sums
abbrev pub agrees : Option Stamp → Option Version → Bool
agrees None held = false
agrees (Some told) None = false
agrees (Some told) (Some held) = (held.byte == told.byte)
    && is_none (first_difference (sums_of held.table) told.sums)

-- whether what is known of an originator is in agreement: it is printed `ok`
abbrev pub is_agreed : Known → Bool
is_agreed known = agrees (stamp_of known) known.held

-- whether a client is in the table that is held, if any
abbrev pub names : Key → Option Version → Bool
names key None = false
names key (Some held) = is_some (flags_at held.table key)

-- what came for an originator: an announcement, by a frame of this number; an answer; or its life
-- ended
pub data TableCall : Type 0 where
  Announced : (orig : Mac) → (frame : ℕ) → (stamp : Stamp) → (changes : List Change) → TableCall
  Answered : (orig : Mac) → (stamp : Stamp) → (carried : Carried) → TableCall
  Dropped : (orig : Mac) → TableCall

-- all that came, newest first
abbrev pub TableCalls : Type 0
TableCalls = List TableCall

-- what is known of an originator once something came, from what was known before
abbrev pub next_known : TableCall → Mac → Known → Known
next_known (Announced for frame stamp changes) orig before =
    if same_mac for orig then announced frame stamp changes before else before
next_known (Answered for stamp carried) orig before =
    if same_mac for orig then answered stamp carried before else before
next_known (Dropped for) orig before = if same_mac for orig then nothing else before

-- what is known of an originator
abbrev pub known_by : TableCalls → Mac → Known
known_by [] orig = nothing
known_by (call ∷ older) orig = next_known call orig (known_by older orig)

-- the originators of which something was announced once something came, by address
abbrev pub next_originators : TableCall → List Mac → List Mac
next_originators (Announced orig frame stamp changes) before = insert_mac orig before
next_originators (Answered orig stamp carried) before = before
next_originators (Dropped orig) before = filter (λ other. not (same_mac orig other)) before

-- the originators of which something was announced in a life that hasn't ended, by address
abbrev pub originators_by : TableCalls → List Mac
originators_by [] = []
originators_by (call ∷ older) = next_originators call (originators_by older)

-- the originators whose held tables have a client, by address
abbrev pub holders_by : TableCalls → Key → List Mac
holders_by calls key = filter (λ orig. names key (known_by calls orig).held) (originators_by calls)

-- an originator's row, where something was told
abbrev pub global_row : Mac → Known → Option GlobalRow
global_row orig known = option_map (λ stamp. record {
  orig = orig;
  held = option_map (λ held. held.byte) known.held;
  told = stamp.byte;
  ok = is_agreed known;
}) (stamp_of known)
