-- When what is held changes, how, and that the right answer is taken.
use Rattle.std.proofs.Common.{◌≡◌, ◌≢◌, ℕ, Ordering, arith, ok_or, option_map, Bool, true, false, cond, nat_eq, List, [], ◌∷◌, ◌++◌, map, Option, Some, None, is_some, Result, Ok, Err, is_eq, refl, sym, ap, ap₂, ◌∙◌, subst, Less, Equal, Greater}
use Rattle.std.proofs.Math.Path.{fun_ext}
use Rattle.std.specs.List.{AllByRecursion, IsDistinct}
use Rattle.std.specs.Ordering.{match_ordering}
use Rattle.std.specs.Int.Bits.{xor_zero_l}
use Rattle.std.proofs.lemmas.Bool.{false≢true, eq-eqb}
use Rattle.std.proofs.lemmas.Bool.Decides.{nat_tests}
use Rattle.mesh_base.specs.KeyOrder.{key_order}
use Rattle.mesh_base.specs.declared.client.Entry.{Entry}
use Rattle.mesh_base.specs.declared.client.Key.{Key}
use Rattle.mesh_model.specs.Clients.Present.{same_key}
use Rattle.mesh_model.specs.Packets.Bodies.{VlanSum}
use Rattle.mesh_model.specs.declared.table_change.Change.{Change}
use Rattle.mesh_model.specs.declared.table_outcome.Difference.{Difference}
use Rattle.mesh_model.specs.declared.table_outcome.Heard.{Heard}
use Rattle.mesh_model.specs.declared.table_outcome.Heard.TheVariants.{Emptied, Unheld, Same, SumDiffers, Gap, Bare, Clash, Applied}
use Rattle.mesh_model.specs.declared.table_outcome.Taken.{Taken}
use Rattle.mesh_model.specs.declared.table_outcome.Taken.TheVariants.{BadPart, NotTold, Gap as NotNext, Taken as IsTaken}
use Rattle.mesh_model.specs.Tables.Changes.{addition, changed_entries}
use Rattle.mesh_model.specs.Tables.Differences.{first_difference}
use Rattle.mesh_model.specs.Tables.Gathered.{Gathered, gathered_records, is_bad_part, missing_part, with_table_part}
use Rattle.mesh_model.specs.Tables.Judging.{Carried, Fails, Differs, InChanges, InFull, InPart, Leads, Row, Trial, answer_row, becomes, carried_row, changes_row, good_row, heard_trial, named_row, next_byte_row, row_by_vlans, same_byte_row, stays, taken_trial, trial, trial_of, unless_bad_part, unless_carried_differs, unless_differs, unless_missing}
use Rattle.mesh_model.specs.Tables.Known.{agrees, held_after, stamp_of}
use Rattle.mesh_model.specs.Tables.Strict.{and_then, apply_strictly, change_each, with_entry}
use Rattle.mesh_model.specs.Tables.Sums.{checksums, sum_at, sums_of}
use Rattle.mesh_model.specs.Tables.Versions.{Stamp, Version, next_byte}
use Rattle.mesh_laws.specs.KnownLaws.{ChangesAsHeard, ChangesAsTaken, ComeTogether, FullAnswerIsTaken, HaveDistinctKeys, IsAppliedOnward, IsEmptiedByNone, IsTakenInParts, IsTakenOnward, IsTakenWhole, IsTold, LeadsOn, MakeWhole, heard_another, took_another}
use Rattle.mesh_laws.proofs.AnnouncedSums.{announces_checksums}
use Rattle.mesh_laws.proofs.AscendingKeys.{swap_test}
use Rattle.mesh_laws.proofs.DifferenceLemmas.{agrees_by_checksums, finds_each_difference}
use Rattle.mesh_laws.proofs.PresentLemmas.{key_exact, key_total}
use Rattle.mesh_laws.proofs.TableChanges.{first_half, second_half}
use Rattle.mesh_laws.proofs.TableSums.{checksums_xored}

-- ---- when what is held changes
abbrev SaysHeard : Row Heard → Type 0
SaysHeard row = is_some row.table ≡ heard_another row.outcome

heard_says : (tried : Trial) → SaysHeard (heard_trial tried)
heard_says (Fails entry) = refl
heard_says (Differs difference) = refl
heard_says (Leads table) = refl

same_says : (difference : Option Difference) → SaysHeard (same_byte_row difference)
same_says None = refl
same_says (Some difference) = refl

next_says : (held : Version) (stamp : Stamp) (changes : List Change) → SaysHeard (next_byte_row held stamp changes)
next_says held stamp [] = refl
next_says held stamp (change ∷ changes) = heard_says (trial held.table (change ∷ changes) stamp.sums)

named_says : (held : Option Version) (stamp : Stamp) (changes : List Change) → SaysHeard (named_row held stamp changes)
named_says None stamp changes = refl
named_says (Some held) stamp changes = go (nat_eq held.byte stamp.byte) (nat_eq (next_byte held.byte) stamp.byte)
  where
    go : (same next : Bool) → SaysHeard (cond same (same_byte_row (first_difference (sums_of held.table) stamp.sums)) (cond next (next_byte_row held stamp changes) (stays (Gap held.byte stamp.byte))))
    go true next = same_says (first_difference (sums_of held.table) stamp.sums)
    go false true = next_says held stamp changes
    go false false = refl

vlans_say : (sums : List VlanSum) (named : Row Heard) → SaysHeard named → SaysHeard (row_by_vlans sums named)
vlans_say [] named says = refl
vlans_say (first ∷ others) named says = says

pub changes_as_heard : ChangesAsHeard
changes_as_heard held stamp changes = vlans_say stamp.sums (named_row held stamp changes) (named_says held stamp changes)

abbrev SaysTaken : Row Taken → Type 0
SaysTaken row = is_some row.table ≡ took_another row.outcome

taken_says : (tried : Trial) → SaysTaken (taken_trial tried)
taken_says (Fails entry) = refl
taken_says (Differs difference) = refl
taken_says (Leads table) = refl

missing_says : (want : Option ℕ) (told : Stamp) (gathered : Gathered) → SaysTaken (unless_missing want told gathered)
missing_says None told gathered = taken_says (trial [] (gathered_records gathered) told.sums)
missing_says (Some want) told gathered = refl

carried_says : (held : Option Version) (gathered : Gathered) (told : Stamp) (carried : Carried) → SaysTaken (carried_row held gathered told carried)
carried_says held gathered told (InFull records) = taken_says (trial [] records told.sums)
carried_says held gathered told (InPart number count records) =
    missing_says (missing_part (with_table_part number count records gathered)) told (with_table_part number count records gathered)
carried_says None gathered told (InChanges records) = refl
carried_says (Some held) gathered told (InChanges records) = go (nat_eq (next_byte held.byte) told.byte)
  where
    go : (next : Bool) → SaysTaken (cond next (taken_trial (trial held.table records told.sums)) (stays (NotNext held.byte told.byte)))
    go true = taken_says (trial held.table records told.sums)
    go false = refl

unless_says : (difference : Option Difference) (row : Row Taken) → SaysTaken row → SaysTaken (unless_carried_differs difference row)
unless_says None row says = says
unless_says (Some difference) row says = refl

good_says : (told : Option Stamp) (held : Option Version) (gathered : Gathered) (stamp : Stamp) (carried : Carried) → SaysTaken (good_row told held gathered stamp carried)
good_says None held gathered stamp carried = refl
good_says (Some told) held gathered stamp carried = go (nat_eq told.byte stamp.byte)
  where
    go : (same : Bool) → SaysTaken (cond same (unless_carried_differs (first_difference told.sums stamp.sums) (carried_row held gathered told carried)) (stays (NotTold stamp.byte (Some told.byte))))
    go true = unless_says (first_difference told.sums stamp.sums) (carried_row held gathered told carried) (carried_says held gathered told carried)
    go false = refl

unless_bad_says : (carried : Carried) (row : Row Taken) → SaysTaken row → SaysTaken (unless_bad_part carried row)
unless_bad_says (InFull records) row says = says
unless_bad_says (InPart number count records) row says = go (is_bad_part number count)
  where
    go : (bad : Bool) → SaysTaken (cond bad (stays (BadPart number count)) row)
    go true = refl
    go false = says
unless_bad_says (InChanges records) row says = says

pub changes_as_taken : ChangesAsTaken
changes_as_taken told held gathered stamp carried = unless_bad_says carried (good_row told held gathered stamp carried) (good_says told held gathered stamp carried)

-- ---- how it changes
-- which outcome it is
abbrev is_emptied : Heard → Bool
is_emptied Emptied = true
is_emptied (Unheld told) = false
is_emptied Same = false
is_emptied (SumDiffers vid kept told) = false
is_emptied (Gap held told) = false
is_emptied (Bare held told) = false
is_emptied (Clash entry) = false
is_emptied Applied = false

abbrev is_applied : Heard → Bool
is_applied Emptied = false
is_applied (Unheld told) = false
is_applied Same = false
is_applied (SumDiffers vid kept told) = false
is_applied (Gap held told) = false
is_applied (Bare held told) = false
is_applied (Clash entry) = false
is_applied Applied = true

not_applied : {X : Type 0} → false ≡ true → X
not_applied e = absurd (false≢true e)

same_number : (a b : ℕ) → nat_eq a b ≡ true → a ≡ b
same_number a b t = grind (arith, nat_tests)

abbrev is_empty : {X : Type 0} → List X → Bool
is_empty [] = true
is_empty (x ∷ xs) = false

-- what changes that lead to a table say of it
record Led (before : List Entry) (changes : List Change) (told : List VlanSum) (after : List Entry) : Type 0 where
  applied : apply_strictly before changes ≡ Ok after
  sums_are : checksums after ≡ sum_at told

sums_from : (table : List Entry) (told : List VlanSum) → first_difference (sums_of table) told ≡ None → checksums table ≡ sum_at told
sums_from table told none = sym (announces_checksums table) ∙ (finds_each_difference (sums_of table) told).0 none

-- a trial that leads to a table, by what it is made of
led : {X : Type 0} (before : List Entry) (changes : List Change) (told : List VlanSum) → ((after : List Entry) → Led before changes told after → trial before changes told ≡ Leads after → X)
    → ((entry : Entry) → trial before changes told ≡ Fails entry → X) → ((difference : Difference) → trial before changes told ≡ Differs difference → X) → X
led {X} before changes told leads fails differs = go (apply_strictly before changes) refl
  where
    by_sums : (table : List Entry) → apply_strictly before changes ≡ Ok table → (d : Option Difference) → first_difference (sums_of table) told ≡ d → X
    by_sums table is None e = leads table (record { applied = is; sums_are = sums_from table told e }) (ap (trial_of told) is ∙ ap (λ d. unless_differs d table) e)
    by_sums table is (Some d) e = differs d (ap (trial_of told) is ∙ ap (λ d. unless_differs d table) e)

    go : (r : Result (List Entry) Change) → apply_strictly before changes ≡ r → X
    go (Ok table) is = by_sums table is (first_difference (sums_of table) told) refl
    go (Err change) is = fails change.entry (ap (trial_of told) is)

next_leads : (held : Version) (stamp : Stamp) (changes : List Change) → next_byte held.byte ≡ stamp.byte → (next_byte_row held stamp changes).outcome ≡ Applied
    → (changes ≢ []) × LeadsOn (Some held) stamp changes (next_byte_row held stamp changes).table
next_leads held stamp [] byte is = not_applied (ap is_applied is)
next_leads held stamp (change ∷ changes) byte is =
    led held.table (change ∷ changes) stamp.sums
    (λ after l e. (
      (λ none. absurd (false≢true (ap is_empty none))),
      record { before = held; after = after; held_is = refl; byte_is = sym byte; applied = l.applied; sums_are = l.sums_are; table_is = ap (λ t. (heard_trial t).table) e },
    ))
    (λ entry e. not_applied (sym (ap (λ t. is_applied (heard_trial t).outcome) e) ∙ ap is_applied is))
    (λ difference e. not_applied (sym (ap (λ t. is_applied (heard_trial t).outcome) e) ∙ ap is_applied is))

same_not : {X : Type 0} (difference : Option Difference) → (same_byte_row difference).outcome ≡ Applied → X
same_not None is = not_applied (ap is_applied is)
same_not (Some difference) is = not_applied (ap is_applied is)

named_leads : (held : Option Version) (stamp : Stamp) (changes : List Change) → (named_row held stamp changes).outcome ≡ Applied → (changes ≢ []) × LeadsOn held stamp changes (named_row held stamp changes).table
named_leads None stamp changes is = not_applied (ap is_applied is)
named_leads (Some held) stamp changes is = go (nat_eq held.byte stamp.byte) (nat_eq (next_byte held.byte) stamp.byte) refl is
  where
    go : (same next : Bool) → nat_eq (next_byte held.byte) stamp.byte ≡ next
        → (cond same (same_byte_row (first_difference (sums_of held.table) stamp.sums)) (cond next (next_byte_row held stamp changes) (stays (Gap held.byte stamp.byte)))).outcome ≡ Applied
        → (changes ≢ []) × LeadsOn (Some held) stamp changes (cond same (same_byte_row (first_difference (sums_of held.table) stamp.sums)) (cond next (next_byte_row held stamp changes) (stays (Gap held.byte stamp.byte)))).table
    go true next t is = same_not (first_difference (sums_of held.table) stamp.sums) is
    go false true t is = next_leads held stamp changes (same_number _ _ t) is
    go false false t is = not_applied (ap is_applied is)

vlans_named : (sums : List VlanSum) (named : Row Heard) → (row_by_vlans sums named).outcome ≡ Applied → named ≡ row_by_vlans sums named
vlans_named [] named is = not_applied (ap is_applied is)
vlans_named (first ∷ others) named is = refl

pub applied_onward : IsAppliedOnward
applied_onward held stamp changes is =
    let same = vlans_named stamp.sums (named_row held stamp changes) is in
    subst (λ row. (changes ≢ []) × LeadsOn held stamp changes row.table) same (named_leads held stamp changes (ap (λ row. row.outcome) same ∙ is))

not_emptied : {X : Type 0} (row : Row Heard) → is_emptied row.outcome ≡ false → row.outcome ≡ Emptied → X
not_emptied row never is = absurd (false≢true (sym never ∙ ap is_emptied is))

never_heard : (tried : Trial) → is_emptied (heard_trial tried).outcome ≡ false
never_heard (Fails entry) = refl
never_heard (Differs difference) = refl
never_heard (Leads table) = refl

never_named : (held : Option Version) (stamp : Stamp) (changes : List Change) → is_emptied (named_row held stamp changes).outcome ≡ false
never_named None stamp changes = refl
never_named (Some held) stamp changes = go (nat_eq held.byte stamp.byte) (nat_eq (next_byte held.byte) stamp.byte)
  where
    same : (difference : Option Difference) → is_emptied (same_byte_row difference).outcome ≡ false
    same None = refl
    same (Some difference) = refl

    next_row : (cs : List Change) → is_emptied (next_byte_row held stamp cs).outcome ≡ false
    next_row [] = refl
    next_row (c ∷ cs) = never_heard (trial held.table (c ∷ cs) stamp.sums)

    go : (same_byte next : Bool) → is_emptied (cond same_byte (same_byte_row (first_difference (sums_of held.table) stamp.sums)) (cond next (next_byte_row held stamp changes) (stays (Gap held.byte stamp.byte)))).outcome ≡ false
    go true next = same (first_difference (sums_of held.table) stamp.sums)
    go false true = next_row changes
    go false false = refl

emptied_vlans : (sums : List VlanSum) (named : Row Heard) → is_emptied named.outcome ≡ false → (row_by_vlans sums named).outcome ≡ Emptied → (sums ≡ []) × ((row_by_vlans sums named).table ≡ Some [])
emptied_vlans [] named never is = (refl, refl)
emptied_vlans (first ∷ others) named never is = not_emptied named never is

pub emptied_by_none : IsEmptiedByNone
emptied_by_none held stamp changes is = emptied_vlans stamp.sums (named_row held stamp changes) (never_named held stamp changes) is

-- ---- how answers change it
not_taken : {X : Type 0} → false ≡ true → X
not_taken e = absurd (false≢true e)

trial_taken : (P : Option (List Entry) → Type 0) (before : List Entry) (records : List Change) (told : List VlanSum) → (taken_trial (trial before records told)).outcome ≡ IsTaken
    → ((after : List Entry) → Led before records told after → P (Some after)) → P (taken_trial (trial before records told)).table
trial_taken P before records told is made =
    led before records told
    (λ after l e. subst P (sym (ap (λ t. (taken_trial t).table) e)) (made after l))
    (λ entry e. not_taken (sym (ap (λ t. took_another (taken_trial t).outcome) e) ∙ ap took_another is))
    (λ difference e. not_taken (sym (ap (λ t. took_another (taken_trial t).outcome) e) ∙ ap took_another is))

-- an answer that is taken, and is no bad part, has what was told, and its row is that of what it carries
answer_told : (P : Stamp → Row Taken → Type 0) (told : Option Stamp) (held : Option Version) (gathered : Gathered) (stamp : Stamp) (carried : Carried) → (good_row told held gathered stamp carried).outcome ≡ IsTaken
    → ((wanted : Stamp) → IsTold told stamp wanted → (carried_row held gathered wanted carried).outcome ≡ IsTaken → P wanted (carried_row held gathered wanted carried))
    → (wanted : Stamp) × IsTold told stamp wanted × P wanted (good_row told held gathered stamp carried)
answer_told P None held gathered stamp carried is made = not_taken (ap took_another is)
answer_told P (Some told) held gathered stamp carried is made = go (nat_eq told.byte stamp.byte) refl (first_difference told.sums stamp.sums) refl is
  where
    go : (same : Bool) → nat_eq told.byte stamp.byte ≡ same → (difference : Option Difference) → first_difference told.sums stamp.sums ≡ difference
        → (cond same (unless_carried_differs difference (carried_row held gathered told carried)) (stays (NotTold stamp.byte (Some told.byte)))).outcome ≡ IsTaken
        → (wanted : Stamp) × IsTold (Some told) stamp wanted × P wanted (cond same (unless_carried_differs difference (carried_row held gathered told carried)) (stays (NotTold stamp.byte (Some told.byte))))
    go true t None none is =
        let is_told : IsTold (Some told) stamp told = record { told_is = refl; byte_is = same_number _ _ t; sums_are = (finds_each_difference told.sums stamp.sums).0 none } in
        (told, is_told, made told is_told is)
    go true t (Some difference) some is = not_taken (ap took_another is)
    go false t difference d is = not_taken (ap took_another is)

changes_lead : (held : Option Version) (told : Stamp) (records : List Change) → (changes_row held told records).outcome ≡ IsTaken → LeadsOn held told records (changes_row held told records).table
changes_lead None told records is = not_taken (ap took_another is)
changes_lead (Some held) told records is = go (nat_eq (next_byte held.byte) told.byte) refl is
  where
    go : (next : Bool) → nat_eq (next_byte held.byte) told.byte ≡ next → (cond next (taken_trial (trial held.table records told.sums)) (stays (NotNext held.byte told.byte))).outcome ≡ IsTaken
        → LeadsOn (Some held) told records (cond next (taken_trial (trial held.table records told.sums)) (stays (NotNext held.byte told.byte))).table
    go true t is =
        trial_taken (LeadsOn (Some held) told records) held.table records told.sums is
        (λ after l. record { before = held; after = after; held_is = refl; byte_is = sym (same_number _ _ t); applied = l.applied; sums_are = l.sums_are; table_is = refl })
    go false t is = not_taken (ap took_another is)

makes_whole : (told : Stamp) (records : List Change) → (taken_trial (trial [] records told.sums)).outcome ≡ IsTaken → MakeWhole told records (taken_trial (trial [] records told.sums)).table
makes_whole told records is = trial_taken (MakeWhole told records) [] records told.sums is (λ after l. record { whole = after; applied = l.applied; sums_are = l.sums_are; table_is = refl })

pub taken_onward : IsTakenOnward
taken_onward told held gathered stamp records is =
    answer_told (λ wanted row. LeadsOn held wanted records row.table) told held gathered stamp (InChanges records) is (λ wanted is_told taken. changes_lead held wanted records taken)

pub taken_whole : IsTakenWhole
taken_whole told held gathered stamp records is =
    answer_told (λ wanted row. MakeWhole wanted records row.table) told held gathered stamp (InFull records) is (λ wanted is_told taken. makes_whole wanted records taken)

-- parts that are taken are complete, and make a whole table
parts_make : (want : Option ℕ) (told : Stamp) (gathered : Gathered) → (unless_missing want told gathered).outcome ≡ IsTaken → (want ≡ None) × MakeWhole told (gathered_records gathered) (unless_missing want told gathered).table
parts_make None told gathered is = (refl, makes_whole told (gathered_records gathered) is)
parts_make (Some want) told gathered is = not_taken (ap took_another is)

pub taken_in_parts : IsTakenInParts
taken_in_parts told held gathered stamp number count records is = go (is_bad_part number count) is
  where
    gone : Gathered
    gone = with_table_part number count records gathered

    together : (good_row told held gathered stamp (InPart number count records)).outcome ≡ IsTaken → ComeTogether told stamp gone (good_row told held gathered stamp (InPart number count records)).table
    together taken =
        let t = answer_told (λ wanted row. (missing_part gone ≡ None) × MakeWhole wanted (gathered_records gone) row.table) told held gathered stamp (InPart number count records) taken
        (λ wanted is_told with_parts. parts_make (missing_part gone) wanted gone with_parts) in
        record { wanted = t.0; is_told = t.1; complete = t.2.0; make = t.2.1 }

    go : (bad : Bool) → (cond bad (stays (BadPart number count)) (good_row told held gathered stamp (InPart number count records))).outcome ≡ IsTaken
        → (bad ≡ false) × ComeTogether told stamp gone (cond bad (stays (BadPart number count)) (good_row told held gathered stamp (InPart number count records))).table
    go true taken = not_taken (ap took_another taken)
    go false taken = (refl, together taken)

-- ---- additions of distinct keys
-- no entry of a table has the key
abbrev IsApart : Key → List Entry → Type 0
IsApart key table = AllByRecursion (λ k. same_key key k ≡ false) (map (λ entry. entry.key) table)

-- no entry of a table has a key of those entries
abbrev AreApart : List Entry → List Entry → Type 0
AreApart [] table = Unit {0}
AreApart (entry ∷ entries) table = IsApart entry.key table × AreApart entries table

-- the table with one more entry, and which keys are apart from it
record With (entry : Entry) (table : List Entry) : Type 0 where
  after : List Entry
  is : with_entry entry table ≡ Some after
  keeps : (key : Key) → same_key key entry.key ≡ false → IsApart key table → IsApart key after

put_one : (entry : Entry) (table : List Entry) → IsApart entry.key table → With entry table
put_one entry [] apart = record { after = entry ∷ []; is = refl; keeps = λ key other a. (other, tt) }
put_one entry (first ∷ table) apart = go (key_order entry.key first.key) refl (put_one entry table apart.1)
  where
    place : Ordering → Option (List Entry)
    place = λ r. match_ordering r (Some (entry ∷ first ∷ table)) None (option_map (λ others. first ∷ others) (with_entry entry table))

    go : (r : Ordering) → key_order entry.key first.key ≡ r → With entry table → With entry (first ∷ table)
    go Less e w = record { after = entry ∷ first ∷ table; is = ap place e; keeps = λ key other a. (other, a) }
    go Equal e w = absurd (false≢true (sym apart.0 ∙ ap is_eq e))
    go Greater e w = record { after = first ∷ w.after; is = ap place e ∙ ap (option_map (λ others. first ∷ others)) w.is; keeps = λ key other a. (a.0, w.keeps key other a.1) }

still_apart : (entry : Entry) (table : List Entry) (w : With entry table) (entries : List Entry) → AllByRecursion (λ k. same_key entry.key k ≡ false) (map (λ e. e.key) entries) → AreApart entries table → AreApart entries w.after
still_apart entry table w [] others apart = tt
still_apart entry table w (e ∷ entries) others apart = (w.keeps e.key (swap_test key_total key_exact e.key entry.key ∙ others.0) apart.0, still_apart entry table w entries others.1 apart.1)

put_all : (entries table : List Entry) → HaveDistinctKeys entries → AreApart entries table → (after : List Entry) × (change_each (map addition entries) table ≡ Ok after)
unfolding IsDistinct
put_all [] table distinct apart = (table, refl)
put_all (entry ∷ entries) table distinct apart =
    let w = put_one entry table apart.0 in
    let rest = put_all entries w.after distinct.1 (still_apart entry table w entries distinct.0 apart.1) in
    (rest.0, ap (λ o. and_then (change_each (map addition entries)) (ok_or o (addition entry))) w.is ∙ rest.1)

all_apart : (entries : List Entry) → AreApart entries []
all_apart [] = tt
all_apart (entry ∷ entries) = (tt, all_apart entries)

additions_applied : (entries : List Entry) → HaveDistinctKeys entries → (after : List Entry) × (apply_strictly [] (map addition entries) ≡ Ok after)
additions_applied entries distinct =
    let put = put_all entries [] distinct (all_apart entries) in
    (put.0, ap₂ (λ gone new. change_each (gone ++ new) []) (first_half [] entries) (second_half [] entries) ∙ put.1)

entries_again : (entries : List Entry) → changed_entries (map addition entries) ≡ entries
entries_again [] = refl
entries_again (entry ∷ entries) = ap (λ l. entry ∷ l) (entries_again entries)

added_sums : (entries after : List Entry) → apply_strictly [] (map addition entries) ≡ Ok after → checksums after ≡ checksums entries
added_sums entries after is = fun_ext (λ vid. checksums_xored [] after (map addition entries) is vid ∙ xor_zero_l _ ∙ ap (λ l. checksums l vid) (entries_again entries))

-- ---- the right answer is taken
-- a table with these checksums, to which records lead
pub record LedTo (told : Stamp) (records : List Change) : Type 0 where
  pub table : List Entry
  pub tried : trial [] records told.sums ≡ Leads table
  pub sums_are : checksums table ≡ sum_at told.sums

-- additions of distinct keys lead to a table with their checksums
pub led_whole : (told : Stamp) (records : List Change) (entries : List Entry) → records ≡ map addition entries → HaveDistinctKeys entries → checksums entries ≡ sum_at told.sums → LedTo told records
led_whole told records entries are distinct has =
    let made = additions_applied entries distinct in
    let table = made.0 in
    let applied : apply_strictly [] records ≡ Ok table = ap (apply_strictly []) are ∙ made.1 in
    let sums : checksums table ≡ sum_at told.sums = added_sums entries table made.1 ∙ has in
    let none : first_difference (sums_of table) told.sums ≡ None = (finds_each_difference (sums_of table) told.sums).1 (announces_checksums table ∙ sums) in
    record { table = table; tried = ap (trial_of told.sums) applied ∙ ap (λ d. unless_differs d table) none; sums_are = sums }

-- the row of an answer with what was told is that of what it carries
pub told_good : (told : Option Stamp) (held : Option Version) (gathered : Gathered) (stamp wanted : Stamp) (carried : Carried) → IsTold told stamp wanted → good_row told held gathered stamp carried ≡ carried_row held gathered wanted carried
told_good told held gathered stamp wanted carried is =
    let same : first_difference wanted.sums stamp.sums ≡ None = (finds_each_difference wanted.sums stamp.sums).1 is.sums_are in
    ap (λ t. good_row t held gathered stamp carried) is.told_is
    ∙ ap (λ b. cond b (unless_carried_differs (first_difference wanted.sums stamp.sums) (carried_row held gathered wanted carried)) (stays (NotTold stamp.byte (Some wanted.byte)))) (eq-eqb wanted.byte stamp.byte is.byte_is)
    ∙ ap (λ d. unless_carried_differs d (carried_row held gathered wanted carried)) same

-- what is held then agrees with what was told
pub agrees_then : (told : Option Stamp) (held : Option Version) (stamp wanted : Stamp) (table : List Entry) → IsTold told stamp wanted → checksums table ≡ sum_at wanted.sums → agrees told (held_after stamp.byte (Some table) held) ≡ true
agrees_then told held stamp wanted table is sums =
    ap (λ t. agrees t (held_after stamp.byte (Some table) held)) is.told_is ∙ (agrees_by_checksums wanted (record { byte = stamp.byte; table = table })).1 (sym is.byte_is, sums)

pub full_answer_is_taken : FullAnswerIsTaken
full_answer_is_taken known stamp records whole =
    let led = led_whole whole.wanted records whole.entries whole.records_are whole.distinct whole.sums_are in
    let row : answer_row (stamp_of known) known.held known.gathered stamp (InFull records) ≡ becomes IsTaken led.table =
    told_good (stamp_of known) known.held known.gathered stamp whole.wanted (InFull records) whole.is_told ∙ ap taken_trial led.tried in (
      ap (λ r. r.outcome) row,
      ap (λ r. agrees (stamp_of known) (held_after stamp.byte r.table known.held)) row ∙ agrees_then (stamp_of known) known.held stamp whole.wanted led.table whole.is_told led.sums_are,
    )
