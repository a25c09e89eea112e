-- How what is kept goes along with what comes for an originator.
use Rattle.std.proofs.Common.{◌≡◌, ℕ, Bool, true, false, not, cond, List, [], ◌∷◌, filter, IsSome, Option, Some, None, is_some, option_map, refl, sym, ap, ap₂, ◌∙◌, subst}
use Rattle.std.specs.List.Sorted.{IsStrictlySortedBy}
use Rattle.std.specs.BTreeMap.{insert_entry}
use Rattle.std.specs.Map.{keys_of, lookup, remove_entry, set_value}
use Rattle.std.proofs.lemmas.Bool.{false≢true}
use Rattle.std.proofs.lemmas.Map.{keys-set_value, lookup-set_value}
use Rattle.mesh_base.specs.declared.address.Mac.{Mac}
use Rattle.mesh_base.specs.declared.client.Entry.{Entry}
use Rattle.mesh_model.specs.declared.table_change.Change.{Change}
use Rattle.mesh_model.specs.declared.table_outcome.Taken.{Taken}
use Rattle.mesh_model.specs.declared.table_outcome.Taken.TheVariants.{BadPart, NotTold}
use Rattle.mesh_model.specs.Routes.Addresses.{insert_mac, mac_order, same_mac}
use Rattle.mesh_model.specs.Tables.Gathered.{Gathered, is_bad_part}
use Rattle.mesh_model.specs.Tables.Judging.{Carried, InFull, InChanges, InPart, announcement_row, answer_row, stays}
use Rattle.mesh_model.specs.Tables.Known.{Announced, Answered, Dropped, Known, TableCalls, announced, answered, gathered_after, gathered_from, held_after, kept_under, known_by, matches_told, nothing, stamp_of}
use Rattle.mesh_model.specs.Tables.Versions.{Stamp, Version}
use Rattle.mesh_laws.proofs.AscendingKeys.{ascend_inserted, ascend_removed}
use Rattle.mesh_laws.proofs.MacLemmas.{mac_exact, mac_total, same_equiv, same_exact, same_self}
use Rattle.tt_global.specs.Globals.{GlobalsStand, Kept}
use Rattle.tt_global.specs.Kept.{Announces, GathersAs, GathersBy, HoldsThen, IsAnnounced, IsGathered, IsHeld, answer_of, gathered_in, held_in, row_in, told_in, version_of}
use Rattle.tt_global.specs.declared.judging.Judged.{Judged}
use Rattle.tt_global.specs.declared.judging.Parts.{Parts}
use Rattle.tt_global.specs.declared.judging.Parts.TheVariants as becomes
use Rattle.tt_global.specs.declared.known.KnownTable.{KnownTable}
use Rattle.tt_global.proofs.KeyLemmas.{key_again, keys_inserted, keys_removed}

-- what is kept of an originator
abbrev pub at : Mac → Kept → Option KnownTable
at orig kept = lookup (same_mac orig) kept

-- nothing is kept
pub nothing_stands : (kept : Kept) → kept ≡ [] → GlobalsStand kept []
unfolding IsStrictlySortedBy
nothing_stands kept is = subst (λ k. GlobalsStand k []) (sym is) (record { told = λ orig. refl; held = λ orig. refl; gathered = λ orig. refl; originators = refl; rise = tt })

-- without another table, what is held stays
unchanged : (byte : ℕ) (b : Bool) (held : Option Version) → held ≡ cond b (held_after byte None held) held
unchanged byte true held = refl
unchanged byte false held = refl

-- ---- announcements
module _ (calls : TableCalls) (orig : Mac) (frame : ℕ) (stamp : Stamp) (changes : List Change) (old new : Kept) (stands : GlobalsStand old calls) (is : Announces orig stamp changes old new) where
  abbrev then_known : Mac → Known
  then_known other = announced frame stamp changes (known_by calls other)

  -- what a part of each row becomes
  part_then : {X : Type 0} (part : Option KnownTable → X) (of : Known → X) → part (at orig new) ≡ of (then_known orig) → ((other : Mac) → part (at other old) ≡ of (known_by calls other))
      → (other : Mac) → part (at other new) ≡ of (cond (same_mac orig other) (then_known other) (known_by calls other))
  part_then {X} part of here others other = go (same_mac orig other) refl
    where
      go : (b : Bool) → same_mac orig other ≡ b → part (at other new) ≡ of (cond b (then_known other) (known_by calls other))
      go true t = subst (λ o. part (at o new) ≡ of (then_known o)) (same_exact orig other t) here
      go false t = ap part (is.others_stay other t) ∙ others other

  -- the announcement is noted
  pub announced_stands : GlobalsStand new (Announced orig frame stamp changes ∷ calls)
  announced_stands = record {
    told = part_then told_in stamp_of is.row_is.told_is stands.told;
    held = part_then held_in (λ known. known.held) (is.row_is.held_is ∙ ap (λ held. held_after stamp.byte (announcement_row held stamp changes).table held) (stands.held orig)) stands.held;
    gathered = part_then gathered_in (λ known. known.gathered) (is.row_is.gathered_is ∙ ap₂ (λ told gathered. kept_under told stamp gathered) (stands.told orig) (stands.gathered orig)) stands.gathered;
    originators = is.keys_are stands.rise ∙ ap (insert_mac orig) stands.originators;
    rise = is.rise stands.rise;
  }

-- ---- answers
-- an answer is taken only where something was told
kept_taken : (kept : Option KnownTable) (stamp : Stamp) (carried : Carried) (table : List Entry) → (answer_of kept stamp carried).table ≡ Some table → IsSome kept
kept_taken None stamp (InFull records) table is = absurd (false≢true (ap is_some is))
kept_taken None stamp (InPart number count records) table is = absurd (go (is_bad_part number count) is)
  where
    go : (bad : Bool) → (cond bad (stays (BadPart number count)) (stays (NotTold stamp.byte None))).table ≡ Some table → ⊥
    go true is = false≢true (ap is_some is)
    go false is = false≢true (ap is_some is)
kept_taken None stamp (InChanges records) table is = absurd (false≢true (ap is_some is))
kept_taken (Some known) stamp carried table is = refl

module _ (calls : TableCalls) (orig : Mac) (stamp : Stamp) (carried : Carried) (old : Kept) (stands : GlobalsStand old calls) where
  abbrev then : Mac → Known → Known
  then other before = cond (same_mac orig other) (answered stamp carried before) before

  stays_told : (other : Mac) → stamp_of (known_by calls other) ≡ stamp_of (then other (known_by calls other))
  stays_told other = elim (same_mac orig other) as (λ b. stamp_of (known_by calls other) ≡ stamp_of (cond b (answered stamp carried (known_by calls other)) (known_by calls other))) [ true ↦ refl | false ↦ refl ]

  held_answered : (table : Option (List Entry)) → (answer_of (at orig old) stamp carried).table ≡ table → (other : Mac)
      → cond (same_mac orig other) (held_after stamp.byte table (held_in (at other old))) (held_in (at other old)) ≡ (then other (known_by calls other)).held
  held_answered table is other = go (same_mac orig other) refl
    where
      row_is : (kept : Option KnownTable) (known : Known) → told_in kept ≡ stamp_of known → held_in kept ≡ known.held → gathered_in kept ≡ known.gathered → held_after stamp.byte (answer_of kept stamp carried).table (held_in kept) ≡ (answered stamp carried known).held
      row_is kept known told held gathered =
          ap₂ (λ t h. held_after stamp.byte (answer_row t h (gathered_in kept) stamp carried).table h) told held
          ∙ ap (λ g. held_after stamp.byte (answer_row (stamp_of known) known.held g stamp carried).table known.held) gathered

      go : (b : Bool) → same_mac orig other ≡ b → cond b (held_after stamp.byte table (held_in (at other old))) (held_in (at other old)) ≡ (cond b (answered stamp carried (known_by calls other)) (known_by calls other)).held
      go true t =
          ap (λ x. held_after stamp.byte x (held_in (at other old))) (sym is ∙ ap (λ o. (answer_of (at o old) stamp carried).table) (same_exact orig other t))
          ∙ row_is (at other old) (known_by calls other) (stands.told other) (stands.held other) (stands.gathered other)
      go false t = stands.held other

  -- what is gathered of the originator then
  abbrev parts_of : Mac → Gathered
  parts_of other = gathered_after (told_in (at other old)) stamp carried (gathered_in (at other old))

  -- the parts are noted first, then the table
  module _ (mid : Kept) (is_gathered : IsGathered orig (parts_of orig) old mid) where
    gathered_answered : (other : Mac) → gathered_in (at other mid) ≡ (then other (known_by calls other)).gathered
    gathered_answered other = is_gathered.gathered_is other ∙ go (same_mac orig other) refl
      where
        go : (b : Bool) → same_mac orig other ≡ b → cond b (parts_of orig) (gathered_in (at other old)) ≡ (cond b (answered stamp carried (known_by calls other)) (known_by calls other)).gathered
        go true t = ap parts_of (same_exact orig other t) ∙ ap₂ (λ s g. gathered_after s stamp carried g) (stands.told other) (stands.gathered other)
        go false t = stands.gathered other

    answered_kept : (answer_of (at orig old) stamp carried).table ≡ None → GlobalsStand mid (Answered orig stamp carried ∷ calls)
    answered_kept is = record {
      told = λ other. is_gathered.told_stays other ∙ stands.told other ∙ stays_told other;
      held = λ other. is_gathered.held_stays other ∙ unchanged stamp.byte (same_mac orig other) _ ∙ held_answered None is other;
      gathered = gathered_answered;
      originators = is_gathered.keys_stay ∙ stands.originators;
      rise = subst (IsStrictlySortedBy mac_order) (sym is_gathered.keys_stay) stands.rise;
    }

    answered_held : (table : List Entry) (new : Kept) → (answer_of (at orig old) stamp carried).table ≡ Some table → IsHeld orig (record { byte = stamp.byte; table = table }) mid new → GlobalsStand new (Answered orig stamp carried ∷ calls)
    answered_held table new is held = record {
      told = λ other. held.told_stays other ∙ is_gathered.told_stays other ∙ stands.told other ∙ stays_told other;
      held = λ other.
          held.held_is other ∙ ap (cond (same_mac orig other) (Some (record { byte = stamp.byte; table = table }))) (is_gathered.held_stays other) ∙ held_answered (Some table) is other;
      gathered = λ other. held.gathered_stays other ∙ gathered_answered other;
      originators = held.keys_stay ∙ is_gathered.keys_stay ∙ stands.originators;
      rise = subst (IsStrictlySortedBy mac_order) (sym (held.keys_stay ∙ is_gathered.keys_stay)) stands.rise;
    }

    -- something is kept of the originator still
    there_still : IsSome (at orig old) → IsSome (at orig mid)
    there_still some = some_told (at orig mid) (told_some (at orig old) some ∙ ap is_some (sym (is_gathered.told_stays orig)))
      where
        told_some : (kept : Option KnownTable) → IsSome kept → true ≡ is_some (told_in kept)
        told_some None some = sym some
        told_some (Some known) some = refl

        some_told : (kept : Option KnownTable) → true ≡ is_some (told_in kept) → IsSome kept
        some_told None is = sym is
        some_told (Some known) is = refl

    answered_then : (table : Option (List Entry)) (new : Kept) → (answer_of (at orig old) stamp carried).table ≡ table → HoldsThen orig stamp.byte table mid new → GlobalsStand new (Answered orig stamp carried ∷ calls)
    answered_then None new is holds = subst (λ k. GlobalsStand k (Answered orig stamp carried ∷ calls)) (sym holds) (answered_kept is)
    answered_then (Some table) new is holds = answered_held table new is (holds (there_still (kept_taken (at orig old) stamp carried table is)))

    -- the answer is noted, by what was judged of it
    pub answered_behind : (judged : Judged Taken) (kept : Option KnownTable) → kept ≡ at orig old → row_in judged ≡ answer_of kept stamp carried → (new : Kept) → HoldsThen orig stamp.byte (row_in judged).table mid new
        → GlobalsStand new (Answered orig stamp carried ∷ calls)
    answered_behind judged kept was is new holds = answered_then (row_in judged).table new (ap (λ k. (answer_of k stamp carried).table) (sym was) ∙ ap (λ r. r.table) (sym is)) holds

  -- parts that stay as they are
  pub parts_stay : parts_of orig ≡ gathered_in (at orig old) → IsGathered orig (parts_of orig) old old
  parts_stay same = record {
    told_stays = λ other. refl;
    held_stays = λ other. refl;
    gathered_is = λ other. go other (same_mac orig other) refl;
    keys_stay = refl;
  }
    where
      go : (other : Mac) (b : Bool) → same_mac orig other ≡ b → gathered_in (at other old) ≡ cond b (parts_of orig) (gathered_in (at other old))
      go other true t = ap (λ o. gathered_in (at o old)) (sym (same_exact orig other t)) ∙ sym same
      go other false t = refl

  -- an answer that leaves the parts is noted, by what was judged of it
  pub answered_stands : gathered_from carried (gathered_in (at orig old)) ≡ gathered_in (at orig old) → (judged : Judged Taken) (kept : Option KnownTable) → kept ≡ at orig old → row_in judged ≡ answer_of kept stamp carried → (new : Kept)
      → HoldsThen orig stamp.byte (row_in judged).table old new → GlobalsStand new (Answered orig stamp carried ∷ calls)
  answered_stands leaves judged kept was is new holds = answered_behind old (parts_stay same) judged kept was is new holds
    where
      same : parts_of orig ≡ gathered_in (at orig old)
      same = elim (matches_told (told_in (at orig old)) stamp) as (λ b. cond b (gathered_from carried (gathered_in (at orig old))) (gathered_in (at orig old)) ≡ gathered_in (at orig old)) [ true ↦ leaves | false ↦ refl ]

  -- what becomes of the parts, by what was judged of them
  pub parts_become : (parts : Parts) (with_it : Gathered) (kept : Option KnownTable) → kept ≡ at orig old → GathersBy parts kept with_it (gathered_after (told_in kept) stamp carried (gathered_in kept)) → (mid : Kept) → GathersAs parts orig with_it old mid
      → IsGathered orig (parts_of orig) old mid
  parts_become becomes.Stay with_it kept was by mid as_it =
      subst (λ k. IsGathered orig (parts_of orig) old k) (sym as_it)
      (parts_stay (ap (λ k. gathered_after (told_in k) stamp carried (gathered_in k)) (sym was) ∙ by ∙ ap gathered_in was))
  parts_become becomes.Grow with_it kept was by mid as_it =
      subst (λ g. IsGathered orig g old mid) (sym by.1 ∙ ap (λ k. gathered_after (told_in k) stamp carried (gathered_in k)) was) (as_it (subst IsSome was by.0))
  parts_become becomes.End with_it kept was by mid as_it =
      subst (λ g. IsGathered orig g old mid) (sym by.1 ∙ ap (λ k. gathered_after (told_in k) stamp carried (gathered_in k)) was) (as_it (subst IsSome was by.0))

  -- its outcome
  pub taken_is : (judged : Judged Taken) (kept : Option KnownTable) → kept ≡ at orig old → row_in judged ≡ answer_of kept stamp carried
      → judged.outcome ≡ (answer_row (stamp_of (known_by calls orig)) (known_by calls orig).held (known_by calls orig).gathered stamp carried).outcome
  taken_is judged kept was is =
      ap (λ r. r.outcome) is ∙ ap (λ k. (answer_of k stamp carried).outcome) was
      ∙ ap₂ (λ s h. (answer_row s h (gathered_in (at orig old)) stamp carried).outcome) (stands.told orig) (stands.held orig)
      ∙ ap (λ g. (answer_row (stamp_of (known_by calls orig)) (known_by calls orig).held g stamp carried).outcome) (stands.gathered orig)

-- ---- a life that ended
pub dropped : (calls : TableCalls) (orig : Mac) (old new : Kept) → GlobalsStand old calls → new ≡ remove_entry (same_mac orig) old
    → ((other : Mac) → at other new ≡ cond (same_mac orig other) None (at other old)) → GlobalsStand new (Dropped orig ∷ calls)
dropped calls orig old new stands is updates = record {
  told = λ other. ap told_in (updates other) ∙ elim (same_mac orig other) as (λ b. told_in (cond b None (at other old)) ≡ stamp_of (cond b nothing (known_by calls other))) [ true ↦ refl | false ↦ stands.told other ];
  held = λ other. ap held_in (updates other) ∙ elim (same_mac orig other) as (λ b. held_in (cond b None (at other old)) ≡ (cond b nothing (known_by calls other)).held) [ true ↦ refl | false ↦ stands.held other ];
  gathered = λ other. ap gathered_in (updates other) ∙ elim (same_mac orig other) as (λ b. gathered_in (cond b None (at other old)) ≡ (cond b nothing (known_by calls other)).gathered) [ true ↦ refl | false ↦ stands.gathered other ];
  originators = ap keys_of is ∙ keys_removed orig old stands.rise ∙ ap (filter (λ other. not (same_mac orig other))) stands.originators;
  rise = subst (λ es. IsStrictlySortedBy mac_order (keys_of es)) (sym is) (ascend_removed mac_total mac_exact (same_mac orig) old stands.rise);
}

-- ---- what is written
-- the row that is written over another
row_written : (orig : Mac) (old new : Kept) (known row : KnownTable) → at orig old ≡ Some known → new ≡ set_value (same_mac orig) old row → (other : Mac) → at other new ≡ cond (same_mac orig other) (Some row) (at other old)
row_written orig old new known row found is other = ap (at other) is ∙ lookup-set_value same_equiv (same_mac orig) (same_equiv.congr orig) other row old (ap is_some found)

-- what a part of each row becomes where one is written in the place of what was there, which may be nothing
module _ (orig : Mac) (old new : Kept) (before : Option KnownTable) (row : KnownTable) (was : at orig old ≡ before) (updates : (other : Mac) → at other new ≡ cond (same_mac orig other) (Some row) (at other old)) where
  part_becomes : {X : Type 0} (part next : Option KnownTable → X) → part (Some row) ≡ next before → (other : Mac) → part (at other new) ≡ cond (same_mac orig other) (next (at other old)) (part (at other old))
  part_becomes {X} part next is other = ap part (updates other) ∙ go (same_mac orig other) refl
    where
      go : (b : Bool) → same_mac orig other ≡ b → part (cond b (Some row) (at other old)) ≡ cond b (next (at other old)) (part (at other old))
      go true t = is ∙ ap next (sym was ∙ ap (λ o. at o old) (same_exact orig other t))
      go false t = refl

  part_stays : {X : Type 0} (part : Option KnownTable → X) → part (Some row) ≡ part before → (other : Mac) → part (at other new) ≡ part (at other old)
  part_stays {X} part is other = part_becomes part part is other ∙ either (same_mac orig other)
    where
      either : (b : Bool) → cond b (part (at other old)) (part (at other old)) ≡ part (at other old)
      either true = refl
      either false = refl

-- of a row that is found this table is held
pub held_written : (orig : Mac) (version : Version) (old new : Kept) (known row : KnownTable) → at orig old ≡ Some known → told_in (Some row) ≡ told_in (Some known) → held_in (Some row) ≡ Some version → row.gathered ≡ known.gathered
    → new ≡ set_value (same_mac orig) old row → IsHeld orig version old new
held_written orig version old new known row found row_told row_held row_gathered is =
    let updates = row_written orig old new known row found is in record {
      told_stays = part_stays orig old new (Some known) row found updates told_in row_told;
      held_is = part_becomes orig old new (Some known) row found updates held_in (λ _. Some version) row_held;
      gathered_stays = part_stays orig old new (Some known) row found updates gathered_in row_gathered;
      keys_stay = ap keys_of is ∙ keys-set_value (same_mac orig) old row;
    }

-- a row is written that is what an announcement makes of what was there, which may be nothing
module _ (orig : Mac) (stamp : Stamp) (changes : List Change) (old new : Kept) (row : KnownTable) where
  announces : (before : Option KnownTable) → at orig old ≡ before → IsAnnounced stamp changes before (Some row) → ((other : Mac) → at other new ≡ cond (same_mac orig other) (Some row) (at other old))
      → (IsStrictlySortedBy mac_order (keys_of old) → keys_of new ≡ insert_mac orig (keys_of old)) → (IsStrictlySortedBy mac_order (keys_of old) → IsStrictlySortedBy mac_order (keys_of new)) → Announces orig stamp changes old new
  announces before was becomes updates keys rise = record {
    row_is =
        subst (λ after. IsAnnounced stamp changes (at orig old) after) (sym (updates orig ∙ ap (λ b. cond b (Some row) (at orig old)) (same_self orig)))
        (subst (λ kept. IsAnnounced stamp changes kept (Some row)) (sym was) becomes);
    others_stay = λ other f. updates other ∙ ap (λ b. cond b (Some row) (at other old)) f;
    keys_are = keys;
    rise = rise;
  }

  -- over a row that is found
  pub announced_written : (known : KnownTable) → at orig old ≡ Some known → IsAnnounced stamp changes (Some known) (Some row) → new ≡ set_value (same_mac orig) old row → Announces orig stamp changes old new
  announced_written known found becomes is =
      let keys : keys_of new ≡ keys_of old = ap keys_of is ∙ keys-set_value (same_mac orig) old row in
      announces (Some known) found becomes (row_written orig old new known row found is) (λ rise. keys ∙ sym (key_again orig old rise (ap is_some found))) (λ rise. subst (IsStrictlySortedBy mac_order) (sym keys) rise)

  -- of a new originator
  pub announced_inserted : at orig old ≡ None → IsAnnounced stamp changes None (Some row) → ((other : Mac) → at other new ≡ cond (same_mac orig other) (Some row) (at other old))
      → (IsStrictlySortedBy mac_order (keys_of old) → new ≡ insert_entry mac_order old orig row) → Announces orig stamp changes old new
  announced_inserted absent becomes updates inserted =
      announces None absent becomes updates (λ rise. ap keys_of (inserted rise) ∙ keys_inserted old orig row)
      (λ rise. subst (λ es. IsStrictlySortedBy mac_order (keys_of es)) (sym (inserted rise)) (ascend_inserted mac_total mac_exact old orig row rise))

-- of a row that is found these parts are gathered
pub gathered_written : (orig : Mac) (old new : Kept) (known row : KnownTable) → lookup (same_mac orig) old ≡ Some known → told_in (Some row) ≡ told_in (Some known) → row.held ≡ known.held → new ≡ set_value (same_mac orig) old row → IsGathered orig row.gathered old new
gathered_written orig old new known row found row_told row_held is =
    let updates = row_written orig old new known row found is in record {
      told_stays = part_stays orig old new (Some known) row found updates told_in row_told;
      held_stays = part_stays orig old new (Some known) row found updates held_in (ap (option_map version_of) row_held);
      gathered_is = part_becomes orig old new (Some known) row found updates gathered_in (λ _. row.gathered) refl;
      keys_stay = ap keys_of is ∙ keys-set_value (same_mac orig) old row;
    }
