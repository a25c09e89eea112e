-- The parts of a table that come in any order and however often.
use Rattle.std.proofs.Common.{◌≡◌, ◌<◌, ◌⊎◌, inl, inr, ℕ, ◌&&◌, ◌||◌, nat_eq, Bool, true, false, cond, List, [], ◌∷◌, ◌++◌, flat_map, Option, None, Some, is_none, is_some, unwrap_or, refl, sym, ap, ap₂, ◌∙◌, subst, arith}
use Rattle.std.specs.List.{AllByRecursion}
use Rattle.std.specs.Option.{option_or}
use Rattle.std.proofs.lemmas.Bool.{false≢true, eq-eqb, eqb-true}
use Rattle.mesh_base.specs.declared.address.Mac.{Mac}
use Rattle.mesh_model.specs.declared.table_change.Change.{Change}
use Rattle.mesh_model.specs.declared.table_outcome.Taken.TheVariants.{BadPart, Taken as IsTaken}
use Rattle.mesh_model.specs.Routes.Addresses.{same_mac}
use Rattle.mesh_model.specs.Tables.Differences.{first_difference}
use Rattle.mesh_model.specs.Tables.Gathered.{Gathered, gathered_records, missing_part, none_gathered, records_at, with_table_part}
use Rattle.mesh_model.specs.Tables.Judging.{Carried, InChanges, InFull, InPart, answer_row, becomes, good_row, stays, taken_trial, unless_missing}
use Rattle.mesh_model.specs.Tables.Known.{TableCall, TableCalls, Announced, Answered, Dropped, Known, agrees, announced, answered, gathered_after, gathered_from, held_after, is_agreed, known_by, matches_told, nothing, stamp_of, while_missing}
use Rattle.mesh_model.specs.Tables.Pieces.{places}
use Rattle.mesh_model.specs.Tables.Versions.{Stamp}
use Rattle.mesh_laws.specs.KnownLaws.{ArePartsOf, CarriesPart, IsLastPart, IsOneOfParts, IsTold, PartsAreTaken, carries_number, has_come, part_comes}
use Rattle.mesh_laws.specs.Machine.Pieces.{put_together}
use Rattle.mesh_laws.proofs.DifferenceLemmas.{finds_each_difference}
use Rattle.mesh_laws.proofs.GatheredLemmas.{IsOfCount, counted_with, found_with, none_missing, not_bad, still_missing}
use Rattle.mesh_laws.proofs.KnownLemmas.{LedTo, agrees_then, led_whole, told_good}
use Rattle.mesh_laws.proofs.MacLemmas.{same_self}
use Rattle.mesh_laws.proofs.PieceLemmas.{same_together}

-- the byte and the sums of an answer are found to be those that were told
matched : (told : Option Stamp) (stamp wanted : Stamp) → told ≡ Some wanted → wanted.byte ≡ stamp.byte → first_difference wanted.sums stamp.sums ≡ None → matches_told told stamp ≡ true
matched told stamp wanted is bytes sums = ap (λ t. matches_told t stamp) is ∙ ap₂ (λ b d. b && is_none d) (eq-eqb wanted.byte stamp.byte bytes) sums

module _ (orig : Mac) (wanted : Stamp) (count : ℕ) (parts : ℕ → List Change) (are : ArePartsOf wanted count parts) where
  -- what is known has what was told, and the parts of the numbers that came
  record HasCome (came : TableCalls) (known : Known) : Type 0 where
    pub told_is : stamp_of known ≡ Some wanted
    pub of_count : IsOfCount count known.gathered
    pub found : (number : ℕ) → records_at number known.gathered ≡ cond (has_come orig number came) (Some (parts number)) None

  -- the records of a number are there where it came, or comes
  one_number : (new number : ℕ) (come here : Bool) → nat_eq number new ≡ here → option_or (cond come (Some (parts number)) None) (cond here (Some (parts new)) None)
      ≡ cond (here || come) (Some (parts number)) None
  one_number new number true true is = refl
  one_number new number true false is = refl
  one_number new number false true is = ap (λ n. Some (parts n)) (sym (eqb-true number new is))
  one_number new number false false is = refl

  -- once a part more came, the numbers that came are there
  found_then : (came : TableCalls) (known : Known) → HasCome came known → (new number : ℕ) → records_at number (with_table_part new count (parts new) known.gathered) ≡ cond (nat_eq number new || has_come orig number came) (Some (parts number)) None
  found_then came known have new number =
      found_with number new count (parts new) known.gathered have.of_count
      ∙ ap (λ o. option_or o (cond (nat_eq number new) (Some (parts new)) None)) (have.found number)
      ∙ one_number new number (has_come orig number came) (nat_eq number new) refl

  -- a number that is missing behind a call was missing before it
  before_too : (b come : Bool) → (b || come) ≡ false → come ≡ false
  before_too true come is = absurd (false≢true (sym is))
  before_too false come is = is

  -- an answer that isn't a part changes nothing of this
  no_part : (came : TableCalls) (known : Known) (stamp : Stamp) (carried : Carried) → gathered_from carried known.gathered ≡ known.gathered → ((number : ℕ) → carries_number number carried ≡ false)
      → HasCome came known → HasCome (Answered orig stamp carried ∷ came) (answered stamp carried known)
  no_part came known stamp carried keeps none have = record {
    told_is = have.told_is;
    of_count = subst (IsOfCount count) (sym kept) have.of_count;
    found = λ number. ap (records_at number) kept ∙ have.found number ∙ ap (λ b. cond (b || has_come orig number came) (Some (parts number)) None) (sym (ap₂ (λ s c. s && c) (same_self orig) (none number)));
  }
    where
      kept : gathered_after (stamp_of known) stamp carried known.gathered ≡ known.gathered
      kept = elim (matches_told (stamp_of known) stamp) as (λ b. cond b (gathered_from carried known.gathered) known.gathered ≡ known.gathered) [ true ↦ keeps | false ↦ refl ]

  -- nor does a call for another originator
  of_another : (came : TableCalls) (call : TableCall) (known : Known) → ((number : ℕ) → has_come orig number (call ∷ came) ≡ has_come orig number came) → HasCome came known → HasCome (call ∷ came) known
  of_another came call known none have = record {
    told_is = have.told_is;
    of_count = have.of_count;
    found = λ number. have.found number ∙ ap (λ b. cond b (Some (parts number)) None) (sym (none number));
  }

  -- a part is noted, while another is missing
  one_part : (came : TableCalls) (known : Known) (stamp : Stamp) (new missing : ℕ) → HasCome came known → wanted.byte ≡ stamp.byte → first_difference wanted.sums stamp.sums ≡ None → new < count
      → missing < count → (nat_eq missing new || has_come orig missing came) ≡ false
      → HasCome (Answered orig stamp (InPart new count (parts new)) ∷ came) (answered stamp (InPart new count (parts new)) known)
  one_part came known stamp new missing have bytes sums below lt none = record {
    told_is = have.told_is;
    of_count = subst (IsOfCount count) (sym noted) (inr (counted_with new count (parts new) known.gathered));
    found = λ number.
        ap (records_at number) noted ∙ found_then came known have new number
        ∙ ap (λ b. cond ((b && nat_eq number new) || has_come orig number came) (Some (parts number)) None) (sym (same_self orig));
  }
    where
      gone : Gathered
      gone = with_table_part new count (parts new) known.gathered

      open_still : is_some (missing_part gone) ≡ true
      open_still =
          still_missing gone missing (subst (λ n. missing < n) (sym (counted_with new count (parts new) known.gathered)) lt)
          (found_then came known have new missing ∙ ap (λ b. cond b (Some (parts missing)) None) none)

      noted : gathered_after (stamp_of known) stamp (InPart new count (parts new)) known.gathered ≡ gone
      noted =
          ap (λ b. cond b (gathered_from (InPart new count (parts new)) known.gathered) known.gathered) (matched (stamp_of known) stamp wanted have.told_is bytes sums)
          ∙ ap (λ b. cond b known.gathered (while_missing gone)) (not_bad new count below are.few)
          ∙ ap (λ b. cond b gone none_gathered) open_still

  module _ (before : TableCalls) (told_is : stamp_of (known_by before orig) ≡ Some wanted) (none_kept : (known_by before orig).gathered ≡ none_gathered) where
    so_far : (came : TableCalls) → AllByRecursion (IsOneOfParts orig wanted count parts) came → (missing : ℕ) → missing < count → has_come orig missing came ≡ false → HasCome came (known_by (came ++ before) orig)
    so_far [] all missing lt none = record { told_is = told_is; of_count = inl none_kept; found = λ number. ap (records_at number) none_kept }
    so_far (Announced for frame stamp changes ∷ came) all missing lt none =
        let have = so_far came all.1 missing lt none in
        subst (λ b. HasCome (Announced for frame stamp changes ∷ came) (cond b (announced frame stamp changes (known_by (came ++ before) orig)) (known_by (came ++ before) orig))) (sym all.0)
        (of_another came (Announced for frame stamp changes) (known_by (came ++ before) orig) (λ number. refl) have)
    so_far (Dropped for ∷ came) all missing lt none =
        let have = so_far came all.1 missing lt none in
        subst (λ b. HasCome (Dropped for ∷ came) (cond b nothing (known_by (came ++ before) orig))) (sym all.0)
        (of_another came (Dropped for) (known_by (came ++ before) orig) (λ number. refl) have)
    so_far (Answered for stamp carried ∷ came) all missing lt none = go (same_mac for orig) refl carried all.0 none (λ free. so_far came all.1 missing lt free)
      where
        here : Known
        here = known_by (came ++ before) orig

        -- it is told of the originator's address as of this one
        as_this : (c : Carried) → same_mac for orig ≡ true → HasCome (Answered orig stamp c ∷ came) (answered stamp c here) → HasCome (Answered for stamp c ∷ came) (answered stamp c here)
        as_this c is h = record {
          told_is = h.told_is;
          of_count = h.of_count;
          found = λ number. h.found number ∙ ap (λ b. cond ((b && carries_number number c) || has_come orig number came) (Some (parts number)) None) (same_self orig ∙ sym is);
        }

        mine : (c : Carried) → same_mac for orig ≡ true → CarriesPart wanted count parts stamp c → (carries_number missing c || has_come orig missing came) ≡ false → (has_come orig missing came ≡ false → HasCome came here) → HasCome (Answered for stamp c ∷ came) (answered stamp c here)
        mine (InFull records) is carries free have = as_this (InFull records) is (no_part came here stamp (InFull records) refl (λ number. refl) (have free))
        mine (InChanges records) is carries free have = as_this (InChanges records) is (no_part came here stamp (InChanges records) refl (λ number. refl) (have free))
        mine (InPart new of_many records) is carries free have =
            as_this (InPart new of_many records) is
            (subst (λ r. HasCome (Answered orig stamp (InPart new of_many r) ∷ came) (answered stamp (InPart new of_many r) here)) (sym carries.4)
            (subst (λ n. HasCome (Answered orig stamp (InPart new n (parts new)) ∷ came) (answered stamp (InPart new n (parts new)) here)) (sym carries.2)
            (one_part came here stamp new missing (have (before_too (nat_eq missing new) (has_come orig missing came) free)) carries.0 ((finds_each_difference wanted.sums stamp.sums).1 carries.1) carries.3 lt free)))

        go : (b : Bool) → same_mac for orig ≡ b → (c : Carried) → (same_mac for orig ≡ true → CarriesPart wanted count parts stamp c) → ((same_mac for orig && carries_number missing c) || has_come orig missing came) ≡ false
            → (has_come orig missing came ≡ false → HasCome came here) → HasCome (Answered for stamp c ∷ came) (cond b (answered stamp c here) here)
        go true is c carries free have = mine c is (carries is) (ap (λ b. (b && carries_number missing c) || has_come orig missing came) (sym is) ∙ free) have
        go false is c carries free have =
            of_another came (Answered for stamp c) here (λ number. ap (λ b. (b && carries_number number c) || has_come orig number came) is)
            (have (before_too (same_mac for orig && carries_number missing c) (has_come orig missing came) free))

    pub last_taken : (came : TableCalls) (stamp : Stamp) (number : ℕ) → IsLastPart orig before came wanted stamp count number parts
        → ((answer_row (stamp_of (known_by (came ++ before) orig)) (known_by (came ++ before) orig).held (known_by (came ++ before) orig).gathered stamp (InPart number count (parts number))).outcome ≡ IsTaken)
        × (is_agreed (known_by (part_comes orig stamp count number parts ∷ came ++ before) orig) ≡ true)
    last_taken came stamp number last = (ap (λ r. r.outcome) row, agreed)
      where
        here : Known
        here = known_by (came ++ before) orig

        gone : Gathered
        gone = with_table_part number count (parts number) here.gathered

        have : HasCome came here
        have = so_far came last.others_are number last.below last.missing

        counted : gone.count ≡ count
        counted = counted_with number count (parts number) here.gathered

        or_true : (b : Bool) → (b || true) ≡ true
        or_true true = refl
        or_true false = refl

        one_of : (other : ℕ) → (other ≡ number) ⊎ (has_come orig other came ≡ true) → (nat_eq other number || has_come orig other came) ≡ true
        one_of other (inl same) = ap (λ b. b || has_come orig other came) (eq-eqb other number same)
        one_of other (inr come) = ap (λ b. nat_eq other number || b) come ∙ or_true (nat_eq other number)

        all_there : (other : ℕ) → other < count → records_at other gone ≡ Some (parts other)
        all_there other lt = found_then came here have number other ∙ ap (λ b. cond b (Some (parts other)) None) (one_of other (last.last other lt))

        complete : missing_part gone ≡ None
        complete = none_missing gone (λ other lt. ap is_some (all_there other (subst (λ n. other < n) counted lt)))

        records_are : gathered_records gone ≡ put_together count parts
        records_are =
            ap (λ n. flat_map (λ other. unwrap_or (records_at other gone) []) (places n)) counted
            ∙ same_together (λ other. unwrap_or (records_at other gone) []) parts 0 count (λ other lt. ap (λ o. unwrap_or o []) (all_there other (omega (arith, lt))))

        told : IsTold (stamp_of here) stamp wanted
        told = record { told_is = have.told_is; byte_is = last.is_told.byte_is; sums_are = last.is_told.sums_are }

        led : LedTo wanted (gathered_records gone)
        led = led_whole wanted (gathered_records gone) are.entries (records_are ∙ are.records_are) are.distinct are.sums_are

        row : answer_row (stamp_of here) here.held here.gathered stamp (InPart number count (parts number)) ≡ becomes IsTaken led.table
        row =
            ap (λ b. cond b (stays (BadPart number count)) (good_row (stamp_of here) here.held here.gathered stamp (InPart number count (parts number)))) (not_bad number count last.below are.few)
            ∙ told_good (stamp_of here) here.held here.gathered stamp wanted (InPart number count (parts number)) told ∙ ap (λ want. unless_missing want wanted gone) complete ∙ ap taken_trial led.tried

        agreed : is_agreed (known_by (part_comes orig stamp count number parts ∷ came ++ before) orig) ≡ true
        agreed =
            ap (λ b. is_agreed (cond b (answered stamp (InPart number count (parts number)) here) here)) (same_self orig)
            ∙ ap (λ r. agrees (stamp_of here) (held_after stamp.byte r.table here.held)) row ∙ agrees_then (stamp_of here) here.held stamp wanted led.table told led.sums_are

pub parts_are_taken : PartsAreTaken
parts_are_taken orig before came wanted stamp count number parts are last = last_taken orig wanted count parts are before last.is_told.told_is last.none_kept came stamp number last
