-- The parts that a node gathers were said, whatever comes; once none is missing they are the pieces
-- of a full answer.
use Rattle.std.proofs.Common.{◌≡◌, ◌⊎◌, inl, inr, ℕ, ◌<◌, ◌&&◌, nat_eq, Bool, true, false, cond, List, [], Option, Some, None, is_none, is_some, unwrap_or, refl, sym, ap, subst, ◌∙◌, arith}
use Rattle.std.specs.Option.{option_or}
use Rattle.std.proofs.lemmas.Bool.{eqb-true}
use Rattle.std.proofs.lemmas.Bool.Decides.{nat_tests}
use Rattle.std.proofs.lemmas.Option.{none-some, same_Some}
use Rattle.mesh_model.specs.declared.table_change.Change.{Change}
use Rattle.mesh_model.specs.Tables.Differences.{first_difference}
use Rattle.mesh_model.specs.Tables.Gathered.{Gathered, is_bad_part, missing_part, none_gathered, of_count, records_at, with_table_part}
use Rattle.mesh_model.specs.Tables.Judging.{Carried, InFull, InPart, InChanges}
use Rattle.mesh_model.specs.Tables.Known.{gathered_after, gathered_from, kept_under, while_missing}
use Rattle.mesh_model.specs.Tables.Sums.{sum_at}
use Rattle.mesh_model.specs.Tables.Versions.{Stamp}
use Rattle.mesh_laws.specs.Machine.Moves.{PieceWasSaid}
use Rattle.mesh_laws.specs.Machine.World.{Piece, Saying, WasSaid}
use Rattle.mesh_laws.proofs.DifferenceLemmas.{by_match}
use Rattle.mesh_laws.proofs.GatheredLemmas.{counted_with, each_there, found_beside, of_same_or_new}
use Rattle.mesh_tie.specs.Sayings.{saying_of}
use Rattle.mesh_tie.specs.Tie.{GatheredWereSaid}

-- more was said
pub gathered_more : (s t : List Saying) (told : Option Stamp) (gathered : Gathered) → ((x : Saying) → WasSaid s x → WasSaid t x) → GatheredWereSaid s told gathered → GatheredWereSaid t told gathered
gathered_more s t told gathered more were number records there =
    let one = were number records there in
    (one.0, one.1, one.2, (one.3.0, one.3.1, more (Piece one.0.byte one.3.0 number gathered.count records) one.3.2))

-- no part is there
pub none_said : (said : List Saying) (told : Option Stamp) → GatheredWereSaid said told none_gathered
none_said said told number records there = absurd (none-some records there)

-- what is said under the byte and the checksums of a stamp is said under those of one that matches
piece_under : (said : List Saying) (t stamp : Stamp) (number count : ℕ) (records : List Change) → t.byte ≡ stamp.byte → sum_at t.sums ≡ sum_at stamp.sums
    → PieceWasSaid said t.byte (sum_at t.sums) number count records → PieceWasSaid said stamp.byte (sum_at stamp.sums) number count records
piece_under said t stamp number count records bytes sums was = (was.0, was.1 ∙ sums, subst (λ b. WasSaid said (Piece b was.0 number count records)) bytes was.2)

-- ---- announcements
-- the parts that an announcement leaves
pub kept_said : (said : List Saying) (told : Option Stamp) (stamp : Stamp) (gathered : Gathered) → GatheredWereSaid said told gathered → GatheredWereSaid said (Some stamp) (kept_under told stamp gathered)
kept_said said None stamp gathered were = none_said said (Some stamp)
kept_said said (Some t) stamp gathered were = go (nat_eq t.byte stamp.byte && is_none (first_difference t.sums stamp.sums)) refl
  where
    go : (b : Bool) → (nat_eq t.byte stamp.byte && is_none (first_difference t.sums stamp.sums)) ≡ b → GatheredWereSaid said (Some stamp) (cond b gathered none_gathered)
    go false is = none_said said (Some stamp)
    go true is = λ number records there.
        let one = were number records there in
        let same : t ≡ one.0 = same_Some t one.0 one.1 in
        let was : PieceWasSaid said t.byte (sum_at t.sums) number gathered.count records = subst (λ (s : Stamp). PieceWasSaid said s.byte (sum_at s.sums) number gathered.count records) (sym same) one.3 in
        (stamp, refl, one.2, by_match t stamp is (λ bytes sums. piece_under said t stamp number gathered.count records bytes sums was))

-- ---- answers
-- a number that can be is below the count
pub good_below : (number count : ℕ) → is_bad_part number count ≡ false → number < count
good_below number count good = grind (arith, nat_tests, good)

-- a part that was said beside those that are there
pub beside_said : (said : List Saying) (told : Option Stamp) (gathered : Gathered) → GatheredWereSaid said told gathered → (wanted stamp : Stamp) (number count : ℕ) (records : List Change)
    → told ≡ Some wanted → wanted.byte ≡ stamp.byte → sum_at wanted.sums ≡ sum_at stamp.sums → number < count → WasSaid said (Piece stamp.byte stamp.sums number count records)
    → GatheredWereSaid said told (with_table_part number count records gathered)
beside_said said told gathered were wanted stamp number count records told_is bytes sums below was q there_records there =
    by_found (records_at q (of_count count gathered)) refl (nat_eq q number) refl (sym (found_beside q number count records gathered) ∙ there)
  where
    gone : Gathered
    gone = with_table_part number count records gathered

    counted : gone.count ≡ count
    counted = counted_with number count records gathered

    Was : ℕ → List Change → Type 0
    Was n rs = (w : Stamp) × (told ≡ Some w) × (n < gone.count) × PieceWasSaid said w.byte (sum_at w.sums) n gone.count rs

    old : (rs : List Change) → records_at q (of_count count gathered) ≡ Some rs → ((gathered.count ≡ count) × (of_count count gathered ≡ gathered)) ⊎ (of_count count gathered ≡ record { count = count; got = [] }) → Was q rs
    old rs is (inl same) =
        let one = were q rs (sym (ap (records_at q) same.1) ∙ is) in
        let all : gathered.count ≡ gone.count = same.0 ∙ sym counted in
        (one.0, one.1, subst (λ n. q < n) all one.2, subst (λ n. PieceWasSaid said one.0.byte (sum_at one.0.sums) q n rs) all one.3)
    old rs is (inr new) = absurd (none-some rs (sym (ap (records_at q) new) ∙ is))

    here : Was number records
    here = (
      wanted,
      told_is,
      subst (λ n. number < n) (sym counted) below,
      subst (λ n. PieceWasSaid said wanted.byte (sum_at wanted.sums) number n records) (sym counted)
          (stamp.sums, sym sums, subst (λ b. WasSaid said (Piece b stamp.sums number count records)) (sym bytes) was),
    )

    by_found : (o : Option (List Change)) → records_at q (of_count count gathered) ≡ o → (b : Bool) → nat_eq q number ≡ b → option_or o (cond b (Some records) None) ≡ Some there_records → Was q there_records
    by_found (Some other) found b same e = subst (Was q) (same_Some other there_records e) (old other found (of_same_or_new count gathered))
    by_found None found true same e = subst (λ n. Was n there_records) (sym (eqb-true q number same)) (subst (Was number) (same_Some records there_records e) here)
    by_found None found false same e = absurd (none-some there_records e)

-- the parts that are gathered once an answer came
pub answered_said : (said : List Saying) (told : Option Stamp) (stamp : Stamp) (carried : Carried) (gathered : Gathered) → GatheredWereSaid said told gathered → WasSaid said (saying_of stamp carried)
    → GatheredWereSaid said told (gathered_after told stamp carried gathered)
answered_said said None stamp carried gathered were was = were
answered_said said (Some t) stamp carried gathered were was = go (nat_eq t.byte stamp.byte && is_none (first_difference t.sums stamp.sums)) refl
  where
    while_open : (number count : ℕ) (records : List Change) → GatheredWereSaid said (Some t) (with_table_part number count records gathered) → GatheredWereSaid said (Some t) (while_missing (with_table_part number count records gathered))
    while_open number count records with_it =
        elim (is_some (missing_part (with_table_part number count records gathered))) as (λ b. GatheredWereSaid said (Some t) (cond b (with_table_part number count records gathered) none_gathered)) [ true ↦ with_it | false ↦ none_said said (Some t) ]

    part : (number count : ℕ) (records : List Change) (bad : Bool) → is_bad_part number count ≡ bad → WasSaid said (Piece stamp.byte stamp.sums number count records) → t.byte ≡ stamp.byte → sum_at t.sums ≡ sum_at stamp.sums
        → GatheredWereSaid said (Some t) (cond bad gathered (while_missing (with_table_part number count records gathered)))
    part number count records true is one bytes sums = were
    part number count records false is one bytes sums = while_open number count records (beside_said said (Some t) gathered were t stamp number count records refl bytes sums (good_below number count is) one)

    from : (c : Carried) → WasSaid said (saying_of stamp c) → (nat_eq t.byte stamp.byte && is_none (first_difference t.sums stamp.sums)) ≡ true → GatheredWereSaid said (Some t) (gathered_from c gathered)
    from (InFull records) one is = were
    from (InChanges records) one is = were
    from (InPart number count records) one is = by_match t stamp is (λ bytes sums. part number count records (is_bad_part number count) refl one bytes sums)

    go : (b : Bool) → (nat_eq t.byte stamp.byte && is_none (first_difference t.sums stamp.sums)) ≡ b → GatheredWereSaid said (Some t) (cond b (gathered_from carried gathered) gathered)
    go true is = from carried was is
    go false is = were

-- ---- none is missing
-- the records of a part, by its number
abbrev pub gathered_piece : Gathered → ℕ → List Change
gathered_piece gathered number = unwrap_or (records_at number gathered) []

-- where none is missing, each was said
pub each_said : (said : List Saying) (told : Option Stamp) (gathered : Gathered) → GatheredWereSaid said told gathered → missing_part gathered ≡ None → (wanted : Stamp) → told ≡ Some wanted
    → (place : ℕ) → place < gathered.count → PieceWasSaid said wanted.byte (sum_at wanted.sums) place gathered.count (gathered_piece gathered place)
each_said said told gathered were complete wanted told_is place below =
    let there = each_there gathered complete place below in
    let one = were place there.0 there.1 in
    let same : one.0 ≡ wanted = same_Some one.0 wanted (sym one.1 ∙ told_is) in
    subst (λ rs. PieceWasSaid said wanted.byte (sum_at wanted.sums) place gathered.count rs) (sym (ap (λ o. unwrap_or o []) there.1))
    (subst (λ (s : Stamp). PieceWasSaid said s.byte (sum_at s.sums) place gathered.count there.0) same one.3)
