-- What is known of an originator stays of its commits, whatever comes that tells of them.
use Rattle.std.proofs.Common.{◌≡◌, ◌⊎◌, inl, inr, ℕ, ◌<◌, ◌&&◌, nat_eq, arith, Bool, true, false, cond, List, [], ◌∷◌, map, flat_map, Option, Some, None, is_none, is_some, unwrap_or, IsTrue, refl, sym, ap, ◌∙◌, subst}
use Rattle.std.specs.List.{AllByRecursion}
use Rattle.std.specs.Option.{option_or}
use Rattle.std.proofs.lemmas.Bool.{false≢true, eqb-true}
use Rattle.std.proofs.lemmas.Option.{none-some, same_Some}
use Rattle.std.proofs.lemmas.Map.Keys.{IsDistinct-from_sorted}
use Rattle.mesh_base.specs.KeyOrder.{key_order}
use Rattle.mesh_base.specs.declared.address.Mac.{Mac}
use Rattle.mesh_base.specs.declared.client.Entry.{Entry}
use Rattle.mesh_model.specs.declared.table_change.Change.{Change}
use Rattle.mesh_model.specs.declared.table_outcome.Heard.{Heard}
use Rattle.mesh_model.specs.declared.table_outcome.Heard.TheVariants.{Emptied, Unheld, Same, SumDiffers, Gap, Bare, Clash, Applied}
use Rattle.mesh_model.specs.declared.table_outcome.Taken.{Taken}
use Rattle.mesh_model.specs.declared.table_outcome.Taken.TheVariants.{BadPart, Part, NotTold, SumDiffers as SumsDiffer, Unheld as NothingHeld, Gap as NotNext, Clash as NotStrict, Taken as IsTaken}
use Rattle.mesh_model.specs.Routes.Addresses.{same_mac}
use Rattle.mesh_model.specs.Tables.Changes.{addition}
use Rattle.mesh_model.specs.Tables.Differences.{first_difference}
use Rattle.mesh_model.specs.Tables.Gathered.{Gathered, gathered_records, is_bad_part, missing_part, none_gathered, of_count, records_at, with_table_part}
use Rattle.mesh_model.specs.Tables.Judging.{Carried, InFull, InPart, InChanges, announcement_row, answer_row}
use Rattle.mesh_model.specs.Tables.Known.{Announced, Answered, Dropped, Known, TableCalls, agrees, announced, answered, gathered_after, gathered_from, held_after, kept_under, known_by, nothing, stamp_of, while_missing}
use Rattle.mesh_model.specs.Tables.Pieces.{piece, piece_count, places}
use Rattle.mesh_model.specs.Tables.Strict.{apply_strictly}
use Rattle.mesh_model.specs.Tables.Sums.{checksums, sum_at, sums_of}
use Rattle.mesh_model.specs.Tables.Versions.{Stamp, Version}
use Rattle.mesh_laws.specs.HeldLaws.{AreCommits, AreOfCommits, ArePiecesOfCommits, CarriesCommit, CommitsAreToldWhole, GatheredAreOfCommits, HoldsTold, IsOfCommits, KnownAreOfCommits, TellsCommit, stamp_of_commit}
use Rattle.mesh_laws.specs.KnownLaws.{LeadsOn, heard_another, took_another}
use Rattle.mesh_laws.specs.Machine.Agreement.{LeadTo}
use Rattle.mesh_laws.specs.Machine.World.{IsCommit}
use Rattle.mesh_laws.proofs.AnnouncedSums.{announces_checksums, announces_none_of_empty}
use Rattle.mesh_laws.proofs.CommitLemmas.{led_to_commit, made_of_commit}
use Rattle.mesh_laws.proofs.DifferenceLemmas.{agrees_by_checksums, by_match}
use Rattle.mesh_laws.proofs.GatheredLemmas.{counted_with, each_there, found_beside, of_same_or_new}
use Rattle.mesh_laws.proofs.KnownLemmas.{applied_onward, changes_as_heard, changes_as_taken, emptied_by_none, taken_in_parts, taken_onward, taken_whole}
use Rattle.mesh_laws.proofs.MacLemmas.{same_exact}
use Rattle.mesh_laws.proofs.PieceLemmas.{pieces_make_table, same_together}

-- ---- which outcomes change what is held
pub another_heard : (outcome : Heard) → heard_another outcome ≡ true → (outcome ≡ Emptied) ⊎ (outcome ≡ Applied)
another_heard Emptied is = inl refl
another_heard (Unheld told) is = absurd (false≢true is)
another_heard Same is = absurd (false≢true is)
another_heard (SumDiffers vid kept told) is = absurd (false≢true is)
another_heard (Gap held told) is = absurd (false≢true is)
another_heard (Bare held told) is = absurd (false≢true is)
another_heard (Clash entry) is = absurd (false≢true is)
another_heard Applied is = inr refl

pub another_taken : (outcome : Taken) → took_another outcome ≡ true → outcome ≡ IsTaken
another_taken (BadPart number count) is = absurd (false≢true is)
another_taken (Part have want) is = absurd (false≢true is)
another_taken (NotTold told wanted) is = absurd (false≢true is)
another_taken (SumsDiffer vid kept told) is = absurd (false≢true is)
another_taken NothingHeld is = absurd (false≢true is)
another_taken (NotNext held told) is = absurd (false≢true is)
another_taken (NotStrict entry) is = absurd (false≢true is)
another_taken IsTaken is = refl

-- ---- what is held, by what was told
module _ (made : List Version) (are : AreCommits made) where
  -- commits of one byte and equal checksums are one
  one_commit : (commit other : Version) → IsCommit made commit → IsCommit made other → other.byte ≡ commit.byte → checksums other.table ≡ checksums commit.table → other ≡ commit
  one_commit commit other is is_other bytes sums =
      let table : other.table ≡ commit.table = are.no_alias other commit is_other is bytes sums in
      λ i. record { byte = bytes i; table = table i }

  -- where what is held agrees with a commit that was told, it is the commit
  holds_told : (stamp : Stamp) (held commit : Version) → IsCommit made held → IsCommit made commit → stamp ≡ stamp_of_commit commit → IsTrue (agrees (Some stamp) (Some held)) → HoldsTold made (Some stamp) (Some held)
  holds_told stamp held commit is_held is tells agreed =
      let same = (agrees_by_checksums stamp held).0 agreed in
      let sums : sum_at stamp.sums ≡ checksums commit.table = ap (λ (s : Stamp). sum_at s.sums) tells ∙ announces_checksums commit.table in
      record {
        commit = commit;
        is_commit = is;
        told_is = ap (λ s. Some s) tells;
        held_is = ap (λ v. Some v) (one_commit commit held is is_held (same.0 ∙ ap (λ (s : Stamp). s.byte) tells) (same.1 ∙ sums));
        only = λ other is_other told_other.
            let tells_other : stamp ≡ stamp_of_commit other = cc in
            one_commit commit other is is_other
            (sym (ap (λ (s : Stamp). s.byte) tells_other) ∙ ap (λ (s : Stamp). s.byte) tells)
            (sym (ap (λ (s : Stamp). sum_at s.sums) tells_other ∙ announces_checksums other.table) ∙ sums);
      }

  of_commits : (told : Option Stamp) (held : Option Version)
      → ((stamp : Stamp) → told ≡ Some stamp → (commit : Version) × IsCommit made commit × (stamp ≡ stamp_of_commit commit))
      → ((version : Version) → held ≡ Some version → IsCommit made version) → AreOfCommits made told held
  of_commits told held told_is held_is = record { told_is = told_is; held_is = held_is; agreed_is = agreed_is told held told_is held_is }
    where
      agreed_is : (t : Option Stamp) (h : Option Version) → ((stamp : Stamp) → t ≡ Some stamp → (commit : Version) × IsCommit made commit × (stamp ≡ stamp_of_commit commit))
          → ((version : Version) → h ≡ Some version → IsCommit made version) → IsTrue (agrees t h) → HoldsTold made t h
      agreed_is None h told_is held_is agreed = absurd (false≢true agreed)
      agreed_is (Some stamp) None told_is held_is agreed = absurd (false≢true agreed)
      agreed_is (Some stamp) (Some version) told_is held_is agreed =
          let c = told_is stamp refl in
          holds_told stamp version c.0 (held_is version refl) c.1 c.2 agreed

  -- this version is a commit, and so is each that it is
  the_version : (byte : ℕ) (table : List Entry) (commit : Version) → IsCommit made commit → byte ≡ commit.byte → commit.table ≡ table
      → (version : Version) → ◌≡◌ {A = Option Version} (Some (record { byte = byte; table = table })) (Some version) → IsCommit made version
  the_version byte table commit is bytes tables version e =
      let same : commit ≡ record { byte = byte; table = table } = λ i. record { byte = sym bytes i; table = tables i } in
      let one : record { byte = byte; table = table } ≡ version = cc in
      subst (IsCommit made) (same ∙ one) is

  -- ---- announcements
  module _ (stamp : Stamp) (changes : List Change) (tells : TellsCommit made stamp changes) (told : Option Stamp) (held : Option Version) (before : AreOfCommits made told held) where
    byte_is : stamp.byte ≡ tells.1.byte
    byte_is = ap (λ (s : Stamp). s.byte) tells.3

    sums_are : stamp.sums ≡ sums_of tells.1.table
    sums_are = ap (λ (s : Stamp). s.sums) tells.3

    is_commit : IsCommit made tells.1
    is_commit = (tells.0, tells.2)

    led : LeadsOn held stamp changes (announcement_row held stamp changes).table → LeadTo made tells.0 tells.1 changes → (table : List Entry) → (announcement_row held stamp changes).table ≡ Some table → tells.1.table ≡ table
    led l leads table is =
        let same : l.after ≡ table = let one = sym l.table_is ∙ is in cc in
        led_to_commit made are tells.0 tells.1 l.before changes l.after tells.2 leads (before.held_is l.before l.held_is) (sym byte_is ∙ l.byte_is) l.applied (l.sums_are ∙ ap sum_at sums_are ∙ announces_checksums tells.1.table)
        ∙ same

    -- the table that is held then, where it is another
    table_is : (table : List Entry) → (announcement_row held stamp changes).table ≡ Some table → tells.1.table ≡ table
    table_is table is = go (another_heard (announcement_row held stamp changes).outcome (sym (changes_as_heard held stamp changes) ∙ ap is_some is))
      where
        carried : (applied : (announcement_row held stamp changes).outcome ≡ Applied) → (changes ≡ []) ⊎ LeadTo made tells.0 tells.1 changes → tells.1.table ≡ table
        carried applied (inl none) = absurd ((applied_onward held stamp changes applied).0 none)
        carried applied (inr leads) = led (applied_onward held stamp changes applied).1 leads table is

        go : ((announcement_row held stamp changes).outcome ≡ Emptied) ⊎ ((announcement_row held stamp changes).outcome ≡ Applied) → tells.1.table ≡ table
        go (inl emptied) =
            let e = emptied_by_none held stamp changes emptied in
            let none : ◌≡◌ {A = List Entry} [] table = let one = sym e.1 ∙ is in cc in
            (announces_none_of_empty tells.1.table).0 (sym sums_are ∙ e.0) ∙ none
        go (inr applied) = carried applied tells.4

    held_then : (table : Option (List Entry)) → (announcement_row held stamp changes).table ≡ table → (version : Version) → held_after stamp.byte table held ≡ Some version → IsCommit made version
    held_then None is = before.held_is
    held_then (Some table) is = the_version stamp.byte table tells.1 is_commit byte_is (table_is table is)

    pub announced_of : AreOfCommits made (Some stamp) (held_after stamp.byte (announcement_row held stamp changes).table held)
    announced_of = of_commits (Some stamp) _
        (λ other e. (tells.1, is_commit, let same : stamp ≡ other = cc in sym same ∙ tells.3))
        (held_then (announcement_row held stamp changes).table refl)

  -- ---- parts
  -- a stamp that was told is that of another commit with the same byte and checksums
  told_again : (t stamp : Stamp) (one other : Version) → IsCommit made one → IsCommit made other → t ≡ stamp_of_commit one → stamp ≡ stamp_of_commit other → t.byte ≡ stamp.byte → sum_at t.sums ≡ sum_at stamp.sums → one ≡ other
  told_again t stamp one other is is_other t_is stamp_is bytes sums =
      one_commit other one is_other is
      (ap (λ (s : Stamp). s.byte) (sym t_is) ∙ bytes ∙ ap (λ (s : Stamp). s.byte) stamp_is)
      (sym (ap (λ (s : Stamp). sum_at s.sums) t_is ∙ announces_checksums one.table) ∙ sums ∙ ap (λ (s : Stamp). sum_at s.sums) stamp_is ∙ announces_checksums other.table)

  abbrev ArePieces : Option Stamp → Gathered → Type 0
  ArePieces told gathered = ArePiecesOfCommits made told gathered

  no_pieces : (told : Option Stamp) → ArePieces told none_gathered
  no_pieces told number records there = absurd (none-some records there)

  -- the parts that an announcement leaves
  kept_pieces : (stamp : Stamp) (changes : List Change) → TellsCommit made stamp changes → (told : Option Stamp) (gathered : Gathered) → ArePieces told gathered → ArePieces (Some stamp) (kept_under told stamp gathered)
  kept_pieces stamp changes tells None gathered pieces = no_pieces (Some stamp)
  kept_pieces stamp changes tells (Some t) gathered pieces = go (nat_eq t.byte stamp.byte && is_none (first_difference t.sums stamp.sums)) refl
    where
      go : (b : Bool) → (nat_eq t.byte stamp.byte && is_none (first_difference t.sums stamp.sums)) ≡ b → ArePieces (Some stamp) (cond b gathered none_gathered)
      go false is = no_pieces (Some stamp)
      go true is = λ number records there.
          let p = pieces number records there in
          let one : tells.1 ≡ p.0 = by_match t stamp is (λ bytes sums. sym (told_again t stamp p.0 tells.1 p.1 (tells.0, tells.2) (same_Some t (stamp_of_commit p.0) p.2) tells.3 bytes sums)) in
          (p.0, p.1, ap (λ s. Some s) (tells.3 ∙ ap stamp_of_commit one), p.3, p.4, p.5)

  -- a piece of the commit that was told beside those that are there
  piece_beside : (told : Option Stamp) (gathered : Gathered) → ArePieces told gathered → (number : ℕ) (commit : Version) → IsCommit made commit → told ≡ Some (stamp_of_commit commit) → number < piece_count commit.table
      → ArePieces told (with_table_part number (piece_count commit.table) (piece number commit.table) gathered)
  piece_beside told gathered pieces number commit is told_is below q records there =
      by_found (records_at q (of_count count gathered)) refl (nat_eq q number) refl (sym (found_beside q number count (piece number commit.table) gathered) ∙ there)
    where
      count : ℕ
      count = piece_count commit.table

      gone : Gathered
      gone = with_table_part number (piece_count commit.table) (piece number commit.table) gathered

      counted : gone.count ≡ piece_count commit.table
      counted = counted_with number (piece_count commit.table) (piece number commit.table) gathered

      Piece : List Change → Type 0
      Piece rs = (c : Version) × IsCommit made c × (told ≡ Some (stamp_of_commit c)) × (gone.count ≡ piece_count c.table) × (q < gone.count) × (rs ≡ piece q c.table)

      old : (rs : List Change) → records_at q (of_count (piece_count commit.table) gathered) ≡ Some rs → ((gathered.count ≡ piece_count commit.table) × (of_count (piece_count commit.table) gathered ≡ gathered)) ⊎ (of_count (piece_count commit.table) gathered ≡ record { count = piece_count commit.table; got = [] }) → Piece rs
      old rs is_there (inl same) =
          let p = pieces q rs (sym (ap (records_at q) same.1) ∙ is_there) in
          (p.0, p.1, p.2, counted ∙ sym same.0 ∙ p.3, subst (λ n. q < n) (same.0 ∙ sym counted) p.4, p.5)
      old rs is_there (inr new) = absurd (none-some rs (sym (ap (records_at q) new) ∙ is_there))

      by_found : (o : Option (List Change)) → records_at q (of_count (piece_count commit.table) gathered) ≡ o → (b : Bool) → nat_eq q number ≡ b → option_or o (cond b (Some (piece number commit.table)) None) ≡ Some records → Piece records
      by_found (Some other) found b same e =
          let same_records : other ≡ records = same_Some other records e in
          subst Piece same_records (old other found (of_same_or_new (piece_count commit.table) gathered))
      by_found None found true same e =
          let at : q ≡ number = eqb-true q number same in
          let are : piece number commit.table ≡ records = same_Some (piece number commit.table) records e in
          (commit, is, told_is, counted, subst (λ n. n < gone.count) (sym at) (subst (λ n. number < n) (sym counted) below), sym are ∙ ap (λ n. piece n commit.table) (sym at))
      by_found None found false same e = absurd (none-some records e)

  -- the commit that an answer carries is the one that was told, where it has what was told
  carried_is_told : (told : Option Stamp) (held : Option Version) → AreOfCommits made told held → (t stamp : Stamp) (commit : Version) → told ≡ Some t → IsCommit made commit → stamp ≡ stamp_of_commit commit → t.byte ≡ stamp.byte → sum_at t.sums ≡ sum_at stamp.sums
      → told ≡ Some (stamp_of_commit commit)
  carried_is_told told held before t stamp commit told_is is stamp_is bytes sums =
      let one = before.told_is t told_is in
      told_is ∙ ap (λ s. Some s) (one.2 ∙ ap stamp_of_commit (told_again t stamp one.0 commit one.1 is one.2 stamp_is bytes sums))

  -- a part that carries a piece of a commit beside those that are there
  carried_beside : (told : Option Stamp) (gathered : Gathered) → ArePieces told gathered → (stamp : Stamp) (number count : ℕ) (records : List Change) (carries : CarriesCommit made stamp (InPart number count records)) → told ≡ Some (stamp_of_commit carries.0)
      → ArePieces told (with_table_part number count records gathered)
  carried_beside told gathered pieces stamp number count records carries told_is =
      subst (λ n. ArePieces told (with_table_part number n records gathered)) (sym carries.3)
      (subst (λ rs. ArePieces told (with_table_part number (piece_count carries.0.table) rs gathered)) (sym carries.5)
      (piece_beside told gathered pieces number carries.0 carries.1 told_is (subst (λ n. number < n) carries.3 carries.4)))

  -- the parts that are gathered once an answer came
  gathered_pieces : (stamp : Stamp) (told : Option Stamp) (held : Option Version) → AreOfCommits made told held → (gathered : Gathered) → ArePieces told gathered → (carried : Carried) → CarriesCommit made stamp carried → ArePieces told (gathered_after told stamp carried gathered)
  gathered_pieces stamp None held before gathered pieces carried carries = pieces
  gathered_pieces stamp (Some t) held before gathered pieces carried carries = go (nat_eq t.byte stamp.byte && is_none (first_difference t.sums stamp.sums)) refl
    where
      while_open : (number count : ℕ) (records : List Change) → ArePieces (Some t) (with_table_part number count records gathered) → ArePieces (Some t) (while_missing (with_table_part number count records gathered))
      while_open number count records with_it =
          elim (is_some (missing_part (with_table_part number count records gathered))) as (λ b. ArePieces (Some t) (cond b (with_table_part number count records gathered) none_gathered)) [ true ↦ with_it | false ↦ no_pieces (Some t) ]

      from_part : (c : Carried) → CarriesCommit made stamp c → (nat_eq t.byte stamp.byte && is_none (first_difference t.sums stamp.sums)) ≡ true → ArePieces (Some t) (gathered_from c gathered)
      from_part (InFull records) has is = pieces
      from_part (InChanges records) has is = pieces
      from_part (InPart number count records) has is =
          let told_is = by_match t stamp is (λ bytes sums. carried_is_told (Some t) held before t stamp has.0 refl has.1 has.2 bytes sums) in
          elim (is_bad_part number count) as (λ b. ArePieces (Some t) (cond b gathered (while_missing (with_table_part number count records gathered)))) [
            | true ↦ pieces
            | false ↦ while_open number count records (carried_beside (Some t) gathered pieces stamp number count records has told_is)
          ]

      go : (b : Bool) → (nat_eq t.byte stamp.byte && is_none (first_difference t.sums stamp.sums)) ≡ b → ArePieces (Some t) (cond b (gathered_from carried gathered) gathered)
      go true is = from_part carried carries is
      go false is = pieces

  -- pieces of one commit that are all there are the commit in full
  all_pieces : (told : Option Stamp) (gathered : Gathered) → ArePieces told gathered → missing_part gathered ≡ None → (commit : Version) → IsCommit made commit → told ≡ Some (stamp_of_commit commit) → gathered.count ≡ piece_count commit.table → gathered_records gathered ≡ map addition commit.table
  all_pieces told gathered pieces complete commit is told_is count_is =
      same_together (λ number. unwrap_or (records_at number gathered) []) (λ number. piece number commit.table) 0 gathered.count (λ number below. each number (omega (arith, below)))
      ∙ ap (λ n. flat_map (λ number. piece number commit.table) (places n)) count_is ∙ pieces_make_table commit.table
    where
      each : (number : ℕ) → number < gathered.count → unwrap_or (records_at number gathered) [] ≡ piece number commit.table
      each number below =
          let there = each_there gathered complete number below in
          let p = pieces number there.0 there.1 in
          let stamps : stamp_of_commit p.0 ≡ stamp_of_commit commit = same_Some (stamp_of_commit p.0) (stamp_of_commit commit) (sym p.2 ∙ told_is) in
          ap (λ o. unwrap_or o []) there.1 ∙ p.5
          ∙ ap (λ (c : Version). piece number c.table) (told_again (stamp_of_commit p.0) (stamp_of_commit commit) p.0 commit p.1 is refl refl (ap (λ (s : Stamp). s.byte) stamps) (ap (λ (s : Stamp). sum_at s.sums) stamps))

  -- ---- answers
  module _ (stamp : Stamp) (told : Option Stamp) (held : Option Version) (gathered : Gathered) (before : AreOfCommits made told held) (pieces : ArePieces told gathered) where
    -- the table that is held then, where it is another, is one of the commits
    taken_is : (carried : Carried) → CarriesCommit made stamp carried → (answer_row told held gathered stamp carried).outcome ≡ IsTaken
        → (table : List Entry) → (answer_row told held gathered stamp carried).table ≡ Some table → (commit : Version) × IsCommit made commit × (stamp.byte ≡ commit.byte) × (commit.table ≡ table)
    taken_is (InFull records) carries taken table is =
        let t = taken_whole told held gathered stamp records taken in
        let same : t.2.whole ≡ table = let one = sym t.2.table_is ∙ is in cc in
        (carries.0, carries.1, ap (λ (s : Stamp). s.byte) carries.2, made_of_commit made are carries.0 t.2.whole carries.1 (sym (ap (apply_strictly []) carries.3) ∙ t.2.applied) ∙ same)
    taken_is (InPart number count records) carries taken table is =
        let t = (taken_in_parts told held gathered stamp number count records taken).1 in
        let same : t.make.whole ≡ table = let one = sym t.make.table_is ∙ is in cc in
        let told_is = carried_is_told told held before t.wanted stamp carries.0 t.is_told.told_is carries.1 carries.2 t.is_told.byte_is t.is_told.sums_are in
        let whole = all_pieces told (with_table_part number count records gathered) (carried_beside told gathered pieces stamp number count records carries told_is) t.complete carries.0 carries.1 told_is (counted_with number count records gathered ∙ carries.3) in
        (carries.0, carries.1, ap (λ (s : Stamp). s.byte) carries.2, made_of_commit made are carries.0 t.make.whole carries.1 (sym (ap (apply_strictly []) whole) ∙ t.make.applied) ∙ same)
    taken_is (InChanges records) carries taken table is =
        let t = taken_onward told held gathered stamp records taken in
        let l = t.2 in
        let byte = ap (λ (s : Stamp). s.byte) carries.3 in
        let same : l.after ≡ table = let one = sym l.table_is ∙ is in cc in (
          carries.1,
          (carries.0, carries.2),
          byte,
          led_to_commit made are carries.0 carries.1 l.before records l.after carries.2 carries.4 (before.held_is l.before l.held_is) (sym byte ∙ sym t.1.byte_is ∙ l.byte_is) l.applied
              (l.sums_are ∙ t.1.sums_are ∙ ap (λ (s : Stamp). sum_at s.sums) carries.3 ∙ announces_checksums carries.1.table)
              ∙ same,
        )

    held_now : (carried : Carried) → CarriesCommit made stamp carried → (table : Option (List Entry)) → (answer_row told held gathered stamp carried).table ≡ table → (version : Version) → held_after stamp.byte table held ≡ Some version → IsCommit made version
    held_now carried carries None is = before.held_is
    held_now carried carries (Some table) is =
        let taken = another_taken (answer_row told held gathered stamp carried).outcome (sym (changes_as_taken told held gathered stamp carried) ∙ ap is_some is) in
        let one = taken_is carried carries taken table is in
        the_version stamp.byte table one.0 one.1 one.2 one.3

    pub answered_of : (carried : Carried) → CarriesCommit made stamp carried → AreOfCommits made told (held_after stamp.byte (answer_row told held gathered stamp carried).table held)
    answered_of carried carries = of_commits told _ before.told_is (held_now carried carries (answer_row told held gathered stamp carried).table refl)

  -- ---- all that came
  abbrev Stands : Known → Type 0
  Stands known = AreOfCommits made (stamp_of known) known.held × ArePieces (stamp_of known) known.gathered

  nothing_of : Stands nothing
  nothing_of = (of_commits None None (λ stamp e. cc) (λ version e. cc), no_pieces None)

  known_of : (orig : Mac) (calls : TableCalls) → AllByRecursion (IsOfCommits made orig) calls → Stands (known_by calls orig)
  known_of orig [] each = nothing_of
  known_of orig (Announced for frame stamp changes ∷ calls) each = go (same_mac for orig) refl (known_of orig calls each.1)
    where
      go : (b : Bool) → same_mac for orig ≡ b → Stands (known_by calls orig) → Stands (cond b (announced frame stamp changes (known_by calls orig)) (known_by calls orig))
      go true t before =
          let tells = each.0 (same_exact for orig t) in
          let told = stamp_of (known_by calls orig) in
          (announced_of stamp changes tells told (known_by calls orig).held before.0, kept_pieces stamp changes tells told (known_by calls orig).gathered before.1)
      go false t before = before
  known_of orig (Answered for stamp carried ∷ calls) each = go (same_mac for orig) refl (known_of orig calls each.1)
    where
      go : (b : Bool) → same_mac for orig ≡ b → Stands (known_by calls orig) → Stands (cond b (answered stamp carried (known_by calls orig)) (known_by calls orig))
      go true t before =
          let carries = each.0 (same_exact for orig t) in
          let known = known_by calls orig in (
            answered_of stamp (stamp_of known) known.held known.gathered before.0 before.1 carried carries,
            gathered_pieces stamp (stamp_of known) known.held before.0 known.gathered before.1 carried carries,
          )
      go false t before = before
  known_of orig (Dropped for ∷ calls) each = go (same_mac for orig) (known_of orig calls each.1)
    where
      go : (b : Bool) → Stands (known_by calls orig) → Stands (cond b nothing (known_by calls orig))
      go true before = nothing_of
      go false before = before

-- ---- the laws
pub known_are_of_commits : KnownAreOfCommits
known_are_of_commits made orig calls came = (known_of made came.commits orig calls came.each).0

pub gathered_are_of_commits : GatheredAreOfCommits
gathered_are_of_commits made orig calls came = (known_of made came.commits orig calls came.each).1

pub commits_are_told_whole : CommitsAreToldWhole
commits_are_told_whole commit order = record {
  wanted = stamp_of_commit commit;
  entries = commit.table;
  is_told = record { told_is = refl; byte_is = refl; sums_are = refl };
  records_are = refl;
  distinct = IsDistinct-from_sorted key_order (map (λ (entry : Entry). entry.key) commit.table) order;
  sums_are = sym (announces_checksums commit.table);
}
