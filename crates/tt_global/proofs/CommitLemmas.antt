-- What is kept of an originator while all that came tells of its commits, and once the whole table
-- that was told comes.
use Rattle.std.proofs.Common.{◌≡◌, ℕ, cond, Option, Some, List, ◌∷◌, ◌++◌, IsTrue, sym, ap, ap₂, ◌∙◌, subst}
use Rattle.mesh_base.specs.declared.address.Mac.{Mac}
use Rattle.mesh_model.specs.declared.table_change.Change.{Change}
use Rattle.mesh_model.specs.declared.table_outcome.Taken.{Taken}
use Rattle.mesh_model.specs.declared.table_outcome.Taken.TheVariants.{Taken as IsTaken}
use Rattle.mesh_model.specs.Tables.Judging.{InFull, InPart, answer_row}
use Rattle.mesh_model.specs.Tables.Known.{Answered, TableCalls, agrees, answered, is_agreed, known_by, stamp_of}
use Rattle.mesh_model.specs.Tables.Versions.{Stamp, Version}
use Rattle.mesh_laws.specs.HeldLaws.{AreOfCommits, CameFrom, HoldsTold}
use Rattle.mesh_laws.specs.KnownLaws.{ArePartsOf, IsLastPart, IsToldWhole}
use Rattle.mesh_laws.proofs.HeldLemmas.{known_are_of_commits}
use Rattle.mesh_laws.proofs.KnownLemmas.{full_answer_is_taken}
use Rattle.mesh_laws.proofs.MacLemmas.{same_self}
use Rattle.mesh_laws.proofs.PartLemmas.{parts_are_taken}
use Rattle.tt_global.specs.Globals.{GlobalsStand, Kept, KeepsAgreed, KeepsCommits}
use Rattle.tt_global.specs.Kept.{answer_of, held_in, row_in, told_in}
use Rattle.tt_global.specs.declared.judging.Judged.{Judged}
use Rattle.tt_global.specs.declared.known.KnownTable.{KnownTable}
use Rattle.tt_global.proofs.StandLemmas.{at, taken_is}

-- what is kept is of the commits of which all that came tells
pub keeps_commits : (made : List Version) (orig : Mac) (kept : Kept) (calls : TableCalls) → GlobalsStand kept calls → CameFrom made orig calls → KeepsCommits made orig kept
keeps_commits made orig kept calls stands came =
    subst (λ t. AreOfCommits made t (held_in (at orig kept))) (sym (stands.told orig))
    (subst (λ h. AreOfCommits made (stamp_of (known_by calls orig)) h) (sym (stands.held orig)) (known_are_of_commits made orig calls came))

-- whether what is held of an originator agrees, by what is kept of it
pub agreed_by_kept : (kept : Kept) (calls : TableCalls) (stands : GlobalsStand kept calls) (orig : Mac) (known : KnownTable) → at orig kept ≡ Some known
    → agrees (told_in (Some known)) (held_in (Some known)) ≡ is_agreed (known_by calls orig)
agreed_by_kept kept calls stands orig known found = ap₂ agrees (ap told_in (sym found) ∙ stands.told orig) (ap held_in (sym found) ∙ stands.held orig)

-- where it agrees, what is held is the commit that was told
pub agreed_holds_told : (kept : Kept) (calls : TableCalls) (stands : GlobalsStand kept calls) (orig : Mac) (known : KnownTable) → at orig kept ≡ Some known → (made : List Version) → CameFrom made orig calls
    → IsTrue (agrees (told_in (Some known)) (held_in (Some known))) → HoldsTold made (stamp_of (known_by calls orig)) (known_by calls orig).held
agreed_holds_told kept calls stands orig known found made came agreed =
    (known_are_of_commits made orig calls came).agreed_is (sym (agreed_by_kept kept calls stands orig known found) ∙ agreed)

-- the whole table that was told is taken, and what is kept agrees then
pub whole_taken : (calls : TableCalls) (orig : Mac) (stamp : Stamp) (records : List Change) (old : Kept) (stands : GlobalsStand old calls) (judged : Judged Taken) (kept : Option KnownTable)
    → kept ≡ at orig old → row_in judged ≡ answer_of kept stamp (InFull records) → IsToldWhole (stamp_of (known_by calls orig)) stamp records → judged.outcome ≡ IsTaken
whole_taken calls orig stamp records old stands judged kept was is whole =
    taken_is calls orig stamp (InFull records) old stands judged kept was is ∙ (full_answer_is_taken (known_by calls orig) stamp records whole).0

pub whole_agrees : (calls : TableCalls) (orig : Mac) (stamp : Stamp) (records : List Change) (new : Kept) → GlobalsStand new (Answered orig stamp (InFull records) ∷ calls) → IsToldWhole (stamp_of (known_by calls orig)) stamp records → KeepsAgreed orig new
whole_agrees calls orig stamp records new then whole =
    ap₂ agrees (then.told orig) (then.held orig)
    ∙ ap (λ b. is_agreed (cond b (answered stamp (InFull records) (known_by calls orig)) (known_by calls orig))) (same_self orig)
    ∙ (full_answer_is_taken (known_by calls orig) stamp records whole).1

-- the last part of the table that was told is taken, and what is kept agrees then
module _ (orig : Mac) (before came : TableCalls) (wanted stamp : Stamp) (count number : ℕ) (parts : ℕ → List Change) (are : ArePartsOf wanted count parts) (last : IsLastPart orig before came wanted stamp count number parts) (records : List Change) (records_are : records ≡ parts number) where
  pub last_taken : (old : Kept) (stands : GlobalsStand old (came ++ before)) (judged : Judged Taken) (kept : Option KnownTable) → kept ≡ at orig old → row_in judged ≡ answer_of kept stamp (InPart number count records) → judged.outcome ≡ IsTaken
  last_taken old stands judged kept was is =
      taken_is (came ++ before) orig stamp (InPart number count records) old stands judged kept was is
      ∙ ap (λ rs. (answer_row (stamp_of (known_by (came ++ before) orig)) (known_by (came ++ before) orig).held (known_by (came ++ before) orig).gathered stamp (InPart number count rs)).outcome) records_are
      ∙ (parts_are_taken orig before came wanted stamp count number parts are last).0

  pub last_agrees : (new : Kept) → GlobalsStand new (Answered orig stamp (InPart number count records) ∷ came ++ before) → KeepsAgreed orig new
  last_agrees new then =
      ap₂ agrees (then.told orig) (then.held orig)
      ∙ ap (λ rs. is_agreed (known_by (Answered orig stamp (InPart number count rs) ∷ came ++ before) orig)) records_are
      ∙ (parts_are_taken orig before came wanted stamp count number parts are last).1
