-- What the answers carry: a commit in full, or the changes that led to the last one.
use Rattle.std.proofs.Common.{◌≡◌, ℕ, ◌+◌, ◌-◌, ◌<◌, ◌==◌, ◌&&◌, not, Bool, true, false, cond, List, [], ◌∷◌, length, Option, Some, None, refl, sym, ap, ◌∙◌, subst, arith}
use Rattle.std.proofs.lemmas.Bool.{false≢true}
use Rattle.std.proofs.lemmas.Bool.Decides.{nat_tests}
use Rattle.mesh_base.specs.declared.address.Mac.{Mac}
use Rattle.mesh_model.specs.declared.table_change.Change.{Change}
use Rattle.mesh_model.specs.Commits.Announcements.{are_few, if_few, told_changes}
use Rattle.mesh_model.specs.Commits.History.{History, is_first}
use Rattle.mesh_model.specs.Commits.Versions.{changes_to_last, last_commit}
use Rattle.mesh_model.specs.Tables.Answers.{Reply as Answer, changes_reply, full_reply, own_reply}
use Rattle.mesh_model.specs.Tables.Changes.{IsInKeyOrder}
use Rattle.mesh_model.specs.Tables.Judging.{Carried, InFull, InChanges}
use Rattle.mesh_model.specs.Tables.Known.{TableCalls, known_by}
use Rattle.mesh_model.specs.Tables.Versions.{Version}
use Rattle.mesh_laws.specs.HeldLaws.{CameFrom, CarriesCommit, stamp_of_commit}
use Rattle.mesh_laws.specs.KnownLaws.{IsToldWhole}
use Rattle.mesh_laws.specs.Machine.World.{IsCommit}
use Rattle.mesh_laws.proofs.HeldLemmas.{commits_are_told_whole, known_are_of_commits}
use Rattle.mesh_laws.proofs.MachineInvariant.{last_lead, last_numbered}
use Rattle.tt_local.specs.Journal.{AreInKeyOrder, JournalStands, JournalView}
use Rattle.tt_local.proofs.JournalLemmas.{last_follows}

-- what an answer of the model carries
abbrev pub carried : Answer → Carried
carried answer = cond answer.full (InFull answer.records) (InChanges answer.records)

abbrev pub Carries : List Version → Answer → Type 0
Carries made answer = CarriesCommit made answer.stamp (carried answer)

-- a commit in full carries it
pub full_carries : (made : List Version) (commit : Version) → IsCommit made commit → Carries made (full_reply commit)
full_carries made commit is = (commit, is, refl, refl)

-- the answer from a held table carries a commit in full
pub other_carries : (made : List Version) (orig : Mac) (calls : TableCalls) → CameFrom made orig calls → (held : Version) → (known_by calls orig).held ≡ Some held → (answer : Answer) → answer ≡ full_reply held
    → (answer.full ≡ true) × Carries made answer
other_carries made orig calls came held holds answer is =
    subst (λ (a : Answer). (a.full ≡ true) × Carries made a) (sym is) (refl, full_carries made held ((known_are_of_commits made orig calls came).held_is held holds))

-- ---- the own answers
-- the last of commits that a journal keeps
record Last (commits : List Version) : Type 0 where
  commit : Version
  older : List Version
  is : commits ≡ commit ∷ older

last_of : (view : JournalView) (history : History) → JournalStands view history → Last history.commits
last_of view history stands = go history.commits stands.count
  where
    go : (commits : List Version) → length commits ≡ length view.past + 1 → Last commits
    go [] none = absurd (omega (arith, none))
    go (commit ∷ older) count = record { commit = commit; older = older; is = refl }

carries_changes : (view : JournalView) (history : History) → JournalStands view history → (changes : List Change) → Some changes ≡ told_changes history → Carries history.commits (changes_reply (last_commit history.commits) changes)
carries_changes view history stands changes told = by_first (is_first history) refl told
  where
    few : (b : Bool) (all : List Change) → Some changes ≡ cond b (Some all) None → changes ≡ all
    few true all e = cc
    few false all e = absurd cc

    by_commits : (commits : List Version) → history.commits ≡ commits → is_first history ≡ false → changes ≡ changes_to_last commits → 0 < length commits - 1 → Carries commits (changes_reply (last_commit commits) changes)
    by_commits [] is follows are some = absurd (omega (arith, some))
    by_commits (first ∷ []) is follows are some = absurd (omega (arith, some))
    by_commits (last ∷ (before ∷ older)) is follows are some =
        (length (before ∷ older), last, last_numbered last (before ∷ older), refl, last_lead last (before ∷ older) changes (last_follows view history stands follows last before older is, are))

    by_first : (first : Bool) → is_first history ≡ first → Some changes ≡ cond first None (if_few (cond first [] (changes_to_last history.commits))) → Carries history.commits (changes_reply (last_commit history.commits) changes)
    by_first true is e = absurd cc
    by_first false is e =
        let start = stands.start in
        let begun = stands.begun in
        let count = stands.count in
        let some : 0 < length history.commits - 1 = grind (arith, nat_tests, is, start, begun, count) in
        by_commits history.commits refl is (few (are_few (changes_to_last history.commits)) (changes_to_last history.commits) e) some

first_is : (commits : List Version) (commit : Version) (older : List Version) → commits ≡ commit ∷ older → IsCommit commits (last_commit commits)
first_is commits commit older is = subst (λ cs. IsCommit cs (last_commit cs)) (sym is) (length older, last_numbered commit older)

own_reply_carries : (view : JournalView) (history : History) → JournalStands view history → (full : Bool) (byte : ℕ) → Carries history.commits (own_reply full byte (last_commit history.commits) (told_changes history))
own_reply_carries view history stands full byte = by_told (told_changes history) refl
  where
    whole : Carries history.commits (full_reply (last_commit history.commits))
    whole = let last = last_of view history stands in full_carries history.commits (last_commit history.commits) (first_is history.commits last.commit last.older last.is)

    by_wish : (wanted : Bool) (changes : List Change) → Some changes ≡ told_changes history
        → Carries history.commits (cond wanted (changes_reply (last_commit history.commits) changes) (full_reply (last_commit history.commits)))
    by_wish true changes told = carries_changes view history stands changes told
    by_wish false changes told = whole

    by_told : (told : Option (List Change)) → told ≡ told_changes history → Carries history.commits (own_reply full byte (last_commit history.commits) told)
    by_told None is = whole
    by_told (Some changes) is = by_wish (not full && (byte == (last_commit history.commits).byte)) changes is

-- the own answer carries a commit
pub own_carries : (view : JournalView) (history : History) → JournalStands view history → (full : Bool) (byte : ℕ) (answer : Answer) → answer ≡ own_reply full byte (last_commit history.commits) (told_changes history) → Carries history.commits answer
own_carries view history stands full byte answer is = subst (Carries history.commits) (sym is) (own_reply_carries view history stands full byte)

ordered : (view : JournalView) (history : History) → JournalStands view history → IsInKeyOrder (last_commit history.commits).table
ordered view history stands =
    let last = last_of view history stands in
    subst (λ cs. AreInKeyOrder cs → IsInKeyOrder (last_commit cs).table) (sym last.is) (λ each. each.0) stands.ordered

-- the own answer in full is the whole table of the last commit
pub own_whole : (view : JournalView) (history : History) → JournalStands view history → (full : Bool) (byte : ℕ) (answer : Answer) → answer ≡ own_reply full byte (last_commit history.commits) (told_changes history)
    → answer.full ≡ true → IsToldWhole (Some (stamp_of_commit (last_commit history.commits))) answer.stamp answer.records
own_whole view history stands full byte answer is whole =
    subst (λ (a : Answer). IsToldWhole (Some (stamp_of_commit (last_commit history.commits))) a.stamp a.records) (sym (is ∙ by_told (told_changes history) (ap (λ (a : Answer). a.full) (sym is) ∙ whole)))
    (commits_are_told_whole (last_commit history.commits) (ordered view history stands))
  where
    by_wish : (wanted : Bool) (changes : List Change) → (cond wanted (changes_reply (last_commit history.commits) changes) (full_reply (last_commit history.commits))).full ≡ true
        → cond wanted (changes_reply (last_commit history.commits) changes) (full_reply (last_commit history.commits)) ≡ full_reply (last_commit history.commits)
    by_wish true changes e = absurd (false≢true e)
    by_wish false changes e = refl

    by_told : (told : Option (List Change)) → (own_reply full byte (last_commit history.commits) told).full ≡ true → own_reply full byte (last_commit history.commits) told ≡ full_reply (last_commit history.commits)
    by_told None e = refl
    by_told (Some changes) e = by_wish (not full && (byte == (last_commit history.commits).byte)) changes e
