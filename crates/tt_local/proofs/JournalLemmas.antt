-- How a journal stands for a history at commit 0, after a commit, and after one more first commit.
use Rattle.std.proofs.Common.{◌≡◌, ◌⊎◌, inl, inr, ⊎_elim, ℕ, ◌+◌, ◌-◌, ◌%◌, ◌<◌, ◌≤◌, ◌++◌, Bool, true, false, cond, List, [], ◌∷◌, drop, length, map, slice_get, Some, Ok, option_and_then, refl, sym, ap, ap₂, ◌∙◌, subst, arith, append-nil}
use Rattle.std.proofs.lemmas.Bool.Decides.{nat_tests}
use Rattle.std.proofs.lemmas.List.{length-append}
use Rattle.std.proofs.lemmas.Option.{slice_get_within}
use Rattle.mesh_base.specs.declared.client.Entry.{Entry}
use Rattle.mesh_base.specs.declared.client.Key.{Key}
use Rattle.mesh_model.specs.declared.table_change.Change.{Change}
use Rattle.mesh_model.specs.Commits.History.{first_history, History, is_first, restarted, with_commit}
use Rattle.mesh_model.specs.Commits.Versions.{changes_to_last, commit_numbered, first_commit, last_commit}
use Rattle.mesh_model.specs.Tables.Versions.{Version, next_byte}
use Rattle.mesh_model.specs.Tables.Changes.{IsInKeyOrder, changeset, flags_at, missing_from, deletion}
use Rattle.mesh_model.specs.Tables.Strict.{apply_strictly}
use Rattle.mesh_model.specs.Tables.Sums.{sums_of}
use Rattle.mesh_laws.proofs.MachineInvariant.{number_below}
use Rattle.mesh_laws.proofs.TableChanges.{changeset_leads}
use Rattle.tt_local.specs.Clients.{ClientsStand, client_at}
use Rattle.tt_local.specs.Journal.{AreInKeyOrder, AreTwins, GoesOn, HasCommitted, HasRestarted, HasTableOf, HasTwin, JournalStands, JournalView, all_runs, past_of, present_run, runs_before, snapshots_of, with_snapshot}
use Rattle.tt_local.specs.Runs.{AreNumbered, IsAmong, is_kept}
use Rattle.tt_local.specs.declared.run.Run.{Run}
use Rattle.tt_local.specs.Roster.{IsTracked, RosterView, kept_flags}
use Rattle.tt_local.specs.declared.client.Client.{Client}
use Rattle.tt_local.proofs.NumberedLemmas.{a_newest, from_end, newest_number, number_made, older_number, table_before, table_kept}
use Rattle.tt_local.proofs.RosterLemmas.{none_sorted}
use Rattle.tt_local.proofs.RunLemmas.{among_end, begins_anew, ends_before, goes_on, in_from, last_there, left_off}

-- ---- the journal after a commit
-- the changes to the empty table are the deletions of all entries
pub emptying : (table : List Entry) → changeset table [] ≡ map deletion table
emptying table = ap (λ es. map deletion es ++ []) (all_missing table) ∙ append-nil (map deletion table)
  where
    all_missing : (es : List Entry) → missing_from [] es ≡ es
    all_missing [] = refl
    all_missing (e ∷ es) = ap (λ rest. e ∷ rest) (all_missing es)

-- they lead there
pub emptied : (table new : List Entry) → IsInKeyOrder table → new ≡ [] → apply_strictly table (changeset table []) ≡ Ok new
emptied table new ordered is = changeset_leads table [] ordered none_sorted ∙ ap Ok (sym is)

-- the table after a commit is that to which the changes lead
pub table_after : (changes : List Change) (old new : JournalView) (table : List Entry) → HasCommitted changes old new → changes ≡ changeset old.table table → IsInKeyOrder old.table → IsInKeyOrder table → new.table ≡ table
table_after changes old new table made are ordered others =
    let led : apply_strictly old.table changes ≡ Ok table = ap (apply_strictly old.table) are ∙ changeset_leads old.table table ordered others in
    let both : Ok new.table ≡ Ok table = sym made.table ∙ led in
    cc

-- a commit keeps the table of another as commits are added
twin_kept : (c : Version) (cs : List Version) (twin number : ℕ) → number < length cs → HasTableOf twin number cs → HasTableOf twin number (c ∷ cs)
twin_kept c cs twin number below twins = λ table has. table_kept c twin table cs (twins table (table_before c number table cs below has))

twins_more : (c : Version) (cs : List Version) (old new : List ℕ) (twin count : ℕ) → new ≡ old ++ twin ∷ [] → length old ≡ count → count < length cs → AreTwins old cs → HasTableOf twin count cs → AreTwins new (c ∷ cs)
twins_more c cs old new twin count more long below twins is = λ n t got. go n t (from_end old twin t n (ap (λ l. slice_get l n) (sym more) ∙ got))
  where
    go : (n t : ℕ) → ((n ≡ length old) × (t ≡ twin)) ⊎ (slice_get old n ≡ Some t) → HasTableOf t n (c ∷ cs)
    go n t (inl p) = twin_kept c cs t n (omega (arith, p.0, long, below)) (subst (λ m. HasTableOf t m cs) (sym (p.0 ∙ long)) (subst (λ u. HasTableOf u count cs) (sym p.1) is))
    go n t (inr h) = let within = slice_get_within old n t h in twin_kept c cs t n (omega (arith, within, long, below)) (twins n t h)

-- the journal after one more commit, where its logs number it too
journal_follows : (changes : List Change) (old new : JournalView) (history : History) (byte : ℕ) (table : List Entry) → HasCommitted changes old new → HasTwin old new → JournalStands old history → changes ≡ changeset old.table table → IsInKeyOrder table → new.start ≤ length new.past
    → AreNumbered (all_runs new) (record { byte = byte; table = table } ∷ history.commits) → JournalStands new (record { commits = record { byte = byte; table = table } ∷ history.commits; start = new.start; sent = 0 })
journal_follows changes old new history byte table made twinned stands are ordered begun = go history.commits refl stands.count stands.table stands.changes stands.past stands.twins (twinned.twin_is history stands) stands.snapshots stands.ordered
  where
    go : (commits : List Version) → history.commits ≡ commits → length commits ≡ length old.past + 1 → old.table ≡ (last_commit commits).table → old.changes ≡ changes_to_last commits → old.past ≡ past_of (drop 1 commits) → AreTwins old.twins commits → HasTableOf twinned.twin (length old.past) commits → old.snapshots ≡ snapshots_of (drop 1 commits) → AreInKeyOrder commits
        → AreNumbered (all_runs new) (record { byte = byte; table = table } ∷ history.commits) → JournalStands new (record { commits = record { byte = byte; table = table } ∷ history.commits; start = new.start; sent = 0 })
    go [] is count tables changed past twins twin snapshots orders numbered = absurd (omega (arith, count))
    go (newest ∷ older) is count tables changed past twins twin snapshots orders numbered =
        let longer : length new.past ≡ length old.past + 1 = ap length made.past ∙ length-append old.past _ in
        let number : length old.past ≡ length older = omega (arith, count) in
        let became : new.table ≡ table = table_after changes old new table made are (subst IsInKeyOrder (sym tables) orders.0) ordered in
        let numbers : AreNumbered (all_runs new) (record { byte = byte; table = table } ∷ (newest ∷ older)) = subst (λ (cs : List Version). AreNumbered (all_runs new) (record { byte = byte; table = table } ∷ cs)) is numbered in
        subst (λ (cs : List Version). JournalStands new (record { commits = record { byte = byte; table = table } ∷ cs; start = new.start; sent = 0 })) (sym is) (record {
          table = became;
          start = refl;
          begun = begun;
          numbered = numbers;
          changes = made.changes_are ∙ are ∙ ap (λ t. changeset t table) tables;
          count = omega (arith, count, longer);
          past = made.past ∙ ap₂ (λ ps p. ps ++ p ∷ []) past (ap₂ (λ c t. record { changes = c; sums = sums_of t }) changed tables);
          twins = twins_more _ (newest ∷ older) old.twins new.twins twinned.twin (length old.past) twinned.twins stands.twin_count (omega (arith, number)) twins twin;
          twin_count = (let more = ap length twinned.twins ∙ length-append old.twins (twinned.twin ∷ []) in let long = stands.twin_count in omega (arith, more, long, longer));
          snapshots = made.snapshots ∙ ap (λ n. with_snapshot n old.table old.snapshots) number ∙ ap₂ (λ t ss. with_snapshot (length older) t ss) tables snapshots;
          sent = made.sent;
          ordered = (ordered, orders);
        })

-- the last commit has the last number
last_at : (view : JournalView) (history : History) → JournalStands view history → (number : ℕ) (last : Version) → number ≡ length view.past → commit_numbered number history.commits ≡ Some last → last ≡ last_commit history.commits
last_at view history stands number last at found =
    let (c, older, is, long) = a_newest view history stands in
    let both : Some c ≡ Some last = sym (newest_number c number older (at ∙ long)) ∙ ap (commit_numbered number) (sym is) ∙ found in
    let same : last ≡ c = cc in
    same ∙ ap last_commit (sym is)

-- the last commit is under its number in the log that goes on
pub byte_of_last : (view : JournalView) (history : History) → JournalStands view history → (length view.past - view.start) % 256 ≡ (last_commit history.commits).byte
byte_of_last view history stands =
    let (c, older, is, long) = a_newest view history stands in
    let begun = stands.begun in
    let at : commit_numbered (length view.past) history.commits ≡ Some c = ap (commit_numbered (length view.past)) is ∙ newest_number c (length view.past) older long in
    let within = in_from (length view.past) (present_run view) begun (omega (arith, begun)) in
    sym (ap (λ cs. (last_commit cs).byte) is ∙ stands.numbered.within (present_run view) (length view.past) c (length view.runs, last_there view.runs (present_run view)) within at)

-- a last commit that isn't a first one is under the byte after that of the one before
pub last_follows : (view : JournalView) (history : History) → JournalStands view history → is_first history ≡ false → (last before : Version) (older : List Version) → history.commits ≡ last ∷ (before ∷ older) → last.byte ≡ next_byte before.byte
last_follows view history stands follows last before older is =
    let run = present_run view in
    let there : IsAmong run (all_runs view) = (length view.runs, last_there view.runs run) in
    let begun = stands.begun in
    let start = stands.start in
    let count = stands.count in
    let long = ap length is in
    let apart : view.start < length view.past = grind (arith, nat_tests, follows, begun, start, count) in
    let at : commit_numbered (length view.past) history.commits ≡ Some last = ap (commit_numbered (length view.past)) is ∙ newest_number last (length view.past) (before ∷ older) (omega (arith, count, long)) in
    let before_at : commit_numbered (length older) history.commits ≡ Some before =
    ap (commit_numbered (length older)) is ∙ older_number last (length older) (before ∷ older) (omega arith) ∙ newest_number before (length older) older refl in
    let mine = stands.numbered.within run (length view.past) last there (in_from (length view.past) run begun (omega (arith, begun))) at in
    let its = stands.numbered.within run (length older) before there (in_from (length older) run (omega (arith, apart, count, long)) (omega (arith, begun, count, long))) before_at in
    omega (arith, mine, its, apart, count, long)

pub journal_committed : (changes : List Change) (old new : JournalView) (history : History) (table : List Entry) → HasCommitted changes old new → HasTwin old new → GoesOn old new → JournalStands old history → changes ≡ changeset old.table table → IsInKeyOrder table → JournalStands new (with_commit table history)
journal_committed changes old new history table made twinned on stands are ordered =
    let version : Version = record { byte = next_byte (last_commit history.commits).byte; table = table } in
    let longer : length new.past ≡ length old.past + 1 = ap length made.past ∙ length-append old.past _ in
    let begun = stands.begun in
    let count = stands.count in
    let started = on.start in
    let long : length history.commits ≡ old.start + (present_run old).count = omega (arith, count, begun) in
    let numbers = goes_on old.runs old.start (present_run old).count version history.commits long (omega arith) stands.numbered
    (λ last at. ap (λ (v : Version). next_byte v.byte) (sym (last_at old history stands (old.start + (present_run old).count - 1) last (omega (arith, begun)) at)))
    (λ number below. number_made old history stands number (omega (arith, below, count))) in
    let present : present_run new ≡ record { first = old.start; count = (present_run old).count + 1 } =
    ap₂ (λ first many. record { first = first; count = many }) started (omega (arith, started, longer, begun)) in
    let runs : all_runs new ≡ old.runs ++ record { first = old.start; count = (present_run old).count + 1 } ∷ [] = ap₂ (λ rs r. rs ++ r ∷ []) on.runs present in
    subst (λ first. JournalStands new (record { commits = version ∷ history.commits; start = first; sent = 0 })) (started ∙ stands.start)
    (journal_follows changes old new history version.byte table made twinned stands are ordered (omega (arith, started, longer, begun))
    (subst (λ rs. AreNumbered rs (version ∷ history.commits)) (sym runs) numbers))

-- the logs before the next one number the commits, and end where it begins
before_next : (view : JournalView) (history : History) → JournalStands view history → (kept : Bool) → is_kept (present_run view) ≡ kept → AreNumbered (cond kept (all_runs view) view.runs) history.commits × ((run : Run) → IsAmong run (cond kept (all_runs view) view.runs) → (run.first + run.count ≤ length history.commits) × (run.first < length history.commits))
before_next view history stands kept is = go kept is
  where
    ends : (run : Run) → IsAmong run view.runs → (run.first + run.count ≤ length history.commits) × (run.first < length history.commits)
    ends run there =
        let low = ends_before view.runs (present_run view) history.commits stands.numbered run there in
        let begun = stands.begun in
        let count = stands.count in
        (omega (arith, low, begun, count), omega (arith, low, begun, count))

    last : (run : Run) → run ≡ present_run view → (run.first + run.count ≤ length history.commits) × (run.first < length history.commits)
    last run is =
        let first = ap (λ (r : Run). r.first) is in
        let many = ap (λ (r : Run). r.count) is in
        let begun = stands.begun in
        let count = stands.count in
        (omega (arith, first, many, begun, count), omega (arith, first, begun, count))

    go : (kept : Bool) → is_kept (present_run view) ≡ kept → AreNumbered (cond kept (all_runs view) view.runs) history.commits × ((run : Run) → IsAmong run (cond kept (all_runs view) view.runs) → (run.first + run.count ≤ length history.commits) × (run.first < length history.commits))
    go true is = (stands.numbered, λ run there. ⊎_elim (λ same. last run same) (λ old. ends run old) (among_end view.runs (present_run view) run there))
    go false is = (left_off view.runs (present_run view) history.commits stands.numbered is, ends)

-- the journal after one more first commit
pub journal_restarted : (old new : JournalView) (history : History) → HasCommitted (changeset old.table []) old new → HasTwin old new → HasRestarted old new → JournalStands old history → JournalStands new (restarted history)
journal_restarted old new history made twinned anew stands =
    let longer : length new.past ≡ length old.past + 1 = ap length made.past ∙ length-append old.past _ in
    let count = stands.count in
    let started = anew.start in
    let first : new.start ≡ length history.commits = omega (arith, started, longer, count) in
    let before = before_next old history stands (is_kept (present_run old)) refl in
    let numbers = begins_anew (runs_before old) history.commits before.0 (λ run there. (before.1 run there).0) (λ run there. (before.1 run there).1) in
    let present : present_run new ≡ record { first = length history.commits; count = 1 } =
    ap₂ (λ start many. record { first = start; count = many }) first (omega (arith, started)) in
    let runs : all_runs new ≡ runs_before old ++ record { first = length history.commits; count = 1 } ∷ [] = ap₂ (λ rs r. rs ++ r ∷ []) anew.runs present in
    subst (λ start. JournalStands new (record { commits = first_commit ∷ history.commits; start = start; sent = 0 })) first
    (journal_follows (changeset old.table []) old new history 0 [] made twinned stands refl none_sorted (omega (arith, started))
    (subst (λ rs. AreNumbered rs (first_commit ∷ history.commits)) (sym runs) numbers))

-- ---- the journal of commit 0
first_numbered : AreNumbered (record { first = 0; count = 1 } ∷ []) (first_commit ∷ [])
first_numbered = record {
  zeroth = (record { first = 0; count = 1 }, refl, refl);
  begins = λ run version there at. alone run.first version at;
  within = λ run number version there is at.
      let low : number ≡ 0 = number_at number version at in
      let zero : (number - run.first) % 256 ≡ 0 = omega (arith, low) in
      ap (λ (v : Version). v.byte) (alone number version at) ∙ sym zero;
  left_out = λ number version none at. alone number version at;
  ascending = λ place later run next less here there. let second = slice_get_within (record { first = 0; count = 1 } ∷ []) later next there in absurd (omega (arith, less, second));
}
  where
    number_at : (number : ℕ) (version : Version) → commit_numbered number (first_commit ∷ []) ≡ Some version → number ≡ 0
    number_at number version at = let below = number_below number (first_commit ∷ []) version at in omega (arith, below)

    alone : (number : ℕ) (version : Version) → commit_numbered number (first_commit ∷ []) ≡ Some version → version ≡ first_commit
    alone number version at =
        let both : Some first_commit ≡ Some version = sym (newest_number first_commit number [] (number_at number version at)) ∙ at in
        cc

pub first_journal : (view : JournalView) → view ≡ record { table = []; changes = []; past = []; twins = []; snapshots = []; start = 0; runs = []; sent = 0 } → JournalStands view first_history
first_journal view is = subst (λ (v : JournalView). JournalStands v first_history) (sym is) (record {
  table = refl;
  start = refl;
  begun = omega arith;
  numbered = first_numbered;
  changes = refl;
  count = refl;
  past = refl;
  twins = λ number twin there. cc;
  twin_count = refl;
  snapshots = refl;
  sent = refl;
  ordered = (none_sorted, tt);
})

-- no clients are those of no mentions
pub no_clients : (clients : List (Key × Client)) → clients ≡ [] → ClientsStand clients [] 0
no_clients clients is = subst (λ cs. ClientsStand cs [] 0) (sym is) (record { sighted = λ key now late. refl; joined = λ key now. refl; ordered = none_sorted })

-- they are tracked in an empty table
pub none_tracked : (roster : RosterView) (table : List Entry) → roster.clients ≡ [] → table ≡ [] → IsTracked roster table
none_tracked roster table is empty = λ key absent. ap (λ t. flags_at t key) empty ∙ ap (λ cs. option_and_then kept_flags (client_at cs key)) (sym is)
