-- How what a journal keeps stands for a node's history. It keeps the last commit with its changes,
-- the changes and checksums of each commit before it, a commit that has the same table, and the
-- whole table of each 32nd of these. A first commit has the changes here that lead to it, and the
-- numbers of the logs tell which commits are first ones. The main word is `JournalStands`.
use Rattle.std.specs.Prelude.{◌≡◌, ℕ, ◌+◌, ◌-◌, ◌%◌, ◌/◌, ◌==◌, ◌≤◌, min, List, [], ◌∷◌, ◌++◌, drop, length, slice_get, if◌then◌else◌, Option, None, Some, Ok, option_map}
use Rattle.mesh_base.specs.declared.client.Entry.{Entry}
use Rattle.mesh_model.specs.Packets.Bodies.{VlanSum}
use Rattle.mesh_model.specs.Tables.Changes.{IsInKeyOrder}
use Rattle.mesh_model.specs.Tables.Strict.{apply_strictly}
use Rattle.mesh_model.specs.Tables.Sums.{sums_of}
use Rattle.mesh_model.specs.Tables.Versions.{Version}
use Rattle.mesh_model.specs.Commits.Versions.{changes_from, changes_to_last, commit_numbered, last_commit, same_table}
use Rattle.mesh_model.specs.Commits.History.{History}
use Rattle.mesh_model.specs.declared.table_change.Change.{Change}
use Rattle.tt_local.specs.Runs.{AreNumbered, is_kept}
use Rattle.tt_local.specs.declared.run.Run.{Run}

-- what is kept of a commit that isn't the last
pub record PastCommit : Type 0 where
  pub changes : List Change
  pub sums : List VlanSum

-- what a journal keeps: the last commit's table and changes, the commits before it, oldest first,
-- of each of them a commit that has its table, each 32nd of their tables, the number of the last
-- first commit, the logs before it, and how many messages have announced the last commit, at most
-- three
pub record JournalView : Type 0 where
  pub table : List Entry
  pub changes : List Change
  pub past : List PastCommit
  pub twins : List ℕ
  pub snapshots : List (List Entry)
  pub start : ℕ
  pub runs : List Run
  pub sent : ℕ

-- the log that goes on
abbrev pub present_run : JournalView → Run
present_run view = record { first = view.start; count = length view.past - view.start + 1 }

-- all logs that aren't left out, and the one that goes on
abbrev pub all_runs : JournalView → List Run
all_runs view = view.runs ++ present_run view ∷ []

-- the logs before the next one
abbrev pub runs_before : JournalView → List Run
runs_before view = if is_kept (present_run view) then all_runs view else view.runs

-- of how many commits one keeps its whole table
abbrev pub snapshot_interval : ℕ
snapshot_interval = 32

-- what is kept of commits, newest first, that others followed: oldest first
abbrev pub past_of : List Version → List PastCommit
past_of [] = []
past_of (newest ∷ older) = past_of older
    ++ record { changes = changes_from older newest.table; sums = sums_of newest.table } ∷ []

-- snapshots with the table of the commit of a number, if it is kept
abbrev pub with_snapshot : ℕ → List Entry → List (List Entry) → List (List Entry)
with_snapshot number table snapshots =
    if number % snapshot_interval == 0 then snapshots ++ table ∷ [] else snapshots

-- the tables that are kept of commits, newest first, that others followed: oldest first
abbrev pub snapshots_of : List Version → List (List Entry)
snapshots_of [] = []
snapshots_of (newest ∷ older) = with_snapshot (length older) newest.table (snapshots_of older)

-- the tables of commits are in key order
abbrev pub AreInKeyOrder : List Version → Type 0
AreInKeyOrder [] = Unit
AreInKeyOrder (newest ∷ older) = IsInKeyOrder newest.table × AreInKeyOrder older

-- the number of the commit that a table becomes, where it differs from the last commit's
abbrev pub new_number : List Entry → History → Option ℕ
new_number table history = if same_table (last_commit history.commits).table table then None
    else Some (length history.commits)

-- the commit of a number has this table
abbrev pub HasTable : ℕ → List Entry → List Version → Type 0
HasTable number table commits =
    option_map (λ version. version.table) (commit_numbered number commits) ≡ Some table

-- a commit has the table of another, by their numbers
abbrev pub HasTableOf : ℕ → ℕ → List Version → Type 0
HasTableOf twin number commits =
    (table : List Entry) → HasTable number table commits → HasTable twin table commits

-- of commits, oldest first, each of these has the table
abbrev pub AreTwins : List ℕ → List Version → Type 0
AreTwins twins commits =
    (number twin : ℕ) → slice_get twins number ≡ Some twin → HasTableOf twin number commits

-- a journal keeps what there is to keep of a history
pub record JournalStands (view : JournalView) (history : History) : Type 0 where
  pub table : view.table ≡ (last_commit history.commits).table
  pub start : view.start ≡ history.start
  pub begun : view.start ≤ length view.past
  pub numbered : AreNumbered (all_runs view) history.commits
  pub changes : view.changes ≡ changes_to_last history.commits
  pub count : length history.commits ≡ length view.past + 1
  pub past : view.past ≡ past_of (drop 1 history.commits)
  pub twins : AreTwins view.twins history.commits
  pub twin_count : length view.twins ≡ length view.past
  pub snapshots : view.snapshots ≡ snapshots_of (drop 1 history.commits)
  pub sent : view.sent ≡ min history.sent 3
  pub ordered : AreInKeyOrder history.commits

-- a journal has one more commit, to which changes led from the last
pub record HasCommitted (changes : List Change) (old new : JournalView) : Type 0 where
  pub table : apply_strictly old.table changes ≡ Ok new.table
  pub changes_are : new.changes ≡ changes
  pub past : new.past
      ≡ old.past ++ record { changes = old.changes; sums = sums_of old.table } ∷ []
  pub snapshots : new.snapshots ≡ with_snapshot (length old.past) old.table old.snapshots
  pub sent : new.sent ≡ 0

-- a journal's log goes on
pub record GoesOn (old new : JournalView) : Type 0 where
  pub start : new.start ≡ old.start
  pub runs : new.runs ≡ old.runs

-- with its last commit a journal begins another log
pub record HasRestarted (old new : JournalView) : Type 0 where
  pub start : new.start ≡ length new.past
  pub runs : new.runs ≡ runs_before old

-- a journal has a commit more that has the table of the one that was the last
pub record HasTwin (old new : JournalView) : Type 0 where
  pub twin : ℕ
  pub twins : new.twins ≡ old.twins ++ twin ∷ []
  pub twin_is : (history : History) → JournalStands old history →
      HasTableOf twin (length old.past) history.commits

-- these are tables, of one of each 32 among so many commits
pub record AreSnapshots (snapshots : List (List Entry)) (commits : ℕ) : Type 0 where
  pub ordered : (place : ℕ) (table : List Entry) → slice_get snapshots place ≡ Some table →
      IsInKeyOrder table
  pub count : length snapshots ≡ (commits + 31) / snapshot_interval

-- the table of the commit of a number has these checksums
abbrev pub HasSums : ℕ → List VlanSum → List Version → Type 0
HasSums number sums commits =
    option_map (λ version. sums_of version.table) (commit_numbered number commits) ≡ Some sums
