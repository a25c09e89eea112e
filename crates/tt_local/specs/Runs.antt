-- The logs of a node, oldest first, by the numbers of their commits. A log begins with a first
-- commit, and the byte of each of its commits is how many of them are older, modulo 256. One that
-- made no further commit is left out, unless it begins with commit 0. The main word is
-- `AreNumbered`.
use Rattle.std.specs.Prelude.{◌≡◌, ℕ, ◌+◌, ◌-◌, ◌%◌, ◌<◌, ◌≤◌, ◌&&◌, ◌||◌, nat_eq, nat_le, nat_lt, Bool, true, List, find, slice_get, Option, None, Some}
use Rattle.mesh_model.specs.Commits.Versions.{commit_numbered, first_commit}
use Rattle.mesh_model.specs.Tables.Versions.{Version}
use Rattle.tt_local.specs.declared.run.Run.{Run}

-- whether the commit of a number is of a log
abbrev pub is_in : ℕ → Run → Bool
is_in number run = nat_le run.first number && nat_lt (number - run.first) run.count

-- whether a log isn't left out
abbrev pub is_kept : Run → Bool
is_kept run = nat_eq run.first 0 || nat_lt 1 run.count

-- the log that the commit of a number is of, unless it is left out
abbrev pub run_of : ℕ → List Run → Option Run
run_of number runs = find (λ run. is_in number run) runs

-- a log is one of these
abbrev pub IsAmong : Run → List Run → Type 0
IsAmong run runs = (place : ℕ) × (slice_get runs place ≡ Some run)

-- commits, newest first, are those of these logs, and of logs that are left out
pub record AreNumbered (runs : List Run) (commits : List Version) : Type 0 where
  -- the first log begins with commit 0
  pub zeroth : (run : Run) × (slice_get runs 0 ≡ Some run) × (is_in 0 run ≡ true)
  -- each begins with a first commit
  pub begins : (run : Run) (version : Version) → IsAmong run runs →
      commit_numbered run.first commits ≡ Some version → version ≡ first_commit
  -- its commits are under their numbers from that one on
  pub within : (run : Run) (number : ℕ) (version : Version) → IsAmong run runs →
      is_in number run ≡ true → commit_numbered number commits ≡ Some version →
      version.byte ≡ (number - run.first) % 256
  -- a commit of none of them is a first commit
  pub left_out : (number : ℕ) (version : Version) → run_of number runs ≡ None →
      commit_numbered number commits ≡ Some version → version ≡ first_commit
  -- each ends before the next
  pub ascending : (place later : ℕ) (run next : Run) → place < later →
      slice_get runs place ≡ Some run → slice_get runs later ≡ Some next →
      run.first + run.count ≤ next.first
