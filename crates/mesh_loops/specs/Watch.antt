-- How what a watch keeps stands for the calls that were made of it: of each pair its next node, now
-- and before, which is when loops were looked at last. A report is that of the lines of all calls
-- and of those before. The main words are `WatchStands` and `report_of`.
use Rattle.std.specs.Prelude.{◌≡◌, ◌≤◌, false, is_some, IsSome, length, List, [], ◌∷◌, Option}
use Rattle.std.specs.Map.{lookup}
use Rattle.std.specs.Option.{option_flatten, option_or}
use Rattle.mesh_base.specs.declared.address.Mac.{Mac}
use Rattle.mesh_model.specs.declared.route_line.RouteLine.{RouteLine}
use Rattle.mesh_model.specs.declared.route_line.RoutePair.{RoutePair}
use Rattle.mesh_model.specs.Loops.Bisecting.{pairs_limit}
use Rattle.mesh_model.specs.Loops.Reports.{gone_from, new_in}
use Rattle.mesh_model.specs.Loops.Routes.{has_pair, loops_of, next_of, pairs_of, same_pair}
use Rattle.mesh_loops.specs.declared.report.LoopReport.{LoopReport}
use Rattle.mesh_loops.specs.declared.when.When.{When}
use Rattle.mesh_loops.specs.declared.when.When.TheVariants.{Before, Now}

-- a call of a watch: a line was set, or loops were looked at
pub data WatchCall : Type 0 where
  WasSet : RouteLine → WatchCall
  WasSettled : WatchCall

-- the lines of all calls, newest first, as the calls are
abbrev pub lines_set : List WatchCall → List RouteLine
lines_set [] = []
lines_set (WasSet line ∷ older) = line ∷ lines_set older
lines_set (WasSettled ∷ older) = lines_set older

-- the lines of the calls before loops were looked at last
abbrev pub lines_settled : List WatchCall → List RouteLine
lines_settled [] = []
lines_settled (WasSet line ∷ older) = lines_settled older
lines_settled (WasSettled ∷ older) = lines_set older

-- what became of loops since they were looked at last, from scratch
abbrev pub report_of : List WatchCall → LoopReport
report_of calls = record {
  gone = gone_from (loops_of (lines_settled calls)) (loops_of (lines_set calls));
  fresh = new_in (loops_of (lines_settled calls)) (loops_of (lines_set calls));
}

-- ---- pairs

-- a pair is new to lines, and would be one too many
abbrev pub PassesPairs : List RouteLine → RoutePair → Type 0
PassesPairs lines pair =
    (has_pair lines pair ≡ false) × (pairs_limit ≤ length (pairs_of lines))

-- ---- what is kept

-- the next node of each pair that was set, and what it was before of each that was set since
pub record Kept : Type 0 where
  pub routes : List (RoutePair × Option Mac)
  pub before : List (RoutePair × Option Mac)

-- the next node of a pair, before or now
abbrev pub next_at : Kept → When → RoutePair → Option Mac
next_at kept Before pair = option_flatten
    (option_or (lookup (same_pair pair) kept.before) (lookup (same_pair pair) kept.routes))
next_at kept Now pair = option_flatten (lookup (same_pair pair) kept.routes)

-- the other of before and now
abbrev pub other : When → When
other Before = Now
other Now = Before

-- the lines that were set, before or until now
abbrev pub lines_at : List WatchCall → When → List RouteLine
lines_at calls Before = lines_settled calls
lines_at calls Now = lines_set calls

-- the pairs that were set since loops were looked at last are kept too
abbrev pub AreKept : Kept → Type 0
AreKept kept = (pair : RoutePair) →
    IsSome (lookup (same_pair pair) kept.before) → IsSome (lookup (same_pair pair) kept.routes)

-- what is kept is that of these calls
pub record WatchStands (kept : Kept) (calls : List WatchCall) : Type 0 where
  -- each pair has the next node of its last line
  pub nexts : (when : When) (pair : RoutePair) →
      next_at kept when pair ≡ next_of (lines_at calls when) pair.orig pair.node
  -- the pairs that are kept are those of the lines
  pub pairs : (pair : RoutePair) →
      is_some (lookup (same_pair pair) kept.routes) ≡ has_pair (lines_set calls) pair
  -- so are those that were set since loops were looked at last
  pub among : AreKept kept
