-- How what was read stands for lines of routes, and what a line that was read does: it is passed
-- over, it is taken, or it is refused. The main words are `BisectStands` and `after_reading`.
use Rattle.std.specs.Prelude.{◌≡◌, ⊤, ℕ, true, false, List, []}
use Rattle.mesh_model.specs.declared.route_line.RouteReading.{RouteReading}
use Rattle.mesh_model.specs.declared.route_line.RouteReading.TheVariants.{Other, Route, Bad}
use Rattle.mesh_model.specs.Loops.Bisecting.{Bisecting, after_route, all_lines, is_late, moment_of_lines, told_at}
use Rattle.mesh_model.specs.Loops.Routes.{pair_of_line}
use Rattle.mesh_loops.specs.Watch.{PassesPairs, WatchCall, WatchStands, lines_set, lines_settled}
use Rattle.mesh_bisect.specs.declared.bisect.Bisect.{Bisect}
use Rattle.mesh_bisect.specs.declared.failure.BisectErr.{BisectErr}
use Rattle.mesh_bisect.specs.declared.failure.BisectErr.TheVariants.{BadRoute, TimeBack, Pairs, Memory}

-- what was read is these lines, which are those that a watch was given
pub record BisectStands (bisect : Bisect) (lines : Bisecting) : Type 0 where
  pub calls : List WatchCall
  pub watch : WatchStands bisect.watch calls
  pub set : lines_set calls ≡ all_lines lines
  pub settled : lines_settled calls ≡ lines.before
  pub moment : bisect.moment ≡ moment_of_lines lines

-- the lines after one that was read
abbrev pub after_reading : Bisecting → RouteReading → Bisecting
after_reading lines Other = lines
after_reading lines (Route line) = after_route lines line
after_reading lines Bad = lines

-- what is printed at one that was read
abbrev pub told_at_reading : Bisecting → RouteReading → List ℕ
told_at_reading lines Other = []
told_at_reading lines (Route line) = told_at lines line
told_at_reading lines Bad = []

-- what was read is a route of an earlier moment than the one under way
abbrev pub IsLate : Bisecting → RouteReading → Type 0
IsLate lines Other = ⊥
IsLate lines (Route line) = is_late lines line ≡ true
IsLate lines Bad = ⊥

-- what was read is a route that isn't late, of one pair too many
abbrev pub IsOneTooMany : Bisecting → RouteReading → Type 0
IsOneTooMany lines Other = ⊥
IsOneTooMany lines (Route line) =
    (is_late lines line ≡ false) × PassesPairs (all_lines lines) (pair_of_line line)
IsOneTooMany lines Bad = ⊥

-- a line is refused, and memory isn't wanting
abbrev pub IsRefusal : BisectErr → Type 0
IsRefusal BadRoute = ⊤
IsRefusal TimeBack = ⊤
IsRefusal Pairs = ⊤
IsRefusal Memory = ⊥
