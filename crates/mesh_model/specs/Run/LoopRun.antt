-- The run of lines of routes, which tells of their loops: its lines are taken one after another. A
-- line that is no route is refused, and so is one of an earlier moment than the one before it; the
-- limit `pairs` is reached at a line that names one different pair of a node and an originator more
-- than 65,536. A moment is reported where a line of a later one was taken, and at the end of the
-- input; of a run that halted the moment under way isn't. The limits `line` and `input` are those of
-- a scenario. The main word is `loop_run`.
use Rattle.std.specs.Prelude.{ℕ, List, [], ◌++◌, is_some, if◌then◌else◌}
use Rattle.mesh_model.specs.declared.ending.LimitName.TheVariants.{Pairs}
use Rattle.mesh_model.specs.declared.ending.Refusal.TheVariants.{BadRoute, TimeBack}
use Rattle.mesh_model.specs.declared.ending.Stop.TheVariants.{Limit, Refused}
use Rattle.mesh_model.specs.declared.route_line.RouteLine.{RouteLine}
use Rattle.mesh_model.specs.declared.route_line.RouteReading.{RouteReading}
use Rattle.mesh_model.specs.declared.route_line.RouteReading.TheVariants.{Other, Route, Bad}
use Rattle.mesh_model.specs.Loops.Bisecting.{Bisecting, after_route, all_lines, ended, is_late, moment_text, no_lines, passes_pairs, told_at}
use Rattle.mesh_model.specs.Loops.RouteLines.{route_of_line}
use Rattle.mesh_model.specs.Loops.Routes.{pair_of_line}
use Rattle.mesh_model.specs.Run.Outcome.{OutcomeOf, Goes, Ends}
use Rattle.mesh_model.specs.Run.PlainRun.{RunOf, after_lines_by, begun, within_limits}
use Rattle.mesh_model.specs.Scenario.Lines.{content, lines_of}

-- the lines that were taken, and what is printed of them so far
pub record LoopState : Type 0 where
  pub lines : Bisecting
  pub printed : List ℕ

-- before the first line
abbrev pub no_routes : LoopState
no_routes = record { lines = no_lines; printed = [] }

-- the state with one more line
abbrev pub route_taken : LoopState → RouteLine → LoopState
route_taken state line = record {
  lines = after_route state.lines line;
  printed = state.printed ++ told_at state.lines line;
}

-- the outcome of a route
abbrev pub route_outcome : LoopState → RouteLine → OutcomeOf LoopState
route_outcome state line =
    if is_late state.lines line then Ends state (Refused TimeBack)
    else if passes_pairs (all_lines state.lines) (pair_of_line line) then Ends state (Limit Pairs)
    else Goes (route_taken state line)

-- the outcome of what a line says
abbrev pub after_route_reading : LoopState → RouteReading → OutcomeOf LoopState
after_route_reading state Other = Goes state
after_route_reading state (Route line) = route_outcome state line
after_route_reading state Bad = Ends state (Refused BadRoute)

-- the outcome of a line that follows so many bytes
unfoldable pub route_line_outcome : LoopState → ℕ → List ℕ → OutcomeOf LoopState
route_line_outcome state before line =
    within_limits state before line (after_route_reading state (route_of_line (content line)))

-- the run after these lines, with a moment under way
abbrev pub after_route_lines : List (List ℕ) → RunOf LoopState
after_route_lines lines = after_lines_by route_line_outcome (begun no_routes) lines

-- the state at the end of the input: the moment under way ends there
abbrev pub at_end : LoopState → LoopState
at_end state = record {
  lines = ended state.lines;
  printed = state.printed ++ moment_text state.lines;
}

-- a run at the end of the input; one that halted stays as it is
abbrev pub at_end_of : RunOf LoopState → RunOf LoopState
at_end_of run = if is_some run.halt then run else record run { state = at_end run.state }

-- the run of an input
unfoldable pub loop_run : List ℕ → RunOf LoopState
loop_run input = at_end_of (after_route_lines (lines_of input))
