-- Both kinds of lines under the same words: the states of their runs, the first one, what a line does
-- to a state, what a state has printed, and what carries them out. The main words are `lines_by` and
-- `CarrierStands`.
use Rattle.std.specs.Prelude.{ℕ, List}
use Rattle.mesh_bisect.specs.Bisect.{BisectStands}
use Rattle.mesh_bisect.specs.declared.bisect.Bisect.{Bisect}
use Rattle.mesh_model.specs.declared.input_kind.InputKind.{InputKind}
use Rattle.mesh_model.specs.declared.input_kind.InputKind.TheVariants.{Scenario, Routes}
use Rattle.mesh_model.specs.Loops.RouteLines.{route_of_line}
use Rattle.mesh_model.specs.Run.InputRun.{loop_text}
use Rattle.mesh_model.specs.Run.LoopRun.{LoopState, after_route_reading, at_end, no_routes, route_line_outcome}
use Rattle.mesh_model.specs.Run.Outcome.{OutcomeOf}
use Rattle.mesh_model.specs.Run.PlainRun.{LineStep, RunOf, after_lines_by, after_reading, begun, line_outcome}
use Rattle.mesh_model.specs.Run.State.{State, first_state, text_of}
use Rattle.mesh_model.specs.Scenario.Commands.{command_of_line}
use Rattle.mesh_run.specs.declared.carrier.Carrier.{Carrier}
use Rattle.mesh_run.specs.declared.carrier.Carrier.TheVariants as carrier
use Rattle.mesh_scene.specs.StageStands.{IsOnStage, StageStands}

-- ---- the states of a run

-- what a run of such lines has for a state
abbrev pub StateOf : InputKind → Type 0
StateOf (Scenario choice) = State
StateOf Routes = LoopState

-- before the first line
abbrev pub first_of : (kind : InputKind) → StateOf kind
first_of (Scenario choice) = first_state choice
first_of Routes = no_routes

-- what a state has printed
abbrev pub text_by : (kind : InputKind) → StateOf kind → List ℕ
text_by (Scenario choice) state = text_of state
text_by Routes state = loop_text state

-- what it has printed at the end of the input
abbrev pub text_at_end : (kind : InputKind) → StateOf kind → List ℕ
text_at_end (Scenario choice) state = text_of state
text_at_end Routes state = (at_end state).printed

-- ---- lines

-- the outcome of what a line says
abbrev pub outcome_of : (kind : InputKind) → List ℕ → StateOf kind → OutcomeOf (StateOf kind)
outcome_of (Scenario choice) line state = after_reading state (command_of_line line)
outcome_of Routes line state = after_route_reading state (route_of_line line)

-- what a line leaves that follows so many bytes
abbrev pub step_by : (kind : InputKind) → LineStep (StateOf kind)
step_by (Scenario choice) state before line = line_outcome state before line
step_by Routes state before line = route_line_outcome state before line

-- the run after these lines, which goes on
abbrev pub lines_by : (kind : InputKind) → List (List ℕ) → RunOf (StateOf kind)
lines_by kind lines = after_lines_by (step_by kind) (begun (first_of kind)) lines

-- ---- what carries them out

-- what was read of lines of routes is that of a state
abbrev pub RoutesStand : Bisect → LoopState → Type 0
RoutesStand bisect state = BisectStands bisect state.lines

-- a carrier of lines stands for a state
abbrev pub CarrierStands : (kind : InputKind) → Carrier → StateOf kind → Type 0
CarrierStands (Scenario choice) (carrier.Stage stage) state = StageStands stage state
CarrierStands (Scenario choice) (carrier.Bisect bisect) state = ⊥
CarrierStands Routes (carrier.Stage stage) state = ⊥
CarrierStands Routes (carrier.Bisect bisect) state = RoutesStand bisect state

-- a carrier can carry lines out
abbrev pub IsReady : Carrier → Type 0
IsReady (carrier.Stage stage) = IsOnStage stage
IsReady (carrier.Bisect bisect) = Unit {0}
