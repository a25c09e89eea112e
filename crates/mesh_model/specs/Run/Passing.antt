-- Time passes in a state, and frames are delivered again. What happens in the mesh meanwhile is
-- printed. The clock stands at the end of the run, or, where a happening would pass a limit, at
-- that happening. The main words are `run_until` and `one_happening`.
use Rattle.std.specs.Prelude.{ℕ, List, ◌++◌, drop, length, map, Option, Some, None, Ok, Err}
use Rattle.mesh_base.specs.declared.event.Event.{Event}
use Rattle.mesh_model.specs.declared.ending.Stop.TheVariants.{Limit}
use Rattle.mesh_model.specs.declared.happening.Happening.{Happening}
use Rattle.mesh_model.specs.Net.Mesh.{Mesh, Setup}
use Rattle.mesh_model.specs.Net.Sending.{Attempt}
use Rattle.mesh_model.specs.Net.Due.{next_due}
use Rattle.mesh_model.specs.Net.Runs.{Course, PassedLimit, begin, turn, run_to}
use Rattle.mesh_model.specs.Run.State.{Happened, State, names_of}
use Rattle.mesh_model.specs.Run.Outcome.{Outcome, Goes, Ends}

-- the events of a mesh that an earlier one didn't have
abbrev pub events_since : Mesh → Mesh → List Event
events_since before after = drop (length before.events) after.events

-- the state at a moment with its mesh gone on, and what happened printed
abbrev pub gone_on : State → ℕ → Mesh → State
gone_on state now mesh = record state {
  mesh = mesh;
  clock = now;
  printed = state.printed ++ map (Happened (names_of mesh)) (events_since state.mesh mesh);
}

-- the outcome of a course until a moment
abbrev pub course_outcome : State → ℕ → Mesh → Option PassedLimit → Outcome
course_outcome state t mesh None = Goes (gone_on state t mesh)
course_outcome state t mesh (Some passed) =
    Ends (gone_on state passed.moment mesh) (Limit passed.limit)

-- the outcome of a course of a state's mesh until a moment
abbrev pub after_course : State → ℕ → Course → Outcome
after_course state t course = course_outcome state t course.mesh course.stop

-- a state's run until a moment
abbrev pub run_until : Setup → ℕ → State → Outcome
run_until setup t state = after_course state t (run_to setup t state.mesh)

-- where the clock stands behind the next happening, or at the end where there is none
abbrev pub clock_behind : ℕ → Option Happening → ℕ
clock_behind t None = t
clock_behind t (Some h) = h.moment

-- a state's next happening until a moment, or the passing of the time where there is none
abbrev pub one_happening : Setup → ℕ → State → Outcome
one_happening setup t state =
    after_course state (clock_behind t (next_due t state.mesh)) (turn setup t (begin state.mesh))

-- the outcome of a step at the clock: one that would pass a limit leaves the state as it was
abbrev pub after_attempt : State → Attempt → Outcome
after_attempt state (Ok mesh) = Goes (gone_on state state.clock mesh)
after_attempt state (Err limit) = Ends state (Limit limit)
