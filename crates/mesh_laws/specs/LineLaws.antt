-- Laws of the states that lines lead to. A run may be cut at a moment, and behind its first
-- happening; its end is where the clock stands. What is printed only grows. A line that is refused
-- changes nothing, and neither does one that passes a limit, unless it is a run. Nodes keep the
-- algorithm that was chosen before the first of them. What holds of all states that are reached is
-- kept by each command, and nothing is due between lines.
use Rattle.std.specs.Prelude.{◌≡◌, ℕ, ◌<◌, ◌≤◌, ◌⊎◌, true, List, ◌++◌, length, Some, Ok}
use Rattle.std.specs.Fn.{iterate}
use Rattle.mesh_model.specs.declared.ending.Refusal.{Refusal}
use Rattle.mesh_model.specs.declared.ending.Stop.{Stop}
use Rattle.mesh_model.specs.declared.ending.Stop.TheVariants.{Refused}
use Rattle.mesh_model.specs.declared.frame_choice.FrameChoice.{FrameChoice}
use Rattle.mesh_model.specs.declared.line_form.Command.{Command}
use Rattle.mesh_model.specs.declared.line_form.Command.TheVariants.{Link, Run}
use Rattle.mesh_model.specs.Net.Limits.{clock_limit}
use Rattle.mesh_model.specs.Net.Mesh.{Mesh, Setup}
use Rattle.mesh_model.specs.Net.Next.{IsQuiet}
use Rattle.mesh_model.specs.Net.Runs.{begin, turn, going_on, run_to}
use Rattle.mesh_model.specs.Scenario.Commands.{command_of_line}
use Rattle.mesh_model.specs.Scenario.LinkOptions.{least_delay, delay_limit, least_throughput, throughput_limit}
use Rattle.mesh_model.specs.Scenario.Terms.{is_pattern}
use Rattle.mesh_model.specs.Run.State.{Printed, State, first_state, text_of}
use Rattle.mesh_model.specs.Run.Outcome.{Goes, Ends, reached, followed_by}
use Rattle.mesh_model.specs.Run.Passing.{gone_on, run_until, one_happening}
use Rattle.mesh_model.specs.Run.Rules.{carried_out, first_refused_rule}
use Rattle.mesh_laws.specs.Soundness.{FitsPlaces, IsSound, KeepsBytes}

-- what holds of every state that is reached
pub record IsReached (state : State) : Type 0 where
  pub sound : IsSound state.mesh
  pub bytes : KeepsBytes state.mesh
  pub past : state.mesh.last.moment ≤ state.clock
  pub low : state.clock ≤ clock_limit

-- a run of a state until a moment
pub record CanPass (setup : Setup) (t : ℕ) (state : State) : Type 0 where
  pub fits : FitsPlaces setup
  pub is_reached : IsReached state
  pub begins : state.clock ≤ t
  pub ends : t ≤ clock_limit

-- a run until a later moment is the run until an earlier one, and then that until the later
abbrev pub GoesOn : Type 0
GoesOn = (setup : Setup) (first last : ℕ) (state : State) → CanPass setup first state →
    first ≤ last → last ≤ clock_limit →
    run_until setup last state ≡ followed_by (run_until setup first state) (run_until setup last)

-- a run is its first happening, and then the run
abbrev pub GoesByHappenings : Type 0
GoesByHappenings = (setup : Setup) (t : ℕ) (state : State) → CanPass setup t state →
    run_until setup t state ≡ followed_by (one_happening setup t state) (run_until setup t)

-- a mesh stands behind so many turns of another's run until a moment, and the run goes on there
pub record IsBehind (setup : Setup) (t : ℕ) (before after : Mesh) : Type 0 where
  pub count : ℕ
  pub taken : iterate (turn setup t) count (begin before) ≡ begin after
  pub goes : run_to setup t before ≡ going_on setup t (begin after)

-- a run goes on from each state behind some of its happenings, wherever the clock stands meanwhile
abbrev pub GoesOnBehind : Type 0
GoesOnBehind = (setup : Setup) (t now : ℕ) (state : State) (after : Mesh) →
    IsBehind setup t state.mesh after →
    run_until setup t state ≡ run_until setup t (gone_on state now after)

-- it is at its end where nothing is due any more
abbrev pub EndsWhereQuiet : Type 0
EndsWhereQuiet = (setup : Setup) (t : ℕ) (state : State) (after : Mesh) →
    IsBehind setup t state.mesh after → IsSound after → IsQuiet t after →
    run_until setup t state ≡ Goes (gone_on state t after)

-- the clock stands at the end of a run that no limit ends
abbrev pub ClockStandsAtTheEnd : Type 0
ClockStandsAtTheEnd = (setup : Setup) (t : ℕ) (state after : State) →
    run_until setup t state ≡ Goes after → after.clock ≡ t

-- a run leads to a state that is reached, also where a limit ends it
abbrev pub RunsAreReached : Type 0
RunsAreReached = (setup : Setup) (t : ℕ) (state : State) → CanPass setup t state →
    IsReached (reached (run_until setup t state))

-- so does its first happening
abbrev pub HappeningsAreReached : Type 0
HappeningsAreReached = (setup : Setup) (t : ℕ) (state : State) → CanPass setup t state →
    IsReached (reached (one_happening setup t state))

-- what was printed before a command stays, and more may follow it
abbrev pub PrintedGrows : Type 0
PrintedGrows = (setup : Setup) (state : State) (command : Command) →
    (more : List Printed)
    × ((reached (carried_out setup state command)).printed ≡ state.printed ++ more)

-- and so the text of it
abbrev pub TextGrows : Type 0
TextGrows = (setup : Setup) (state : State) (command : Command) → (more : List ℕ)
    × (text_of (reached (carried_out setup state command)) ≡ text_of state ++ more)

-- a command that breaks a rule changes nothing
abbrev pub RefusedChangesNothing : Type 0
RefusedChangesNothing = (setup : Setup) (state : State) (command : Command) (refusal : Refusal) →
    first_refused_rule state command ≡ Some refusal →
    carried_out setup state command ≡ Ends state (Refused refusal)

-- whether a command lets time pass
abbrev pub IsRun : Command → Type 0
IsRun command = (time : ℕ) × (command ≡ Run time)

-- a command that ends the run changes nothing, unless time passes
abbrev pub EndsChangeNothing : Type 0
EndsChangeNothing = (setup : Setup) (state after : State) (command : Command) (stop : Stop) →
    carried_out setup state command ≡ Ends after stop → IsRun command ⊎ (after ≡ state)

-- while a node stands, no command changes the algorithm
abbrev pub NodesKeepTheirAlgorithm : Type 0
NodesKeepTheirAlgorithm = (setup : Setup) (state : State) (command : Command) →
    0 < length state.mesh.nodes →
    (reached (carried_out setup state command)).algorithm ≡ state.algorithm

-- a link has a delay, as those that are read have
abbrev pub HasDelay : Command → Type 0
HasDelay command = (from to pattern : List ℕ) (delay throughput : ℕ) →
    command ≡ Link from to delay pattern throughput → 1 ≤ delay

-- the delay, the pattern and the throughput of a link line
pub record HasLinkRanges (delay : ℕ) (pattern : List ℕ) (throughput : ℕ) : Type 0 where
  pub least : least_delay ≤ delay
  pub most : delay ≤ delay_limit
  pub pattern_is : is_pattern pattern ≡ true
  pub least_throughput_is : least_throughput ≤ throughput
  pub most_throughput : throughput ≤ throughput_limit

-- a command, where it is a link, is one of a line
abbrev pub IsInRange : Command → Type 0
IsInRange command = (from to pattern : List ℕ) (delay throughput : ℕ) →
    command ≡ Link from to delay pattern throughput → HasLinkRanges delay pattern throughput

-- what is read is in range
abbrev pub ReadLinksAreInRange : Type 0
ReadLinksAreInRange = (line : List ℕ) (command : Command) →
    command_of_line line ≡ Ok command → IsInRange command

-- the state before the first line is reached
abbrev pub FirstIsReached : Type 0
FirstIsReached = (choice : FrameChoice) → IsReached (first_state choice)

-- a command leads from one state that is reached to another, also where it ends the run
abbrev pub CommandsAreReached : Type 0
CommandsAreReached = (setup : Setup) (state : State) (command : Command) →
    FitsPlaces setup → IsReached state → HasDelay command →
    IsReached (reached (carried_out setup state command))

-- nothing is due at the clock
abbrev pub IsQuietNow : State → Type 0
IsQuietNow state = IsQuiet state.clock state.mesh

-- behind a command that goes on nothing is due, if nothing was before it
abbrev pub NothingIsDueBetweenLines : Type 0
NothingIsDueBetweenLines = (setup : Setup) (state after : State) (command : Command) →
    FitsPlaces setup → IsReached state → HasDelay command →
    carried_out setup state command ≡ Goes after → IsQuietNow state → IsQuietNow after
