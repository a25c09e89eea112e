-- The plain run of an input, by the choice of frames: its lines are carried out one after another,
-- each as a whole and under the algorithm that was chosen before it, and the first that is refused
-- or at which a quantity would pass its limit ends the run there. What was printed up to then stays
-- printed. The limit `line` is reached at the byte past 4,096 before a line's newline, `input` at
-- the byte past 67,108,864 of the input, whichever comes first; where one byte is both, it is
-- `line`. Runs of other lines go on alike. The main words are `plain_run` and `output`.
use Rattle.std.specs.Prelude.{ℕ, ◌+◌, ◌&&◌, nat_lt, nat_le, Bool, List, length, fold, Option, Some, None, is_some, Ok, Err, if◌then◌else◌}
use Rattle.mesh_model.specs.declared.ending.LimitName.TheVariants.{Line, Input}
use Rattle.mesh_model.specs.declared.ending.Stop.TheVariants.{Limit}
use Rattle.mesh_model.specs.declared.frame_choice.FrameChoice.{FrameChoice}
use Rattle.mesh_model.specs.Scenario.Commands.{command_of_line}
use Rattle.mesh_model.specs.Scenario.Halt.{Halt}
use Rattle.mesh_model.specs.Scenario.Lines.{line_limit, input_limit, lines_of, before_newline, content}
use Rattle.mesh_model.specs.Scenario.Readings.{Reading}
use Rattle.mesh_model.specs.Run.Outcome.{Outcome, OutcomeOf, Goes, Ends}
use Rattle.mesh_model.specs.Run.Rules.{carried_out, setup_of}
use Rattle.mesh_model.specs.Run.State.{State, first_state, text_of}

-- a run so far: its state, how many lines and bytes were carried out, and where it halted
pub record RunOf (S : Type 0) : Type 0 where
  pub state : S
  pub lines : ℕ
  pub bytes : ℕ
  pub halt : Option Halt

-- the run of a scenario
abbrev pub Run : Type 0
Run = RunOf State

-- a run before its first line
abbrev pub begun : {S : Type 0} → S → RunOf S
begun state = record { state = state; lines = 0; bytes = 0; halt = None }

-- before the first line
abbrev pub start : FrameChoice → Run
start choice = begun (first_state choice)

-- whether a line's byte past 4,096 stands within the input's limit or right past it, after so many
-- bytes
abbrev pub passes_line : ℕ → List ℕ → Bool
passes_line before line =
    nat_lt line_limit (length (before_newline line)) && nat_le (before + line_limit) input_limit

-- whether a line passes the limit of the input, after so many bytes
abbrev pub passes_input : ℕ → List ℕ → Bool
passes_input before line = nat_lt input_limit (before + length line)

-- the outcome of a line that follows so many bytes, by that of what it says
abbrev pub within_limits : {S : Type 0} → S → ℕ → List ℕ → OutcomeOf S → OutcomeOf S
within_limits state before line outcome =
    if passes_line before line then Ends state (Limit Line)
    else if passes_input before line then Ends state (Limit Input)
    else outcome

-- the outcome of a line that was read
abbrev pub after_reading : State → Reading → Outcome
after_reading state (Ok command) = carried_out (setup_of state.algorithm) state command
after_reading state (Err stop) = Ends state stop

-- the outcome of a line that follows so many bytes
unfoldable pub line_outcome : State → ℕ → List ℕ → Outcome
line_outcome state before line =
    within_limits state before line (after_reading state (command_of_line (content line)))

-- the run after a line with this outcome
abbrev pub after_outcome : {S : Type 0} → RunOf S → List ℕ → OutcomeOf S → RunOf S
after_outcome run line (Goes state) =
    record { state = state; lines = run.lines + 1; bytes = run.bytes + length line; halt = None }
after_outcome run line (Ends state stop) =
    record run { state = state; halt = Some (record { line = run.lines + 1; stop = stop }) }

-- what a line leaves that follows so many bytes, in a state
abbrev pub LineStep : Type 0 → Type 0
LineStep S = S → ℕ → List ℕ → OutcomeOf S

-- the run after one more line, by what lines leave; a run that halted stays as it is
abbrev pub after_line_by : {S : Type 0} → LineStep S → RunOf S → List ℕ → RunOf S
after_line_by step run line =
    if is_some run.halt then run else after_outcome run line (step run.state run.bytes line)

-- the run after these lines, by what lines leave
abbrev pub after_lines_by : {S : Type 0} → LineStep S → RunOf S → List (List ℕ) → RunOf S
after_lines_by step run lines = fold (after_line_by step) run lines

-- the run of a scenario after one more line
abbrev pub after_line : Run → List ℕ → Run
after_line run line = after_line_by line_outcome run line

-- the run of a scenario after these lines
abbrev pub after_lines : Run → List (List ℕ) → Run
after_lines run lines = fold after_line run lines

-- the plain run of an input
unfoldable pub plain_run : FrameChoice → List ℕ → Run
plain_run choice input = after_lines (start choice) (lines_of input)

-- what a run prints
abbrev pub output : Run → List ℕ
output run = text_of run.state
