-- What is said of a small scenario with links: what it prints, at which line it ends and why, and
-- which link frames a node was given. Each line is carried out under the algorithm that was chosen
-- before it. `Rows` says what `lines` are.
use Rattle.std.specs.Prelude.{◌≡◌, ℕ, ◌+◌, List, [], ◌∷◌, ◌++◌, fold, Option, Some, None, Ok, Err}
use Rattle.std.specs.Option.{option_map_or}
use Rattle.mesh_base.specs.declared.address.Mac.{Mac}
use Rattle.mesh_model.specs.declared.ending.Stop.{Stop}
use Rattle.mesh_model.specs.declared.frame_choice.FrameChoice.{FrameChoice}
use Rattle.mesh_model.specs.declared.line_form.Algorithm.{Algorithm}
use Rattle.mesh_model.specs.Clients.Log.{Given, Tick, LinkFrame, LanFrame, Line, Log}
use Rattle.mesh_model.specs.Net.Mesh.{Setup}
use Rattle.mesh_model.specs.Run.State.{State, first_state, node_named, text_of}
use Rattle.mesh_model.specs.Run.Outcome.{Outcome, Goes, Ends, reached}
use Rattle.mesh_model.specs.Run.Rules.{carried_out, setup_of}
use Rattle.mesh_model.specs.Scenario.Commands.{command_of_line}
use Rattle.mesh_model.specs.Scenario.Readings.{Reading}
use Rattle.mesh_rows.specs.Rows.{lines}

-- lines that were carried out, and the outcome of the last
pub record LinesRun : Type 0 where
  pub lines : ℕ
  pub outcome : Outcome

-- what ended a run
abbrev pub stop_of : Outcome → Option Stop
stop_of (Goes state) = None
stop_of (Ends state stop) = Some stop

-- what a scenario is run with, by the algorithm of its nodes
abbrev pub Setups : Type 0
Setups = Algorithm → Setup

-- the outcome of a line that was read
abbrev pub reading_outcome : Setups → State → Reading → Outcome
reading_outcome setups state (Ok command) = carried_out (setups state.algorithm) state command
reading_outcome setups state (Err stop) = Ends state stop

-- lines and one more, by the outcome before it
abbrev pub one_more : Setups → List ℕ → LinesRun → Outcome → LinesRun
one_more setups text run (Goes state) = record {
  lines = run.lines + 1;
  outcome = reading_outcome setups state (command_of_line text);
}
one_more setups text run (Ends state stop) = run

-- the run of lines, one after another; the first that ends it is the last
abbrev pub run_of : Setups → FrameChoice → List (List ℕ) → LinesRun
run_of setups choice texts = fold (λ run text. one_more setups text run run.outcome)
    (record { lines = 0; outcome = Goes (first_state choice) }) texts

-- with these setups, the lines are all carried out and print this
abbrev pub PrintsWith : Setups → FrameChoice → List (List ℕ) → List (List ℕ) → Type 0
PrintsWith setups choice texts printed =
    (stop_of (run_of setups choice texts).outcome ≡ None)
    × (text_of (reached (run_of setups choice texts).outcome) ≡ lines printed)

-- with these setups, the lines print this and end at a line
abbrev pub EndsWith : Setups → FrameChoice → List (List ℕ) → List (List ℕ) → ℕ → Stop → Type 0
EndsWith setups choice texts printed number stop =
    (stop_of (run_of setups choice texts).outcome ≡ Some stop)
    × ((run_of setups choice texts).lines ≡ number)
    × (text_of (reached (run_of setups choice texts).outcome) ≡ lines printed)

-- the scenario is carried out and prints this
abbrev pub Prints : FrameChoice → List (List ℕ) → List (List ℕ) → Type 0
Prints = PrintsWith setup_of

-- the scenario prints this and ends at a line
abbrev pub EndsAt : FrameChoice → List (List ℕ) → List (List ℕ) → ℕ → Stop → Type 0
EndsAt = EndsWith setup_of

-- the setups of a scenario with other limits on frames and their bytes
abbrev pub with_limits : ℕ → ℕ → Setups
with_limits frames bytes algorithm =
    record (setup_of algorithm) { frames_limit = frames; bytes_limit = bytes }

-- a link frame that a node was given: when, its number, the last byte of the sender's address, and
-- the throughput of the link to the sender
pub record Taken : Type 0 where
  pub moment : ℕ
  pub number : ℕ
  pub from : Mac
  pub throughput : ℕ

-- the link frame of an input
abbrev pub taken_by : ℕ → Given → List Taken
taken_by moment (Tick index) = []
taken_by moment (LinkFrame number from throughput bytes) =
    record { moment = moment; number = number; from = from; throughput = throughput } ∷ []
taken_by moment (LanFrame bytes) = []
taken_by moment (Line line) = []

-- the link frames in a log, newest first
abbrev pub taken : Log → List Taken
taken [] = []
taken (entry ∷ older) = taken_by entry.moment entry.given ++ taken older

-- the link frames that a node was given, newest first; none where there is no such node
abbrev pub taken_at : List ℕ → State → List Taken
taken_at name state = option_map_or (λ node. taken node.log) (node_named state name) []

-- behind these lines, the node of this name was given these link frames, newest first
abbrev pub Takes : List (List ℕ) → FrameChoice → List ℕ → List Taken → Type 0
Takes texts choice name frames =
    taken_at name (reached (run_of setup_of choice texts).outcome) ≡ frames
