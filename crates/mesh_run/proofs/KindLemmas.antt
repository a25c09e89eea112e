-- What runs of both kinds of lines have in common: what a line leaves by its length, that what is printed
-- stays, and how the run of an input is that of its lines.
use Rattle.std.proofs.Common.{◌≡◌, ℕ, ◌+◌, ◌<◌, ◌≤◌, Bool, true, false, List, [], ◌∷◌, ◌++◌, length, Some, None, is_some, refl, sym, ap, ◌∙◌, append_assoc, append-nil}
use Rattle.std.specs.Prelude.{if◌then◌else◌}
use Rattle.mesh_model.specs.declared.ending.LimitName.TheVariants.{Line, Input}
use Rattle.mesh_model.specs.declared.ending.Refusal.TheVariants.{TimeBack}
use Rattle.mesh_model.specs.declared.ending.LimitName.TheVariants as limits
use Rattle.mesh_model.specs.declared.ending.Stop.{Stop}
use Rattle.mesh_model.specs.declared.ending.Stop.TheVariants.{Limit, Refused}
use Rattle.mesh_model.specs.declared.input_kind.InputKind.{InputKind}
use Rattle.mesh_model.specs.declared.input_kind.InputKind.TheVariants.{Scenario, Routes}
use Rattle.mesh_model.specs.declared.route_line.RouteLine.{RouteLine}
use Rattle.mesh_model.specs.declared.route_line.RouteReading.{RouteReading}
use Rattle.mesh_model.specs.declared.route_line.RouteReading.TheVariants.{Other, Route, Bad}
use Rattle.mesh_model.specs.Loops.Bisecting.{all_lines, is_late, moment_text, passes_pairs, told_at}
use Rattle.mesh_model.specs.Loops.RouteLines.{route_of_line}
use Rattle.mesh_model.specs.Loops.Routes.{pair_of_line}
use Rattle.mesh_model.specs.Run.InputRun.{lines_run, loop_text, run_of, seen}
use Rattle.mesh_model.specs.Run.LoopRun.{LoopState, after_route_lines, after_route_reading, at_end, at_end_of, loop_run, route_line_outcome, route_outcome, route_taken}
use Rattle.mesh_model.specs.Run.Outcome.{Ends, Goes, OutcomeOf, reached}
use Rattle.mesh_model.specs.Run.PlainRun.{RunOf, after_lines_by, after_outcome, after_reading, line_outcome, passes_input, passes_line, plain_run}
use Rattle.mesh_model.specs.Run.State.{State, text_of}
use Rattle.mesh_model.specs.Scenario.Commands.{command_of_line}
use Rattle.mesh_model.specs.Scenario.Halt.{Halt}
use Rattle.mesh_model.specs.Scenario.Lines.{before_newline, content, input_limit, line_limit, lines_of}
use Rattle.mesh_laws.proofs.HaltLemmas.{line_outcome-input, line_outcome-long, line_outcome-read, within-input, within-long, within-read}
use Rattle.mesh_laws.proofs.RunLemmas.{after_reading-prints, line_outcome-prints, text-grows}
use Rattle.mesh_run.specs.Inner.Kinds.{StateOf, first_of, lines_by, outcome_of, step_by, text_at_end, text_by}

-- ---- what a line leaves, by its length

pub step_by-read : (kind : InputKind) (state : StateOf kind) (before : ℕ) (line : List ℕ) → length (before_newline line) ≤ line_limit → before + length line ≤ input_limit
    → step_by kind state before line ≡ outcome_of kind (content line) state
unfolding route_line_outcome
step_by-read (Scenario choice) state before line short within = line_outcome-read state before line short within
step_by-read Routes state before line short within = within-read state before line (after_route_reading state (route_of_line (content line))) short within

pub step_by-long : (kind : InputKind) (state : StateOf kind) (before : ℕ) (line : List ℕ) → line_limit < length (before_newline line) → before + line_limit ≤ input_limit
    → step_by kind state before line ≡ Ends state (Limit Line)
unfolding route_line_outcome
step_by-long (Scenario choice) state before line long within = line_outcome-long state before line long within
step_by-long Routes state before line long within = within-long state before line (after_route_reading state (route_of_line (content line))) long within

pub step_by-input : (kind : InputKind) (state : StateOf kind) (before : ℕ) (line : List ℕ) → passes_line before line ≡ false → input_limit < before + length line
    → step_by kind state before line ≡ Ends state (Limit Input)
unfolding route_line_outcome
step_by-input (Scenario choice) state before line not_long past = line_outcome-input state before line not_long past
step_by-input Routes state before line not_long past = within-input state before line (after_route_reading state (route_of_line (content line))) not_long past

-- ---- what is printed stays

-- a text is a front of another
abbrev pub Front : List ℕ → List ℕ → Type 0
Front old new = (more : List ℕ) × (new ≡ old ++ more)

front-same : (text : List ℕ) → Front text text
front-same text = ([], sym (append-nil text))

front-trans : (a b c : List ℕ) → Front a b → Front b c → Front a c
front-trans a b c p q = (p.0 ++ q.0, q.1 ∙ ap (λ first. first ++ q.0) p.1 ∙ append_assoc a p.0 q.0)

late-prints : (state : LoopState) (line : RouteLine) (late : Bool) (outcome : OutcomeOf LoopState) → Front state.printed (reached outcome).printed → Front state.printed (reached (if late then Ends state (Refused TimeBack) else outcome)).printed
late-prints state line true outcome front = front-same state.printed
late-prints state line false outcome front = front

pairs-prints : (state : LoopState) (line : RouteLine) (passes : Bool) → Front state.printed (reached (if passes then Ends state (Limit limits.Pairs) else Goes (route_taken state line))).printed
pairs-prints state line true = front-same state.printed
pairs-prints state line false = (told_at state.lines line, refl)

route-prints : (state : LoopState) (line : RouteLine) → Front state.printed (reached (route_outcome state line)).printed
route-prints state line =
    late-prints state line (is_late state.lines line) (if passes_pairs (all_lines state.lines) (pair_of_line line) then Ends state (Limit limits.Pairs) else Goes (route_taken state line))
    (pairs-prints state line (passes_pairs (all_lines state.lines) (pair_of_line line)))

pub route_reading-prints : (state : LoopState) (reading : RouteReading) → Front state.printed (reached (after_route_reading state reading)).printed
route_reading-prints state Other = front-same state.printed
route_reading-prints state (Route line) = route-prints state line
route_reading-prints state Bad = front-same state.printed

-- what a line says, in a run of its kind
pub outcome_of-prints : (kind : InputKind) (line : List ℕ) (state : StateOf kind) → Front (text_by kind state) (text_by kind (reached (outcome_of kind line state)))
outcome_of-prints (Scenario choice) line state = text-grows state (reached (after_reading state (command_of_line line))) (after_reading-prints state (command_of_line line))
outcome_of-prints Routes line state = route_reading-prints state (route_of_line line)

unless-prints : (state : LoopState) (test : Bool) (stop : Stop) (outcome : OutcomeOf LoopState) → Front state.printed (reached outcome).printed → Front state.printed (reached (if test then Ends state stop else outcome)).printed
unless-prints state true stop outcome front = front-same state.printed
unless-prints state false stop outcome front = front

-- a line that follows so many bytes
step_by-prints : (kind : InputKind) (state : StateOf kind) (before : ℕ) (line : List ℕ) → Front (text_by kind state) (text_by kind (reached (step_by kind state before line)))
unfolding route_line_outcome
step_by-prints (Scenario choice) state before line = text-grows state (reached (line_outcome state before line)) (line_outcome-prints state before line)
step_by-prints Routes state before line =
    let outcome = after_route_reading state (route_of_line (content line)) in
    unless-prints state (passes_line before line) (Limit Line) (if passes_input before line then Ends state (Limit Input) else outcome)
    (unless-prints state (passes_input before line) (Limit Input) outcome (route_reading-prints state (route_of_line (content line))))

pub text-after_outcome : (kind : InputKind) (run : RunOf (StateOf kind)) (line : List ℕ) (outcome : OutcomeOf (StateOf kind)) → text_by kind (after_outcome run line outcome).state ≡ text_by kind (reached outcome)
text-after_outcome kind run line (Goes state) = refl
text-after_outcome kind run line (Ends state stop) = refl

halted_or-prints : (kind : InputKind) (run : RunOf (StateOf kind)) (line : List ℕ) (halted : Bool) → Front (text_by kind run.state) (text_by kind (if halted then run else after_outcome run line (step_by kind run.state run.bytes line)).state)
halted_or-prints kind run line true = front-same (text_by kind run.state)
halted_or-prints kind run line false =
    let outcome = step_by kind run.state run.bytes line in
    let front = step_by-prints kind run.state run.bytes line in
    (front.0, text-after_outcome kind run line outcome ∙ front.1)

-- further lines
pub lines_by-prints : (kind : InputKind) (run : RunOf (StateOf kind)) (lines : List (List ℕ)) → Front (text_by kind run.state) (text_by kind (after_lines_by (step_by kind) run lines).state)
lines_by-prints kind run [] = front-same (text_by kind run.state)
lines_by-prints kind run (line ∷ lines) =
    let next : RunOf (StateOf kind) = if is_some run.halt then run else after_outcome run line (step_by kind run.state run.bytes line) in
    front-trans (text_by kind run.state) (text_by kind next.state) (text_by kind (after_lines_by (step_by kind) next lines).state)
    (halted_or-prints kind run line (is_some run.halt)) (lines_by-prints kind next lines)

-- nothing is printed before the first line
pub first_text : (kind : InputKind) → text_by kind (first_of kind) ≡ []
first_text (Scenario choice) = refl
first_text Routes = refl

-- ---- the run of an input

-- a run that halts is that of its lines
pub run_of-halted : (kind : InputKind) (input : List ℕ) (run : RunOf (StateOf kind)) (halt : Halt) → lines_by kind (lines_of input) ≡ run → run.halt ≡ Some halt → run_of kind input ≡ seen (text_by kind) run
unfolding plain_run loop_run
run_of-halted (Scenario choice) input run halt is halts = ap (seen text_of) is
run_of-halted Routes input run halt is halts = ap (λ r. seen loop_text (at_end_of r)) is ∙ rw halts refl

-- a run that goes on to the end of the input
pub record IsWhole (kind : InputKind) (input : List ℕ) (state : StateOf kind) : Type 0 where
  pub halt : (run_of kind input).halt ≡ None
  pub text : (run_of kind input).text ≡ text_at_end kind state

pub run_of-going : (kind : InputKind) (input : List ℕ) (run : RunOf (StateOf kind)) → lines_by kind (lines_of input) ≡ run → run.halt ≡ None → IsWhole kind input run.state
unfolding plain_run loop_run
run_of-going (Scenario choice) input run is going = record { halt = ap (λ (r : RunOf State). r.halt) is ∙ going; text = ap (λ (r : RunOf State). text_of r.state) is }
run_of-going Routes input run is going =
    let ends : at_end_of run ≡ record run { state = at_end run.state } = rw going refl in
    let whole : loop_run input ≡ record run { state = at_end run.state } = ap at_end_of is ∙ ends in
    record { halt = ap (λ (r : RunOf LoopState). r.halt) whole ∙ going; text = ap (λ (r : RunOf LoopState). r.state.printed) whole }

end_or-prints : (run : RunOf LoopState) (halted : Bool) → Front run.state.printed (if halted then run else record run { state = at_end run.state }).state.printed
end_or-prints run true = front-same run.state.printed
end_or-prints run false = (moment_text run.state.lines, refl)

-- the run of an input prints what its lines print, and may print more at its end
pub run_of-prints : (kind : InputKind) (input : List ℕ) → Front (text_by kind (lines_by kind (lines_of input)).state) (run_of kind input).text
unfolding plain_run loop_run
run_of-prints (Scenario choice) input = front-same (run_of (Scenario choice) input).text
run_of-prints Routes input = let run = after_route_lines (lines_of input) in end_or-prints run (is_some run.halt)

-- what a state has printed is a front of what it has at the end
pub at_end-prints : (kind : InputKind) (state : StateOf kind) → Front (text_by kind state) (text_at_end kind state)
at_end-prints (Scenario choice) state = front-same (text_of state)
at_end-prints Routes state = (moment_text state.lines, refl)

-- so is what all its lines print, of what more bytes lead to
pub cut-prints : (kind : InputKind) (input : List ℕ) (run : RunOf (StateOf kind)) (later : List (List ℕ)) → lines_by kind (lines_of input) ≡ after_lines_by (step_by kind) run later → Front (text_by kind run.state) (run_of kind input).text
cut-prints kind input run later is =
    let all = lines_by-prints kind run later in
    front-trans (text_by kind run.state) (text_by kind (lines_by kind (lines_of input)).state) (run_of kind input).text
    (all.0, ap (λ (r : RunOf (StateOf kind)). text_by kind r.state) is ∙ all.1) (run_of-prints kind input)

-- lines of which more follow, as they are seen from outside
pub record SeenLines (kind : InputKind) (lines : List (List ℕ)) : Type 0 where
  pub halt : (lines_run kind lines).halt ≡ (lines_by kind lines).halt
  pub text : (lines_run kind lines).text ≡ text_by kind (lines_by kind lines).state

pub seen_lines : (kind : InputKind) (lines : List (List ℕ)) → SeenLines kind lines
seen_lines (Scenario choice) lines = record { halt = refl; text = refl }
seen_lines Routes lines = record { halt = refl; text = refl }
