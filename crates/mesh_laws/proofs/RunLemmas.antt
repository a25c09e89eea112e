-- Lemmas on the runs of lists of lines.
use Rattle.std.proofs.Common.{◌≡◌, ℕ, true, false, List, [], ◌∷◌, ◌++◌, is_some, IsSome, Bool, if◌then◌else◌, Ok, Err, refl, sym, ap, ◌∙◌, append_assoc, append-nil}
use Rattle.std.specs.Prelude.{flat_map}
use Rattle.std.specs.List.{concat}
use Rattle.std.proofs.lemmas.List.Sums.{fold-append}
use Rattle.mesh_model.specs.declared.ending.Stop.{Stop}
use Rattle.mesh_model.specs.declared.ending.LimitName.TheVariants.{Line, Input}
use Rattle.mesh_model.specs.declared.ending.Stop.TheVariants.{Limit}
use Rattle.mesh_model.specs.declared.frame_choice.FrameChoice.{FrameChoice}
use Rattle.mesh_laws.specs.Cuts.{AreLines}
use Rattle.mesh_model.specs.Scenario.Commands.{command_of_line}
use Rattle.mesh_model.specs.Scenario.Readings.{Reading}
use Rattle.mesh_model.specs.Scenario.Lines.{content, lines_of}
use Rattle.mesh_model.specs.Run.Outcome.{Outcome, Goes, Ends, reached}
use Rattle.mesh_model.specs.Run.PlainRun.{LineStep, Run, RunOf, start, after_line, after_line_by, after_lines, after_lines_by, after_outcome, after_reading, line_outcome, passes_input, passes_line, plain_run, output}
use Rattle.mesh_model.specs.Run.Rules.{setup_of}
use Rattle.mesh_model.specs.Run.State.{State, printed_text, text_of}
use Rattle.mesh_laws.proofs.CutLemmas.{lines_of-lines_then}
use Rattle.mesh_laws.proofs.Lines.Printing.{Grows, grows, grows_by_none, text_of_more}

-- ---- runs of any lines
module _ {S : Type 0} (step : LineStep S) where
  pub after_lines_by-append : (run : RunOf S) (a b : List (List ℕ)) → after_lines_by step run (a ++ b) ≡ after_lines_by step (after_lines_by step run a) b
  after_lines_by-append run a b = fold-append (after_line_by step) run a b

  -- a run that halted stays
  pub after_lines_by-halted : (run : RunOf S) (lines : List (List ℕ)) → IsSome run.halt → after_lines_by step run lines ≡ run
  after_lines_by-halted run [] halted = refl
  after_lines_by-halted run (line ∷ lines) halted =
      let stays : after_line_by step run line ≡ run = rw halted refl in
      ap (λ r. after_lines_by step r lines) stays ∙ after_lines_by-halted run lines halted

-- ---- the run of a scenario
pub after_lines-append : (run : Run) (a b : List (List ℕ)) → after_lines run (a ++ b) ≡ after_lines (after_lines run a) b
after_lines-append = after_lines_by-append line_outcome

pub after_lines-halted : (run : Run) (lines : List (List ℕ)) → IsSome run.halt → after_lines run lines ≡ run
after_lines-halted = after_lines_by-halted line_outcome

-- ---- what is printed stays

-- an outcome keeps what was printed before it, and the choice
abbrev pub PrintsOn : State → Outcome → Type 0
PrintsOn before outcome = Grows before (reached outcome)

-- nothing more is printed
pub PrintsOn-none : (state : State) → Grows state state
PrintsOn-none state = grows_by_none state state refl refl

pub after_reading-prints : (state : State) (reading : Reading) → PrintsOn state (after_reading state reading)
after_reading-prints state (Ok command) = grows (setup_of state.algorithm) state command
after_reading-prints state (Err stop) = PrintsOn-none state

unless-prints : (state : State) (test : Bool) (stop : Stop) (outcome : Outcome) → PrintsOn state outcome → PrintsOn state (if test then Ends state stop else outcome)
unless-prints state true stop outcome h = PrintsOn-none state
unless-prints state false stop outcome h = h

pub line_outcome-prints : (state : State) (before : ℕ) (line : List ℕ) → PrintsOn state (line_outcome state before line)
unfolding line_outcome
line_outcome-prints state before line =
    let reading = command_of_line (content line) in
    unless-prints state (passes_line before line) (Limit Line) (if passes_input before line then Ends state (Limit Input) else after_reading state reading)
    (unless-prints state (passes_input before line) (Limit Input) (after_reading state reading) (after_reading-prints state reading))

-- the text of what was printed is a front of that of more
pub text-grows : (old new : State) → Grows old new → (printed : List ℕ) × (text_of new ≡ text_of old ++ printed)
text-grows old new g = (flat_map (printed_text old.choice) g.more, text_of_more old new g)

after_outcome-grows : (run : Run) (line : List ℕ) (outcome : Outcome) → PrintsOn run.state outcome → (printed : List ℕ) × (output (after_outcome run line outcome) ≡ output run ++ printed)
after_outcome-grows run line (Goes state) h = text-grows run.state state h
after_outcome-grows run line (Ends state stop) h = text-grows run.state state h

halted_or-grows : (run : Run) (line : List ℕ) (halted : Bool) → (printed : List ℕ) × (output (if halted then run else after_outcome run line (line_outcome run.state run.bytes line)) ≡ output run ++ printed)
halted_or-grows run line true = ([], sym (append-nil (output run)))
halted_or-grows run line false = after_outcome-grows run line (line_outcome run.state run.bytes line) (line_outcome-prints run.state run.bytes line)

pub after_line-grows : (run : Run) (line : List ℕ) → (printed : List ℕ) × (output (after_line run line) ≡ output run ++ printed)
after_line-grows run line = halted_or-grows run line (is_some run.halt)

pub after_lines-grows : (run : Run) (lines : List (List ℕ)) → (printed : List ℕ) × (output (after_lines run lines) ≡ output run ++ printed)
after_lines-grows run [] = ([], sym (append-nil (output run)))
after_lines-grows run (line ∷ lines) =
    let one = after_line-grows run line in
    let rest = after_lines-grows (after_line run line) lines in
    (one.0 ++ rest.0, rest.1 ∙ ap (λ first. first ++ rest.0) one.1 ∙ append_assoc (output run) one.0 rest.0)

-- ---- the run of an input that was cut

pub plain_run-lines : (choice : FrameChoice) (lines : List (List ℕ)) (rest : List ℕ) → AreLines lines
    → plain_run choice (concat lines ++ rest) ≡ after_lines (after_lines (start choice) lines) (lines_of rest)
unfolding plain_run
plain_run-lines choice lines rest are =
    ap (after_lines (start choice)) (lines_of-lines_then lines rest are) ∙ after_lines-append (start choice) lines (lines_of rest)
