-- Lemmas on where a run halts: what a line's outcome is by its length, and where an input's run halts
-- after lines that were carried out.
use Rattle.std.proofs.Common.{◌≡◌, ℕ, ◌+◌, ◌-◌, ◌<◌, ◌≤◌, true, false, List, [], ◌∷◌, ◌++◌, length, get_or, Option, Some, None, refl, sym, ap, ◌∙◌, subst, length-append, arith}
use Rattle.std.specs.Prelude.{nat_lt, nat_le}
use Rattle.std.specs.List.{concat}
use Rattle.std.proofs.lemmas.List.{get_or_at}
use Rattle.mesh_model.specs.Run.Halting.{numbered_line}
use Rattle.std.proofs.lemmas.Bool.Decides.{nat_tests}
use Rattle.mesh_model.specs.declared.ending.LimitName.TheVariants.{Line, Input}
use Rattle.mesh_model.specs.declared.ending.Stop.{Stop}
use Rattle.mesh_model.specs.declared.ending.Stop.TheVariants.{Limit}
use Rattle.mesh_model.specs.Scenario.Commands.{command_of_line}
use Rattle.mesh_laws.specs.Cuts.{IsCut}
use Rattle.mesh_model.specs.Scenario.Lines.{line_limit, input_limit, lines_of, before_newline, content}
use Rattle.mesh_model.specs.Run.Outcome.{OutcomeOf, Goes, Ends}
use Rattle.mesh_model.specs.Run.PlainRun.{LineStep, RunOf, after_line_by, after_lines_by, after_outcome, after_reading, begun, line_outcome, passes_line, within_limits}
use Rattle.mesh_model.specs.Run.State.{State}
use Rattle.mesh_laws.proofs.CutLemmas.{lines_of-cut}
use Rattle.mesh_laws.proofs.RunLemmas.{after_lines_by-append, after_lines_by-halted}

pub ltb-from_le : (a b : ℕ) → b ≤ a → nat_lt a b ≡ false
ltb-from_le a b h = grind (arith, nat_tests)

ltb-from_lt : (a b : ℕ) → a < b → nat_lt a b ≡ true
ltb-from_lt a b h = grind (arith, nat_tests)

leb-from_le : (a b : ℕ) → a ≤ b → nat_le a b ≡ true
leb-from_le a b h = grind (arith, nat_tests)

pub leb-from_lt : (a b : ℕ) → b < a → nat_le a b ≡ false
leb-from_lt a b h = grind (arith, nat_tests)

-- ---- the outcome of a line, by its length
module _ {S : Type 0} (state : S) (before : ℕ) (line : List ℕ) (outcome : OutcomeOf S) where
  -- a line within both limits is read
  pub within-read : length (before_newline line) ≤ line_limit → before + length line ≤ input_limit → within_limits state before line outcome ≡ outcome
  within-read short within =
      rw (ltb-from_le line_limit (length (before_newline line)) short, ltb-from_le input_limit (before + length line) within) refl

  -- a line that is too long, of which the byte past the limit stands at most right past the input's limit
  pub within-long : line_limit < length (before_newline line) → before + line_limit ≤ input_limit → within_limits state before line outcome ≡ Ends state (Limit Line)
  within-long long within =
      rw (ltb-from_lt line_limit (length (before_newline line)) long, leb-from_le (before + line_limit) input_limit within) refl

  -- a line that isn't too long, or whose byte past the limit comes later, and that passes the input's limit
  pub within-input : passes_line before line ≡ false → input_limit < before + length line → within_limits state before line outcome ≡ Ends state (Limit Input)
  within-input not_long past = rw (not_long, ltb-from_lt input_limit (before + length line) past) refl

pub line_outcome-read : (state : State) (before : ℕ) (line : List ℕ) → length (before_newline line) ≤ line_limit → before + length line ≤ input_limit
    → line_outcome state before line ≡ after_reading state (command_of_line (content line))
unfolding line_outcome
line_outcome-read state before line = within-read state before line (after_reading state (command_of_line (content line)))

pub line_outcome-long : (state : State) (before : ℕ) (line : List ℕ) → line_limit < length (before_newline line) → before + line_limit ≤ input_limit
    → line_outcome state before line ≡ Ends state (Limit Line)
unfolding line_outcome
line_outcome-long state before line = within-long state before line (after_reading state (command_of_line (content line)))

pub line_outcome-input : (state : State) (before : ℕ) (line : List ℕ) → passes_line before line ≡ false → input_limit < before + length line
    → line_outcome state before line ≡ Ends state (Limit Input)
unfolding line_outcome
line_outcome-input state before line = within-input state before line (after_reading state (command_of_line (content line)))

-- ---- a run with a line
module _ {S : Type 0} (step : LineStep S) where
  pub after_line_by-going : (run : RunOf S) (line : List ℕ) (outcome : OutcomeOf S) → run.halt ≡ None → step run.state run.bytes line ≡ outcome
      → after_line_by step run line ≡ after_outcome run line outcome
  after_line_by-going run line outcome going is = rw (going, is) refl

  -- where a line halts the run, so it stays
  pub after_lines_by-halts : (run : RunOf S) (line : List ℕ) (rest : List (List ℕ)) (after : S) (stop : Stop) → run.halt ≡ None → step run.state run.bytes line ≡ Ends after stop
      → after_lines_by step run (line ∷ rest) ≡ record run { state = after; halt = Some (record { line = run.lines + 1; stop = stop }) }
  after_lines_by-halts run line rest after stop going is =
      let halted = after_line_by-going run line (Ends after stop) going is in
      ap (λ r. after_lines_by step r rest) halted ∙ after_lines_by-halted step (after_outcome run line (Ends after stop)) rest refl

  -- ---- the run of an input that was cut
  pub lines_run-cut : (first : RunOf S) (read : List ℕ) (lines : List (List ℕ)) (rest more : List ℕ) → IsCut read lines rest
      → after_lines_by step first (lines_of (read ++ more)) ≡ after_lines_by step (after_lines_by step first lines) (lines_of (rest ++ more))
  lines_run-cut first read lines rest more cut =
      ap (after_lines_by step first) (lines_of-cut read lines rest more cut) ∙ after_lines_by-append step first lines (lines_of (rest ++ more))

-- ---- what a run that goes on has counted

-- the bytes and the lines of a run that went on
pub record Counts {S : Type 0} (run after : RunOf S) (lines : List (List ℕ)) : Type 0 where
  pub bytes : after.bytes ≡ run.bytes + length (concat lines)
  pub lines_are : after.lines ≡ run.lines + length lines

some_is_none : {A : Type 0} (x : A) (o : Option A) → o ≡ Some x → o ≡ None → ⊥
some_is_none x o p q = let h : Some x ≡ None = sym p ∙ q in cc

-- the run of an input halts at the line that follows these, for this cause
pub record HaltsAfter {S : Type 0} (step : LineStep S) (first : S) (input : List ℕ) (lines : List (List ℕ)) (line : List ℕ) (after : S) (stop : Stop) : Type 0 where
  pub run_is : after_lines_by step (begun first) (lines_of input) ≡ record (after_lines_by step (begun first) lines) { state = after; halt = Some (record { line = (after_lines_by step (begun first) lines).lines + 1; stop = stop }) }
  pub numbered : numbered_line input ((after_lines_by step (begun first) lines).lines + 1) ≡ line

module _ {S : Type 0} (step : LineStep S) where
  counts_by : (run : RunOf S) (line : List ℕ) (lines : List (List ℕ)) (outcome : OutcomeOf S)
      → (after_lines_by step (after_outcome run line outcome) lines).halt ≡ None
      → ((next : RunOf S) → next.halt ≡ None → (after_lines_by step next lines).halt ≡ None → Counts next (after_lines_by step next lines) lines)
      → Counts run (after_lines_by step (after_outcome run line outcome) lines) (line ∷ lines)
  counts_by run line lines (Ends after stop) going later =
      let halted = after_outcome run line (Ends after stop) in
      let stays = ap (λ (r : RunOf S). r.halt) (after_lines_by-halted step halted lines refl) in
      absurd (some_is_none (record { line = run.lines + 1; stop = stop }) (after_lines_by step halted lines).halt stays going)
  counts_by run line lines (Goes state) going later =
      let counts = later (after_outcome run line (Goes state)) refl going in
      record {
        bytes = counts.bytes ∙ omega (arith, length-append line (concat lines));
        lines_are = counts.lines_are ∙ omega arith;
      }

  pub after_lines_by-counts : (run : RunOf S) (lines : List (List ℕ)) → run.halt ≡ None → (after_lines_by step run lines).halt ≡ None → Counts run (after_lines_by step run lines) lines
  after_lines_by-counts run [] begun_run going = record { bytes = omega arith; lines_are = omega arith }
  after_lines_by-counts run (line ∷ lines) begun_run going =
      let one = after_line_by-going step run line (step run.state run.bytes line) begun_run refl in
      let P : RunOf S → Type 0 = λ r. (after_lines_by step r lines).halt ≡ None → Counts run (after_lines_by step r lines) (line ∷ lines) in
      subst P (sym one)
      (λ g. counts_by run line lines (step run.state run.bytes line) g (λ next b g'. after_lines_by-counts next lines b g'))
      going

  -- ---- where the run of an input halts
  pub halts_after : (first : S) (input : List ℕ) (lines : List (List ℕ)) (line : List ℕ) (later : List (List ℕ)) (after : S) (stop : Stop)
      → lines_of input ≡ lines ++ line ∷ later → (after_lines_by step (begun first) lines).halt ≡ None
      → step (after_lines_by step (begun first) lines).state (after_lines_by step (begun first) lines).bytes line ≡ Ends after stop → HaltsAfter step first input lines line after stop
  halts_after first input lines line later after stop are going is =
      let run = after_lines_by step (begun first) lines in
      let counts = after_lines_by-counts (begun first) lines refl going in
      let at : run.lines + 1 - 1 ≡ length lines = omega (arith, counts.lines_are) in
      record {
        run_is = ap (after_lines_by step (begun first)) are ∙ after_lines_by-append step (begun first) lines (line ∷ later) ∙ after_lines_by-halts step run line later after stop going is;
        numbered = ap (λ ls. get_or ls (run.lines + 1 - 1) []) are ∙ get_or_at lines line later [] (run.lines + 1 - 1) (sym at);
      }
