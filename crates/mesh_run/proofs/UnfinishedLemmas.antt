-- Lemmas on an unfinished line: the three ways in which it halts the run, and what becomes of it when
-- it ends.
use Rattle.std.proofs.Common.{◌≡◌, ℕ, ◌+◌, ◌<◌, ◌≤◌, false, ◌⊎◌, inl, inr, List, [], ◌∷◌, ◌++◌, length, None, refl, ap, ◌∙◌, append_assoc, length-append, arith}
use Rattle.std.specs.Prelude.{nat_lt, nat_le}
use Rattle.std.specs.List.{concat}
use Rattle.std.proofs.lemmas.Bool.{and_left, and_right}
use Rattle.mesh_model.specs.declared.input_kind.InputKind.{InputKind}
use Rattle.mesh_model.specs.declared.ending.LimitName.TheVariants.{Line, Input}
use Rattle.mesh_model.specs.declared.ending.Stop.{Stop}
use Rattle.mesh_model.specs.declared.ending.Stop.TheVariants.{Limit}
use Rattle.mesh_laws.specs.Cuts.{IsUnbroken, IsCut}
use Rattle.mesh_model.specs.Scenario.Lines.{newline, line_limit, input_limit, lines_of, before_newline, without_carriage_return}
use Rattle.mesh_model.specs.Run.Outcome.{OutcomeOf, Ends}
use Rattle.mesh_model.specs.Run.PlainRun.{after_outcome, begun, passes_line}
use Rattle.mesh_laws.proofs.CutLemmas.{before_newline-line, before_newline-unbroken, content-line, content-unbroken, length-before_newline, join_first, lines_of-cut, lines_of-first, lines_of-line, lines_of-unbroken_then}
use Rattle.mesh_laws.proofs.RunLemmas.{after_lines_by-append}
use Rattle.mesh_laws.proofs.HaltLemmas.{ltb-from_le, leb-from_lt, after_line_by-going, after_lines_by-counts, halts_after, HaltsAfter}
use Rattle.mesh_run.specs.Inner.Kinds.{StateOf, first_of, lines_by, outcome_of, step_by}
use Rattle.mesh_run.proofs.KindLemmas.{step_by-input, step_by-long, step_by-read}

-- ---- the three ways of halting at an unfinished line

-- the first line of what follows an unfinished line, with it
pub record FirstLine (rest more : List ℕ) : Type 0 where
  pub line : List ℕ
  pub later : List (List ℕ)
  pub lines_are : lines_of (rest ++ more) ≡ line ∷ later
  pub long : length rest ≤ length (before_newline line)

first_line_alone : (b : ℕ) (bs : List ℕ) → IsUnbroken (b ∷ bs) → FirstLine (b ∷ bs) []
first_line_alone b bs h = record {
  line = b ∷ bs;
  later = [];
  lines_are = lines_of-unbroken_then (b ∷ bs) [] h;
  long = rw (before_newline-unbroken (b ∷ bs) h) (omega arith);
}

first_line_joined : (rest : List ℕ) (b : ℕ) (bs : List ℕ) → IsUnbroken rest → FirstLine rest (b ∷ bs)
first_line_joined rest b bs h =
    let first = lines_of-first b bs in
    let line = rest ++ b ∷ first.0 in
    record {
      line = line;
      later = first.1;
      lines_are = lines_of-unbroken_then rest (b ∷ bs) h ∙ ap (join_first rest) first.2;
      long = omega (arith, length-before_newline line, length-append rest (b ∷ first.0));
    }

pub first_line : (rest more : List ℕ) → IsUnbroken rest → 0 < length rest → FirstLine rest more
first_line [] more h some = absurd (omega (arith, some))
first_line (b ∷ bs) [] h some = first_line_alone b bs h
first_line (b ∷ bs) (next ∷ more) h some = first_line_joined (b ∷ bs) next more h

-- the unfinished line is too long
pub halts_long : (kind : InputKind) (read : List ℕ) (lines : List (List ℕ)) (rest more : List ℕ) → IsCut read lines rest → (lines_by kind lines).halt ≡ None
    → line_limit < length rest → (lines_by kind lines).bytes + line_limit ≤ input_limit
    → (line : List ℕ) × HaltsAfter (step_by kind) (first_of kind) (read ++ more) lines line (lines_by kind lines).state (Limit Line)
halts_long kind read lines rest more cut going long within =
    let first = first_line rest more cut.unbroken (omega (arith, long)) in
    let run = lines_by kind lines in (
      first.line,
      halts_after (step_by kind) (first_of kind) (read ++ more) lines first.line first.later run.state (Limit Line)
          (lines_of-cut read lines rest more cut ∙ ap (λ next. lines ++ next) first.lines_are) going
          (step_by-long kind run.state run.bytes first.line (omega (arith, long, first.long)) within),
    )

-- what was carried out and the unfinished line are what was read
pub cut-length : (kind : InputKind) (read : List ℕ) (lines : List (List ℕ)) (rest : List ℕ) → IsCut read lines rest → (lines_by kind lines).halt ≡ None
    → (lines_by kind lines).bytes + length rest ≡ length read
cut-length kind read lines rest cut going =
    let counts = after_lines_by-counts (step_by kind) (begun (first_of kind)) lines refl going in
    omega (arith, counts.bytes, length-append (concat lines) rest, ap length cut.bytes_are)

halts_input_at : (kind : InputKind) (read : List ℕ) (lines : List (List ℕ)) (rest later_bytes : List ℕ) (b : ℕ) (more : List ℕ) (later : List (List ℕ))
    → IsCut read lines rest → (lines_by kind lines).halt ≡ None → length read ≡ input_limit
    → lines_of (b ∷ more) ≡ (b ∷ later_bytes) ∷ later → passes_line (lines_by kind lines).bytes (rest ++ b ∷ later_bytes) ≡ false
    → HaltsAfter (step_by kind) (first_of kind) (read ++ b ∷ more) lines (rest ++ b ∷ later_bytes) (lines_by kind lines).state (Limit Input)
halts_input_at kind read lines rest later_bytes b more later cut going full are not_long =
    let run = lines_by kind lines in
    let joined = lines_of-unbroken_then rest (b ∷ more) cut.unbroken ∙ ap (join_first rest) are in
    let before = cut-length kind read lines rest cut going in
    let past : input_limit < run.bytes + length (rest ++ b ∷ later_bytes) = omega (arith, length-append rest (b ∷ later_bytes), before, full) in
    halts_after (step_by kind) (first_of kind) (read ++ b ∷ more) lines (rest ++ b ∷ later_bytes) later run.state (Limit Input)
    (lines_of-cut read lines rest (b ∷ more) cut ∙ ap (λ next. lines ++ next) joined) going
    (step_by-input kind run.state run.bytes (rest ++ b ∷ later_bytes) not_long past)

-- a byte past the input's limit ends an unfinished line that isn't too long with it
pub halts_input : (kind : InputKind) (read : List ℕ) (lines : List (List ℕ)) (rest : List ℕ) (b : ℕ) (more : List ℕ) → IsCut read lines rest → (lines_by kind lines).halt ≡ None
    → length read ≡ input_limit → length rest ≤ line_limit → (length rest < line_limit) ⊎ (b ≡ newline)
    → (line : List ℕ) × HaltsAfter (step_by kind) (first_of kind) (read ++ b ∷ more) lines line (lines_by kind lines).state (Limit Input)
halts_input kind read lines rest b more cut going full short (inl less) =
    let run = lines_by kind lines in
    let first = lines_of-first b more in
    let line = rest ++ b ∷ first.0 in
    let before = cut-length kind read lines rest cut going in
    let late : nat_le (run.bytes + line_limit) input_limit ≡ false = leb-from_lt (run.bytes + line_limit) input_limit (omega (arith, before, full, less)) in (
      line,
      halts_input_at kind read lines rest first.0 b more first.1 cut going full first.2
          (and_right (nat_lt line_limit (length (before_newline line))) (nat_le (run.bytes + line_limit) input_limit) late),
    )
halts_input kind read lines rest b more cut going full short (inr is) =
    let run = lines_by kind lines in
    let line = rest ++ b ∷ [] in
    let same : lines_of (b ∷ more) ≡ (b ∷ []) ∷ lines_of more = rw is refl in
    let before : before_newline line ≡ rest = rw is (before_newline-line rest) in
    let fits : nat_lt line_limit (length (before_newline line)) ≡ false = ltb-from_le line_limit (length (before_newline line)) (omega (arith, ap length before, short)) in (
      line,
      halts_input_at kind read lines rest [] b more (lines_of more) cut going full same
          (and_left (nat_lt line_limit (length (before_newline line))) (nat_le (run.bytes + line_limit) input_limit) fits),
    )

-- ---- an unfinished line that ends

-- the outcome of an unfinished line with its newline
pub step_by-newline : (kind : InputKind) (state : StateOf kind) (before : ℕ) (rest : List ℕ) → length rest ≤ line_limit → before + length rest < input_limit
    → step_by kind state before (rest ++ newline ∷ []) ≡ outcome_of kind (without_carriage_return rest) state
step_by-newline kind state before rest short within =
    let line = rest ++ newline ∷ [] in
    step_by-read kind state before line (omega (arith, ap length (before_newline-line rest), short)) (omega (arith, length-append rest (newline ∷ []), within))
    ∙ ap (λ said. outcome_of kind said state) (content-line rest)

-- the outcome of an unfinished line at the end of the input
pub step_by-last : (kind : InputKind) (state : StateOf kind) (before : ℕ) (rest : List ℕ) → IsUnbroken rest → length rest ≤ line_limit → before + length rest ≤ input_limit
    → step_by kind state before rest ≡ outcome_of kind rest state
step_by-last kind state before rest unbroken short within =
    step_by-read kind state before rest (omega (arith, ap length (before_newline-unbroken rest unbroken), short)) within
    ∙ ap (λ said. outcome_of kind said state) (content-unbroken rest unbroken)

-- an unfinished line is refused when its newline came
pub halts_newline : (kind : InputKind) (read : List ℕ) (lines : List (List ℕ)) (rest more : List ℕ) (after : StateOf kind) (stop : Stop) → IsCut read lines rest → (lines_by kind lines).halt ≡ None
    → step_by kind (lines_by kind lines).state (lines_by kind lines).bytes (rest ++ newline ∷ []) ≡ Ends after stop
    → HaltsAfter (step_by kind) (first_of kind) ((read ++ newline ∷ []) ++ more) lines (rest ++ newline ∷ []) after stop
halts_newline kind read lines rest more after stop cut going is =
    let line = rest ++ newline ∷ [] in
    halts_after (step_by kind) (first_of kind) ((read ++ newline ∷ []) ++ more) lines line (lines_of more) after stop
    (ap lines_of (append_assoc read (newline ∷ []) more) ∙ lines_of-cut read lines rest (newline ∷ more) cut
    ∙ ap (λ next. lines ++ next) (lines_of-line rest more cut.unbroken)) going is

-- the run with an unfinished line that its newline ended
pub after_lines-newline : (kind : InputKind) (lines : List (List ℕ)) (line : List ℕ) (outcome : OutcomeOf (StateOf kind)) → (lines_by kind lines).halt ≡ None
    → step_by kind (lines_by kind lines).state (lines_by kind lines).bytes line ≡ outcome
    → lines_by kind (lines ++ line ∷ []) ≡ after_outcome (lines_by kind lines) line outcome
after_lines-newline kind lines line outcome going is =
    after_lines_by-append (step_by kind) (begun (first_of kind)) lines (line ∷ []) ∙ after_line_by-going (step_by kind) (lines_by kind lines) line outcome going is
