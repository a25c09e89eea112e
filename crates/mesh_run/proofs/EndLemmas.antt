-- Lemmas on the end of an input: its last line, and the byte past its limit.
use Rattle.std.proofs.Common.{◌≡◌, ℕ, ◌+◌, ◌<◌, ◌≤◌, ◌==◌, ◌⊎◌, false, List, [], ◌∷◌, ◌++◌, length, Option, refl, sym, ap, ◌∙◌, subst, append_assoc, length-append, arith}
use Rattle.std.specs.Io.KnownBytes.{Appends}
use Rattle.std.proofs.lemmas.Bool.Decides.{nat_tests}
use Rattle.mesh_base.specs.Writes.{AppendsFront}
use Rattle.mesh_model.specs.declared.input_kind.InputKind.{InputKind}
use Rattle.mesh_model.specs.declared.ending.LimitName.TheVariants.{Line, Input, Nodes, Links, Lans, Clients, Vlans, Frames, FrameBytes, Cuts, Clock, Pairs}
use Rattle.mesh_model.specs.declared.ending.Stop.{Stop}
use Rattle.mesh_model.specs.declared.ending.Stop.TheVariants.{Refused, Limit}
use Rattle.mesh_model.specs.Scenario.Lines.{lines_of, newline}
use Rattle.mesh_model.specs.Run.Halting.{halting_place}
use Rattle.mesh_model.specs.Run.InputRun.{run_of}
use Rattle.mesh_model.specs.Run.Outcome.{Goes, OutcomeOf, reached}
use Rattle.mesh_model.specs.Run.PlainRun.{RunOf, after_lines_by, after_outcome, begun}
use Rattle.mesh_run.specs.Inner.Kinds.{CarrierStands, StateOf, first_of, lines_by, outcome_of, step_by, text_at_end, text_by}
use Rattle.mesh_run.specs.Inner.Lines.{Carried, CarryFails, EndFails, StandsAt}
use Rattle.mesh_run.specs.Inner.Progress.{FailsIn, HaltsFrom, Stands, StandsBehind}
use Rattle.mesh_run.specs.Outcome.{AppendsLess, Finishes}
use Rattle.mesh_laws.proofs.CutLemmas.{IsCut-more, lines_of-cut_end, open_line}
use Rattle.mesh_laws.proofs.HaltLemmas.{after_line_by-going, halts_after}
use Rattle.mesh_laws.proofs.RunLemmas.{after_lines_by-append}
use Rattle.mesh_run.proofs.FrontLemmas.{front-more, less-more}
use Rattle.mesh_run.proofs.KindLemmas.{Front, run_of-going, run_of-prints, text-after_outcome}
use Rattle.mesh_run.proofs.UnfinishedLemmas.{cut-length, halts_input, halts_long, step_by-last}
use Rattle.mesh_run.specs.declared.fault.Fault.{Fault}
use Rattle.mesh_run.specs.declared.fault.Fault.TheVariants.{Halted, Read, Write, Memory}
use Rattle.mesh_run.specs.declared.runner.Runner.{Runner}
use Rattle.mesh_run.specs.declared.carrier.Carrier.{Carrier}
use Rattle.mesh_run.proofs.ProgressLemmas.{HaltsFrom-after}

-- ---- the byte past the limit of the input

pub halts-past_input : (kind : InputKind) (base now : Option (List ℕ)) (runner : Runner) (read : List ℕ) (b : ℕ) → Stands kind base now runner read → runner.taken ≡ 67108864
    → length runner.line.items ≤ 4096 → (length runner.line.items < 4096) ⊎ (b ≡ newline)
    → (more : List ℕ) → HaltsFrom kind base now (length read + 1) ((read ++ b ∷ []) ++ more) (runner.lines + 1) (Limit Input)
halts-past_input kind base now runner read b stands full short which more =
    let halts = halts_input kind read stands.lines runner.line.items b more stands.cut stands.going (stands.taken ∙ full) short which in
    let P : List ℕ → Type 0 = λ input. HaltsFrom kind base now (length read + 1) input (runner.lines + 1) (Limit Input) in
    subst P (sym (append_assoc read (b ∷ []) more))
    (HaltsFrom-after kind base now (length read + 1) runner.lines (read ++ b ∷ more) stands.lines halts.0 (lines_by kind stands.lines).state (Limit Input) halts.1 stands.at.printed stands.lines_are
    (omega (arith, stands.taken, full)))

pub halts-past_line : (kind : InputKind) (base now : Option (List ℕ)) (runner : Runner) (read : List ℕ) (b : ℕ) → Stands kind base now runner read → runner.taken ≡ 67108864
    → length runner.line.items ≡ 4096 → (b == newline) ≡ false
    → (more : List ℕ) → HaltsFrom kind base now (length read + 1) ((read ++ b ∷ []) ++ more) (runner.lines + 1) (Limit Line)
halts-past_line kind base now runner read b stands full long other more =
    let rest = runner.line.items in
    let run = lines_by kind stands.lines in
    let before = cut-length kind read stands.lines rest stands.cut stands.going in
    let cut = IsCut-more read stands.lines rest (b ∷ []) stands.cut (other, tt) in
    let halts = halts_long kind (read ++ b ∷ []) stands.lines (rest ++ b ∷ []) more cut stands.going
    (omega (arith, length-append rest (b ∷ []), long)) (omega (arith, before, stands.taken, full, long)) in
    HaltsFrom-after kind base now (length read + 1) runner.lines ((read ++ b ∷ []) ++ more) stands.lines halts.0 run.state (Limit Line) halts.1 stands.at.printed stands.lines_are
    (omega (arith, before, long))

-- ---- a last line without a newline

-- the lines of what was read are those that were carried out and the unfinished one
pub lines_by-end : (kind : InputKind) (base now : Option (List ℕ)) (runner : Runner) (read : List ℕ) → (stands : Stands kind base now runner read)
    → lines_by kind (lines_of read) ≡ after_lines_by (step_by kind) (lines_by kind stands.lines) (open_line runner.line.items)
lines_by-end kind base now runner read stands =
    ap (lines_by kind) (lines_of-cut_end read stands.lines runner.line.items stands.cut)
    ∙ after_lines_by-append (step_by kind) (begun (first_of kind)) stands.lines (open_line runner.line.items)

-- without an unfinished line the carrier stands behind them all
pub StandsBehind-empty : (kind : InputKind) (base now : Option (List ℕ)) (runner : Runner) (read : List ℕ) → Stands kind base now runner read → runner.line.items ≡ [] → StandsBehind kind base now runner.carrier read
StandsBehind-empty kind base now runner read stands none =
    let run = lines_by kind stands.lines in
    let run_is = lines_by-end kind base now runner read stands ∙ ap (λ rest. after_lines_by (step_by kind) run (open_line rest)) none in
    let P : RunOf (StateOf kind) → Type 0 = λ r. StandsAt (text_by kind) (CarrierStands kind) base now runner.carrier r.state in
    record { going = ap (λ (r : RunOf (StateOf kind)). r.halt) run_is ∙ stands.going; at = subst P (sym run_is) stands.at }

open_line-some : (text : List ℕ) → 0 < length text → open_line text ≡ text ∷ []
open_line-some [] some = absurd (omega (arith, some))
open_line-some (b ∷ bs) some = refl

-- the lines of what was read, whose unfinished one has this outcome
lines_by-last : (kind : InputKind) (base old : Option (List ℕ)) (runner : Runner) (read : List ℕ) (outcome : OutcomeOf (StateOf kind)) → (stands : Stands kind base old runner read)
    → length runner.line.items ≤ 4096 → 0 < length runner.line.items → runner.taken ≤ 67108864
    → outcome_of kind runner.line.items (lines_by kind stands.lines).state ≡ outcome
    → lines_by kind (lines_of read) ≡ after_outcome (lines_by kind stands.lines) runner.line.items outcome
lines_by-last kind base old runner read outcome stands short some within is =
    let rest = runner.line.items in
    let run = lines_by kind stands.lines in
    let before = cut-length kind read stands.lines rest stands.cut stands.going in
    let line = step_by-last kind run.state run.bytes rest stands.cut.unbroken short (omega (arith, before, stands.taken, within)) ∙ is in
    lines_by-end kind base old runner read stands ∙ ap (after_lines_by (step_by kind) run) (open_line-some rest some) ∙ after_line_by-going (step_by kind) run rest outcome stands.going line

-- the unfinished line is carried out
pub StandsBehind-last : (kind : InputKind) (base old new : Option (List ℕ)) (runner : Runner) (carrier : Carrier) (read : List ℕ) → (stands : Stands kind base old runner read)
    → length runner.line.items ≤ 4096 → 0 < length runner.line.items → runner.taken ≤ 67108864
    → Carried (text_by kind) (CarrierStands kind) (outcome_of kind runner.line.items (lines_by kind stands.lines).state) base new carrier
    → StandsBehind kind base new carrier read
StandsBehind-last kind base old new runner carrier read stands short some within carried =
    let run_is = lines_by-last kind base old runner read (Goes carried.after) stands short some within carried.carried in
    let P : RunOf (StateOf kind) → Type 0 = λ r. StandsAt (text_by kind) (CarrierStands kind) base new carrier r.state in
    record { going = ap (λ (r : RunOf (StateOf kind)). r.halt) run_is; at = subst P (sym run_is) carried.standing }

-- ---- the end of the input

-- out took what is printed there
pub Finishes-end : (kind : InputKind) (base old new : Option (List ℕ)) (carrier : Carrier) (read : List ℕ) → (behind : StandsBehind kind base old carrier read)
    → Appends base new (text_at_end kind (lines_by kind (lines_of read)).state) → Finishes kind base new read
Finishes-end kind base old new carrier read behind printed =
    let whole = run_of-going kind read (lines_by kind (lines_of read)) refl behind.going in
    let T : List ℕ → Type 0 = λ text. Appends base new text in
    record { halt = whole.halt; printed = subst T (sym whole.text) printed }

-- the fault of a write, or of memory, there
pub FailsIn-end : (kind : InputKind) (base old new : Option (List ℕ)) (carrier : Carrier) (read : List ℕ) (fault : Fault) → (behind : StandsBehind kind base old carrier read)
    → EndFails base new (text_at_end kind (lines_by kind (lines_of read)).state) fault → FailsIn kind base new (length read) read fault
FailsIn-end kind base old new carrier read (Halted line stop) behind h = absurd h
FailsIn-end kind base old new carrier read Read behind h = h
FailsIn-end kind base old new carrier read Write behind h =
    let whole = run_of-going kind read (lines_by kind (lines_of read)) refl behind.going in
    let P : List ℕ → Type 0 = λ text. AppendsLess base new text in
    subst P (sym whole.text) h
FailsIn-end kind base old new carrier read Memory behind h =
    let whole = run_of-going kind read (lines_by kind (lines_of read)) refl behind.going in
    let P : List ℕ → Type 0 = λ text. AppendsFront base new text in
    subst P (sym whole.text) h

-- ---- the fault of the last line

halting_place-last : (before : ℕ) (rest : List ℕ) (stop : Stop) → length rest ≤ 4096 → before + length rest ≤ 67108864 → before + length rest ≤ halting_place before rest stop
halting_place-last before rest (Refused refusal) short within = omega arith
halting_place-last before rest (Limit Line) short within = omega (arith, short)
halting_place-last before rest (Limit Input) short within = omega (arith, within)
halting_place-last before rest (Limit Nodes) short within = omega arith
halting_place-last before rest (Limit Links) short within = omega arith
halting_place-last before rest (Limit Lans) short within = omega arith
halting_place-last before rest (Limit Clients) short within = omega arith
halting_place-last before rest (Limit Vlans) short within = omega arith
halting_place-last before rest (Limit Frames) short within = omega arith
halting_place-last before rest (Limit FrameBytes) short within = omega arith
halting_place-last before rest (Limit Cuts) short within = omega arith
halting_place-last before rest (Limit Clock) short within = omega arith
halting_place-last before rest (Limit Pairs) short within = omega arith

-- the run prints what the unfinished line leaves printed, and may print more
last-prints : (kind : InputKind) (base old : Option (List ℕ)) (runner : Runner) (read : List ℕ) → (stands : Stands kind base old runner read)
    → length runner.line.items ≤ 4096 → 0 < length runner.line.items → runner.taken ≤ 67108864
    → Front (text_by kind (reached (outcome_of kind runner.line.items (lines_by kind stands.lines).state))) (run_of kind read).text
last-prints kind base old runner read stands short some within =
    let run = lines_by kind stands.lines in
    let outcome = outcome_of kind runner.line.items run.state in
    let text = ap (λ (r : RunOf (StateOf kind)). text_by kind r.state) (lines_by-last kind base old runner read outcome stands short some within refl) ∙ text-after_outcome kind run runner.line.items outcome in
    let more = run_of-prints kind read in
    (more.0, more.1 ∙ ap (λ first. first ++ more.0) text)

-- the fault of the unfinished line
pub FailsIn-last : (kind : InputKind) (base old new : Option (List ℕ)) (runner : Runner) (read : List ℕ) (fault : Fault) → (stands : Stands kind base old runner read)
    → length runner.line.items ≤ 4096 → 0 < length runner.line.items → runner.taken ≤ 67108864
    → CarryFails (text_by kind) (outcome_of kind runner.line.items (lines_by kind stands.lines).state) base new (runner.lines + 1) fault
    → FailsIn kind base new (length read) read fault
FailsIn-last kind base old new runner read (Halted line stop) stands short some within h =
    let rest = runner.line.items in
    let run = lines_by kind stands.lines in
    let before = cut-length kind read stands.lines rest stands.cut stands.going in
    let fits : run.bytes + length rest ≤ 67108864 = omega (arith, before, stands.taken, within) in
    let outcome = step_by-last kind run.state run.bytes rest stands.cut.unbroken short fits ∙ h.ended in
    let lines = lines_of-cut_end read stands.lines rest stands.cut ∙ ap (λ more. stands.lines ++ more) (open_line-some rest some) in
    let halts = halts_after (step_by kind) (first_of kind) read stands.lines rest [] h.after stop lines stands.going outcome in
    let late = halting_place-last run.bytes rest stop short fits in
    let P : ℕ → Type 0 = λ number. HaltsFrom kind base new (length read) read number stop in
    subst P (sym h.numbered)
    (HaltsFrom-after kind base new (length read) runner.lines read stands.lines rest h.after stop halts h.printed stands.lines_are
    (omega (arith, before, late)))
FailsIn-last kind base old new runner read Read stands short some within h = h
FailsIn-last kind base old new runner read Write stands short some within h =
    let front = last-prints kind base old runner read stands short some within in
    less-more base new _ front.0 _ h front.1
FailsIn-last kind base old new runner read Memory stands short some within h =
    let front = last-prints kind base old runner read stands short some within in
    front-more base new _ front.0 _ h front.1

pub nil-from_length : (xs : List ℕ) → length xs ≡ 0 → xs ≡ []
nil-from_length [] h = refl
nil-from_length (x ∷ xs) h = absurd (omega (arith, h))

pub eqb-from_other : (a b : ℕ) → (a ≡ b → ⊥) → (a == b) ≡ false
eqb-from_other a b h = grind (arith, nat_tests, h)
