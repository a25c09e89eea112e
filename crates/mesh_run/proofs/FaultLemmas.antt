-- Lemmas on the faults that end a run.
use Rattle.std.proofs.Common.{◌≡◌, ℕ, ◌+◌, ◌<◌, ◌≤◌, List, [], ◌∷◌, ◌++◌, length, Option, refl, sym, ap, ◌∙◌, subst, length-append, arith}
use Rattle.std.specs.Io.KnownBytes.{Appends}
use Rattle.mesh_model.specs.declared.input_kind.InputKind.{InputKind}
use Rattle.mesh_model.specs.declared.ending.LimitName.TheVariants.{Line, Input, Nodes, Links, Lans, Clients, Vlans, Frames, FrameBytes, Cuts, Clock, Pairs}
use Rattle.mesh_model.specs.declared.ending.Stop.{Stop}
use Rattle.mesh_model.specs.declared.ending.Stop.TheVariants.{Refused, Limit}
use Rattle.mesh_model.specs.Scenario.Readings.{Reading}
use Rattle.mesh_model.specs.Scenario.Lines.{newline, lines_of, without_carriage_return}
use Rattle.mesh_model.specs.Run.Halting.{halting_place}
use Rattle.mesh_model.specs.Run.Outcome.{Outcome, OutcomeOf, reached}
use Rattle.mesh_model.specs.Run.InputRun.{run_of}
use Rattle.mesh_model.specs.Run.PlainRun.{RunOf, after_reading, begun}
use Rattle.mesh_model.specs.Run.State.{State, text_of}
use Rattle.mesh_run.specs.Inner.Faults.{fault_at}
use Rattle.mesh_run.specs.Inner.Lines.{BlamesWrite, CarryFails}
use Rattle.mesh_scene.specs.AnswersCommand.{HasLineCause}
use Rattle.mesh_run.specs.Inner.Faults.{HasReadingCause}
use Rattle.mesh_run.specs.Inner.Progress.{Fails, HaltsFrom, Stands}
use Rattle.mesh_laws.proofs.CutLemmas.{IsCut-newline}
use Rattle.mesh_laws.proofs.HaltLemmas.{lines_run-cut}
use Rattle.mesh_run.specs.Inner.Kinds.{StateOf, first_of, lines_by, outcome_of, step_by, text_by}
use Rattle.mesh_run.proofs.KindLemmas.{cut-prints, text-after_outcome}
use Rattle.mesh_run.proofs.UnfinishedLemmas.{after_lines-newline, cut-length, halts_newline, step_by-newline}
use Rattle.mesh_laws.proofs.RunLemmas.{PrintsOn, after_reading-prints, text-grows}
use Rattle.mesh_run.specs.declared.fault.Fault.{Fault}
use Rattle.mesh_run.specs.declared.fault.Fault.TheVariants.{Halted, Read, Write, Memory}
use Rattle.mesh_scene.specs.declared.fault.LineFault.{LineFault}
use Rattle.mesh_scene.specs.declared.fault.LineFault.TheVariants.{Stopped}
use Rattle.mesh_scene.specs.declared.fault.LineFault.TheVariants as line_fault
use Rattle.mesh_run.specs.declared.runner.Runner.{Runner}
use Rattle.mesh_run.proofs.FrontLemmas.{front-before, front-more, less-more}
use Rattle.mesh_run.proofs.ProgressLemmas.{HaltsFrom-after}

-- ---- the fault of a line

-- a line's fault, at its number
pub line_fails : (base now : Option (List ℕ)) (state : State) (outcome : Outcome) (number : ℕ) (fault : LineFault) → PrintsOn state outcome → Appends base now (text_of state)
    → HasLineCause state outcome fault → CarryFails text_of outcome base now number (fault_at number fault)
line_fails base now state outcome number (Stopped stop) grown printed cause = record { after = state; ended = cause; numbered = refl; printed = printed }
line_fails base now state outcome number line_fault.Memory grown printed cause = front-before text_of base now state outcome (text-grows state (reached outcome) grown) printed

-- a line that isn't read, at its number
pub reading_fails : (base now : Option (List ℕ)) (state : State) (reading : Reading) (number : ℕ) (fault : LineFault) → Appends base now (text_of state)
    → HasReadingCause reading fault → CarryFails text_of (after_reading state reading) base now number (fault_at number fault)
reading_fails base now state reading number (Stopped stop) printed cause =
    record { after = state; ended = ap (after_reading state) cause; numbered = refl; printed = printed }
reading_fails base now state reading number line_fault.Memory printed cause = front-before text_of base now state (after_reading state reading) (text-grows state (reached (after_reading state reading)) (after_reading-prints state reading)) printed

-- it is blamed on nothing outside
pub line_blameless : (old new number : ℕ) (fault : LineFault) → BlamesWrite old new (fault_at number fault)
line_blameless old new number (Stopped stop) = tt
line_blameless old new number line_fault.Memory = tt

-- ---- the fault of a line that its newline ended

-- a halt at a line that its newline ended comes at that newline at least
halting_place-newline : (before least : ℕ) (rest : List ℕ) (stop : Stop) → before + length rest + 1 ≡ least → length rest ≤ 4096 → least ≤ 67108864
    → least ≤ halting_place before (rest ++ newline ∷ []) stop
halting_place-newline before least rest (Refused refusal) is short within = omega (arith, is, length-append rest (newline ∷ []))
halting_place-newline before least rest (Limit Line) is short within = omega (arith, is, short)
halting_place-newline before least rest (Limit Input) is short within = omega (arith, within)
halting_place-newline before least rest (Limit Nodes) is short within = omega (arith, is, length-append rest (newline ∷ []))
halting_place-newline before least rest (Limit Links) is short within = omega (arith, is, length-append rest (newline ∷ []))
halting_place-newline before least rest (Limit Lans) is short within = omega (arith, is, length-append rest (newline ∷ []))
halting_place-newline before least rest (Limit Clients) is short within = omega (arith, is, length-append rest (newline ∷ []))
halting_place-newline before least rest (Limit Vlans) is short within = omega (arith, is, length-append rest (newline ∷ []))
halting_place-newline before least rest (Limit Frames) is short within = omega (arith, is, length-append rest (newline ∷ []))
halting_place-newline before least rest (Limit FrameBytes) is short within = omega (arith, is, length-append rest (newline ∷ []))
halting_place-newline before least rest (Limit Cuts) is short within = omega (arith, is, length-append rest (newline ∷ []))
halting_place-newline before least rest (Limit Clock) is short within = omega (arith, is, length-append rest (newline ∷ []))
halting_place-newline before least rest (Limit Pairs) is short within = omega (arith, is, length-append rest (newline ∷ []))

-- the run of any longer input prints what a line leaves printed, and more
line-grows : (kind : InputKind) (base : Option (List ℕ)) (runner : Runner) (old : Option (List ℕ)) (read more : List ℕ) (outcome : OutcomeOf (StateOf kind)) → (stands : Stands kind base old runner read)
    → step_by kind (lines_by kind stands.lines).state (lines_by kind stands.lines).bytes (runner.line.items ++ newline ∷ []) ≡ outcome
    → (later : List ℕ) × ((run_of kind ((read ++ newline ∷ []) ++ more)).text ≡ text_by kind (reached outcome) ++ later)
line-grows kind base runner old read more outcome stands is =
    let line = runner.line.items ++ newline ∷ [] in
    let run = lines_by kind stands.lines in
    let next = after_lines-newline kind stands.lines line outcome stands.going is in
    let cut = IsCut-newline read stands.lines runner.line.items stands.cut in
    let all_lines = stands.lines ++ line ∷ [] in
    let grown = cut-prints kind ((read ++ newline ∷ []) ++ more) (lines_by kind all_lines) (lines_of ([] ++ more)) (lines_run-cut (step_by kind) (begun (first_of kind)) (read ++ newline ∷ []) all_lines [] more cut) in
    (grown.0, grown.1 ∙ ap (λ text. text ++ grown.0) (ap (λ (r : RunOf (StateOf kind)). text_by kind r.state) next ∙ text-after_outcome kind run line outcome))

-- the fault of a line that its newline ended
pub Fails-newline : (kind : InputKind) (base old new : Option (List ℕ)) (runner : Runner) (read : List ℕ) (fault : Fault) → (stands : Stands kind base old runner read)
    → length runner.line.items ≤ 4096 → runner.taken < 67108864
    → CarryFails (text_by kind) (outcome_of kind (without_carriage_return runner.line.items) (lines_by kind stands.lines).state)
    base new (runner.lines + 1) fault
    → Fails kind base new (length read + 1) (read ++ newline ∷ []) fault
Fails-newline kind base old new runner read (Halted line stop) stands short within h = λ more.
    let rest = runner.line.items in
    let run = lines_by kind stands.lines in
    let before = cut-length kind read stands.lines rest stands.cut stands.going in
    let outcome = step_by-newline kind run.state run.bytes rest short (omega (arith, before, stands.taken, within)) ∙ h.ended in
    let halts = halts_newline kind read stands.lines rest more h.after stop stands.cut stands.going outcome in
    let late = halting_place-newline run.bytes (length read + 1) rest stop (omega (arith, before)) short (omega (arith, stands.taken, within)) in
    let P : ℕ → Type 0 = λ number. HaltsFrom kind base new (length read + 1) ((read ++ newline ∷ []) ++ more) number stop in
    subst P (sym h.numbered)
    (HaltsFrom-after kind base new (length read + 1) runner.lines ((read ++ newline ∷ []) ++ more) stands.lines (rest ++ newline ∷ []) h.after stop halts
    h.printed stands.lines_are late)
Fails-newline kind base old new runner read Read stands short within h = λ more. h
Fails-newline kind base old new runner read Write stands short within h = λ more.
    let run = lines_by kind stands.lines in
    let before = cut-length kind read stands.lines runner.line.items stands.cut stands.going in
    let grown = line-grows kind base runner old read more _ stands (step_by-newline kind run.state run.bytes runner.line.items short (omega (arith, before, stands.taken, within))) in
    less-more base new _ grown.0 _ h grown.1
Fails-newline kind base old new runner read Memory stands short within h = λ more.
    let run = lines_by kind stands.lines in
    let before = cut-length kind read stands.lines runner.line.items stands.cut stands.going in
    let grown = line-grows kind base runner old read more _ stands (step_by-newline kind run.state run.bytes runner.line.items short (omega (arith, before, stands.taken, within))) in
    front-more base new _ grown.0 _ h grown.1
