-- Lemmas on how far a run has come.
use Rattle.std.proofs.Common.{◌≡◌, ℕ, ◌+◌, ◌<◌, ◌≤◌, List, [], ◌∷◌, ◌++◌, length, Option, Some, refl, sym, ap, ap₂, ◌∙◌, subst, append_assoc, length-append, arith}
use Rattle.std.specs.Io.KnownBytes.{Appends}
use Rattle.mesh_base.specs.Writes.{AppendsFront}
use Rattle.mesh_model.specs.declared.input_kind.InputKind.{InputKind}
use Rattle.mesh_model.specs.declared.ending.LimitName.TheVariants.{Line}
use Rattle.mesh_model.specs.declared.ending.Stop.{Stop}
use Rattle.mesh_model.specs.declared.ending.Stop.TheVariants.{Limit}
use Rattle.mesh_laws.specs.Cuts.{IsUnbroken, IsCut}
use Rattle.mesh_model.specs.Scenario.Lines.{newline, lines_of, without_carriage_return}
use Rattle.mesh_model.specs.Scenario.Halt.{Halt}
use Rattle.mesh_model.specs.Run.Halting.{halting_byte, halting_place}
use Rattle.mesh_model.specs.Run.InputRun.{InputRun, run_of}
use Rattle.mesh_model.specs.Run.Outcome.{Goes}
use Rattle.mesh_model.specs.Run.PlainRun.{RunOf, begun}
use Rattle.mesh_run.specs.Inner.Kinds.{CarrierStands, StateOf, first_of, lines_by, outcome_of, step_by, text_by}
use Rattle.mesh_run.specs.Inner.Lines.{Carried, StandsAt}
use Rattle.mesh_run.specs.Inner.Progress.{Fails, FailsIn, HaltsFrom, Stands}
use Rattle.mesh_laws.proofs.CutLemmas.{IsCut-more, IsCut-newline}
use Rattle.mesh_laws.proofs.HaltLemmas.{HaltsAfter, lines_run-cut}
use Rattle.mesh_run.proofs.FrontLemmas.{front-appends}
use Rattle.mesh_run.proofs.KindLemmas.{cut-prints, run_of-halted}
use Rattle.mesh_run.proofs.UnfinishedLemmas.{after_lines-newline, cut-length, halts_long, step_by-newline}
use Rattle.mesh_run.specs.declared.fault.Fault.{Fault}
use Rattle.mesh_run.specs.declared.fault.Fault.TheVariants.{Halted, Read, Write, Memory}
use Rattle.mesh_run.specs.declared.runner.Runner.{Runner}
use Rattle.mesh_run.specs.declared.carrier.Carrier.{Carrier}

-- a run that halts after these lines, whose text out took
pub HaltsFrom-after : (kind : InputKind) (base now : Option (List ℕ)) (least number : ℕ) (input : List ℕ) (lines : List (List ℕ)) (line : List ℕ) (reached : StateOf kind) (stop : Stop)
    → HaltsAfter (step_by kind) (first_of kind) input lines line reached stop → Appends base now (text_by kind reached) → (lines_by kind lines).lines ≡ number
    → least ≤ halting_place (lines_by kind lines).bytes line stop → HaltsFrom kind base now least input (number + 1) stop
HaltsFrom-after kind base now least number input lines line reached stop after printed counted late =
    let run = lines_by kind lines in
    let halt : Halt = record { line = run.lines + 1; stop = stop } in
    let halted : RunOf (StateOf kind) = record run { state = reached; halt = Some halt } in
    let whole = run_of-halted kind input halted halt after.run_is refl in
    let P : ℕ → Type 0 = λ n. HaltsFrom kind base now least input (n + 1) stop in
    let Q : List ℕ → Type 0 = λ text. Appends base now text in
    let L : ℕ → Type 0 = λ place. least ≤ place in
    let place : halting_byte kind input halt ≡ halting_place run.bytes line stop = ap₂ (λ bytes l. halting_place bytes l stop) (ap (λ (r : InputRun). r.bytes) whole) after.numbered in
    subst P counted (record {
      halt = ap (λ (r : InputRun). r.halt) whole;
      printed = subst Q (sym (ap (λ (r : InputRun). r.text) whole)) printed;
      late = subst L (sym place) late;
    })

-- what was printed is a front of what the run of any longer input prints
pub front-cut : (kind : InputKind) (base now : Option (List ℕ)) (read : List ℕ) (lines : List (List ℕ)) (rest more : List ℕ) → IsCut read lines rest
    → Appends base now (text_by kind (lines_by kind lines).state) → AppendsFront base now (run_of kind (read ++ more)).text
front-cut kind base now read lines rest more cut printed =
    let grown = cut-prints kind (read ++ more) (lines_by kind lines) (lines_of (rest ++ more)) (lines_run-cut (step_by kind) (begun (first_of kind)) read lines rest more cut) in
    front-appends base now (text_by kind (lines_by kind lines).state) (run_of kind (read ++ more)).text grown.0 printed grown.1

-- a halt at a later byte comes at an earlier one at least
FailsIn-earlier : (kind : InputKind) (base now : Option (List ℕ)) (least earlier : ℕ) (input : List ℕ) (fault : Fault) → earlier ≤ least
    → FailsIn kind base now least input fault → FailsIn kind base now earlier input fault
FailsIn-earlier kind base now least earlier input (Halted line stop) le h = record { halt = h.halt; printed = h.printed; late = omega (arith, le, h.late) }
FailsIn-earlier kind base now least earlier input Read le h = h
FailsIn-earlier kind base now least earlier input Write le h = h
FailsIn-earlier kind base now least earlier input Memory le h = h

-- a fault stays one when more was read
pub Fails-later : (kind : InputKind) (base now : Option (List ℕ)) (least earlier : ℕ) (read all tail : List ℕ) (fault : Fault) → earlier ≤ least → all ≡ read ++ tail
    → Fails kind base now least read fault → Fails kind base now earlier all fault
Fails-later kind base now least earlier read all tail fault le is h = λ more.
    let same : read ++ (tail ++ more) ≡ all ++ more = sym (append_assoc read tail more) ∙ ap (λ r. r ++ more) (sym is) in
    let P : List ℕ → Type 0 = λ input. FailsIn kind base now earlier input fault in
    subst P same (FailsIn-earlier kind base now least earlier (read ++ (tail ++ more)) fault le (h (tail ++ more)))

-- an unfinished line that gets too long halts the run
pub halts-hold : (kind : InputKind) (base now : Option (List ℕ)) (runner : Runner) (read text : List ℕ) → IsUnbroken text → Stands kind base now runner read
    → length runner.line.items ≤ 4096 → 4096 < length runner.line.items + length text → runner.taken + length text ≤ 67108864
    → (more : List ℕ) → HaltsFrom kind base now (length read + 1) ((read ++ text) ++ more) (runner.lines + 1) (Limit Line)
halts-hold kind base now runner read text unbroken stands short long within more =
    let rest = runner.line.items in
    let run = lines_by kind stands.lines in
    let cut = IsCut-more read stands.lines rest text stands.cut unbroken in
    let before = cut-length kind (read ++ text) stands.lines (rest ++ text) cut stands.going in
    let at = cut-length kind read stands.lines rest stands.cut stands.going in
    let too_long : 4096 < length (rest ++ text) = omega (arith, length-append rest text, long) in
    let room : run.bytes + 4096 ≤ 67108864 = omega (arith, before, length-append read text, stands.taken, within, too_long) in
    let halts = halts_long kind (read ++ text) stands.lines (rest ++ text) more cut stands.going too_long room in
    HaltsFrom-after kind base now (length read + 1) runner.lines ((read ++ text) ++ more) stands.lines halts.0 run.state (Limit Line) halts.1 stands.at.printed stands.lines_are
    (omega (arith, at, short))

-- a runner that has more of the unfinished line
pub Stands-more : (kind : InputKind) (base now : Option (List ℕ)) (old new : Runner) (read text : List ℕ) → IsUnbroken text → Stands kind base now old read
    → new.line.items ≡ old.line.items ++ text → new.carrier ≡ old.carrier → new.lines ≡ old.lines → new.taken ≡ old.taken + length text
    → Stands kind base now new (read ++ text)
Stands-more kind base now old new read text unbroken stands line carrier lines taken =
    let C : List ℕ → Type 0 = λ rest. IsCut (read ++ text) stands.lines rest in
    let S : Carrier → Type 0 = λ s. StandsAt (text_by kind) (CarrierStands kind) base now s (lines_by kind stands.lines).state in
    record {
      lines = stands.lines;
      cut = subst C (sym line) (IsCut-more read stands.lines old.line.items text stands.cut unbroken);
      going = stands.going;
      at = subst S (sym carrier) stands.at;
      lines_are = stands.lines_are ∙ sym lines;
      taken = length-append read text ∙ ap (λ n. n + length text) stands.taken ∙ sym taken;
    }

-- a runner whose unfinished line was ended and carried out
pub Stands-newline : (kind : InputKind) (base old_taken new_taken : Option (List ℕ)) (old new : Runner) (read : List ℕ) → (stands : Stands kind base old_taken old read)
    → length old.line.items ≤ 4096 → old.taken < 67108864
    → Carried (text_by kind) (CarrierStands kind) (outcome_of kind (without_carriage_return old.line.items) (lines_by kind stands.lines).state) base new_taken new.carrier
    → new.line.items ≡ [] → new.lines ≡ old.lines + 1 → new.taken ≡ old.taken + 1 → Stands kind base new_taken new (read ++ newline ∷ [])
Stands-newline kind base old_taken new_taken old new read stands short within carried line lines taken =
    let rest = old.line.items in
    let run = lines_by kind stands.lines in
    let before = cut-length kind read stands.lines rest stands.cut stands.going in
    let outcome = step_by-newline kind run.state run.bytes rest short (omega (arith, before, stands.taken, within)) ∙ carried.carried in
    let next = after_lines-newline kind stands.lines (rest ++ newline ∷ []) (Goes carried.after) stands.going outcome in
    let C : List ℕ → Type 0 = λ left. IsCut (read ++ newline ∷ []) (stands.lines ++ (rest ++ newline ∷ []) ∷ []) left in
    let S : RunOf (StateOf kind) → Type 0 = λ r. StandsAt (text_by kind) (CarrierStands kind) base new_taken new.carrier r.state in
    record {
      lines = stands.lines ++ (rest ++ newline ∷ []) ∷ [];
      cut = subst C (sym line) (IsCut-newline read stands.lines rest stands.cut);
      going = ap (λ (r : RunOf (StateOf kind)). r.halt) next;
      at = subst S (sym next) carried.standing;
      lines_are = ap (λ (r : RunOf (StateOf kind)). r.lines) next ∙ ap (λ n. n + 1) stands.lines_are ∙ sym lines;
      taken = length-append read (newline ∷ []) ∙ ap (λ n. n + 1) stands.taken ∙ sym taken;
    }
