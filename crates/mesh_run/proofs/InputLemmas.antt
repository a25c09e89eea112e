-- Lemmas on what a run leaves where its input is told.
use Rattle.std.proofs.Common.{◌≡◌, ℕ, inr, List, Option, Some, None, IfSome, sym, subst, arith}
use Rattle.std.proofs.KnownBytes.{Consumes-whole}
use Rattle.mesh_model.specs.declared.input_kind.InputKind.{InputKind}
use Rattle.mesh_run.specs.Inner.Progress.{HaltsFrom}
use Rattle.mesh_run.specs.Inner.Reading.{ReadFails, ReadsAll, RunFails}
use Rattle.mesh_run.specs.Outcome.{Finishes, PrintsFrontOf, PrintsLessOf}
use Rattle.mesh_run.specs.declared.fault.Fault.{Fault}
use Rattle.mesh_run.specs.declared.fault.Fault.TheVariants.{Halted, Read, Write, Memory}

-- a fact on the bytes that an open left is one on the bytes that were told for it
pub for-told : (named first : Option (List ℕ)) (P : List ℕ → Type 0) → IfSome named (λ bytes. first ≡ Some bytes) → IfSome first P → IfSome named P
for-told None first P told h = tt
for-told (Some bytes) first P told h = let Q : Option (List ℕ) → Type 0 = λ o. IfSome o P in subst Q told h

pub finished-told : (kind : InputKind) (named first left base now : Option (List ℕ)) → IfSome named (λ bytes. first ≡ Some bytes) → ReadsAll kind first left base now → IfSome named (Finishes kind base now)
finished-told kind named first left base now told all =
    for-told named first (Finishes kind base now) told (Consumes-whole first left all.read (Finishes kind base now) all.took all.at_end all.finished)

fails-opened : (kind : InputKind) (input : List ℕ) (left before base now : Option (List ℕ)) (fault : Fault) → ReadFails kind (Some input) left base now fault → RunFails kind base now before left fault input
fails-opened kind input None before base now (Halted line stop) h = absurd h.took
fails-opened kind input (Some rest) before base now (Halted line stop) h =
    let P : List ℕ → Type 0 = λ bytes. HaltsFrom kind base now h.least bytes line stop in
    let halts = subst P (sym h.took) h.fails in
    record { halts = halts.halt; printed = halts.printed; read = h.read; took = h.took; near = omega (arith, h.near, halts.late) }
fails-opened kind input left before base now Read h = inr h
fails-opened kind input None before base now Write h = absurd h.took
fails-opened kind input (Some rest) before base now Write h =
    let P : List ℕ → Type 0 = λ bytes. PrintsLessOf kind base now bytes in
    subst P (sym h.took) h.fails
fails-opened kind input None before base now Memory h = absurd h.took
fails-opened kind input (Some rest) before base now Memory h =
    let P : List ℕ → Type 0 = λ bytes. PrintsFrontOf kind base now bytes in
    subst P (sym h.took) h.fails

pub failed-told : (kind : InputKind) (named first left before base now : Option (List ℕ)) (fault : Fault) → IfSome named (λ bytes. first ≡ Some bytes) → ReadFails kind first left base now fault
    → IfSome named (RunFails kind base now before left fault)
failed-told kind None first left before base now fault told h = tt
failed-told kind (Some input) first left before base now fault told h =
    let P : Option (List ℕ) → Type 0 = λ f. ReadFails kind f left base now fault in
    fails-opened kind input left before base now fault (subst P told h)
