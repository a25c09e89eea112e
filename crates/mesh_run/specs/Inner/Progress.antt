-- How far a run has come: the bytes that were read are whole lines, which were carried out, and an
-- unfinished one. The main words are `Stands`, for a runner, and `FailsIn`, for the fault that
-- ended it.
use Rattle.std.specs.Prelude.{◌≡◌, ℕ, ◌+◌, ◌≤◌, List, ◌++◌, length, Option, Some, None, Result, OnOk, IfErr}
use Rattle.std.specs.Io.KnownBytes.{Appends}
use Rattle.mesh_model.specs.declared.ending.Stop.{Stop}
use Rattle.mesh_model.specs.declared.input_kind.InputKind.{InputKind}
use Rattle.mesh_laws.specs.Cuts.{IsCut}
use Rattle.mesh_model.specs.Run.Halting.{halting_byte}
use Rattle.mesh_model.specs.Run.InputRun.{run_of}
use Rattle.mesh_model.specs.Scenario.Lines.{lines_of}
use Rattle.mesh_run.specs.Inner.Kinds.{CarrierStands, lines_by, text_by}
use Rattle.mesh_run.specs.Inner.Lines.{StandsAt}
use Rattle.mesh_run.specs.Outcome.{PrintsFrontOf, PrintsLessOf}
use Rattle.mesh_run.specs.declared.fault.Fault.{Fault}
use Rattle.mesh_run.specs.declared.fault.Fault.TheVariants.{Halted, Read, Write, Memory}
use Rattle.mesh_run.specs.declared.carrier.Carrier.{Carrier}
use Rattle.mesh_run.specs.declared.runner.Runner.{Runner}

-- what was read, and what out took since it held base, is where the runner stands
pub record Stands (kind : InputKind) (base now : Option (List ℕ)) (runner : Runner)
    (read : List ℕ) : Type 0 where
  pub lines : List (List ℕ)
  pub cut : IsCut read lines runner.line.items
  pub going : (lines_by kind lines).halt ≡ None
  pub at : StandsAt (text_by kind) (CarrierStands kind) base now runner.carrier
      (lines_by kind lines).state
  pub lines_are : (lines_by kind lines).lines ≡ runner.lines
  pub taken : length read ≡ runner.taken

-- an input was read to its end, and out took what its lines print since it held base: where what
-- carries them out stands
pub record StandsBehind (kind : InputKind) (base now : Option (List ℕ)) (carrier : Carrier)
    (read : List ℕ) : Type 0 where
  pub going : (lines_by kind (lines_of read)).halt ≡ None
  pub at : StandsAt (text_by kind) (CarrierStands kind) base now carrier
      (lines_by kind (lines_of read)).state

-- the run of an input halts at a line, at this byte at least, and out took what it prints
pub record HaltsFrom (kind : InputKind) (base now : Option (List ℕ)) (least : ℕ)
    (input : List ℕ) (line : ℕ) (stop : Stop) : Type 0 where
  pub halt : (run_of kind input).halt ≡ Some (record { line = line; stop = stop })
  pub printed : Appends base now (run_of kind input).text
  pub late : least ≤ halting_byte kind input (record { line = line; stop = stop })

-- the cause of a fault while an input is carried out, which reads nothing; a halt comes at this
-- byte at least
abbrev pub FailsIn : InputKind → (base now : Option (List ℕ)) → ℕ → List ℕ → Fault → Type 0
FailsIn kind base now least input (Halted line stop) =
    HaltsFrom kind base now least input line stop
FailsIn kind base now least input Read = ⊥
FailsIn kind base now least input Write = PrintsLessOf kind base now input
FailsIn kind base now least input Memory = PrintsFrontOf kind base now input

-- the cause of a fault while what was read is carried out, whatever follows it
abbrev pub Fails : InputKind → (base now : Option (List ℕ)) → ℕ → List ℕ → Fault → Type 0
Fails kind base now least read fault =
    (more : List ℕ) → FailsIn kind base now least (read ++ more) fault

-- from wherever the runner stood, a call reads these bytes further
abbrev pub ReadsOn : (old new : Option (List ℕ)) → (before after : Runner) → List ℕ
    → Result (Unit {0}) Fault → Type 0
ReadsOn old new before after bytes result =
    (kind : InputKind) (base : Option (List ℕ)) (read : List ℕ)
    → Stands kind base old before read
    → OnOk result (Stands kind base new after (read ++ bytes))

-- from wherever the runner stood, a call's fault has its cause in these bytes, which it read
abbrev pub FailsOn : (old new : Option (List ℕ)) → Runner → List ℕ → Result (Unit {0}) Fault
    → Type 0
FailsOn old new before bytes result =
    (kind : InputKind) (base : Option (List ℕ)) (read : List ℕ)
    → Stands kind base old before read
    → IfErr result (Fails kind base new (length read + 1) (read ++ bytes))
