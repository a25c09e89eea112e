-- What the reading of a whole input leaves: what was taken from the intake, and what out took since
-- it held base; and what a fault is worth: its status and its text. The main words are `ReadsAll`,
-- `ReadFails` and `RunFails`.
use Rattle.std.specs.Prelude.{ℕ, ◌+◌, ◌≤◌, List, ◌++◌, length, Option, IfSome, Result, IfErr}
use Rattle.std.specs.Io.KnownBytes.{Consumes, IsAtEnd}
use Rattle.mesh_base.specs.Faults.{Rose}
use Rattle.mesh_model.specs.declared.input_kind.InputKind.{InputKind}
use Rattle.mesh_model.specs.Run.Statuses.{memory_status, read_fault_status, stop_status, write_fault_status}
use Rattle.mesh_model.specs.Text.Messages.{halt_text, memory_text, read_fault_text, write_fault_text}
use Rattle.mesh_run.specs.Inner.Progress.{FailsIn}
use Rattle.mesh_run.specs.Outcome.{Finishes, HaltsNear, PrintsFrontOf, PrintsLessOf, PrintsRead, PrintsTaken, most_read_past}
use Rattle.mesh_run.specs.declared.fault.Fault.{Fault}
use Rattle.mesh_run.specs.declared.fault.Fault.TheVariants.{Halted, Read, Write, Memory}

-- ---- an open input

-- a fault is blamed on the intake or on the sink only where its count rose
abbrev pub Blames : (reads_old reads_new writes_old writes_new : ℕ) → Fault → Type 0
Blames reads_old reads_new writes_old writes_new (Halted line stop) = Unit {0}
Blames reads_old reads_new writes_old writes_new Read = Rose reads_old reads_new
Blames reads_old reads_new writes_old writes_new Write = Rose writes_old writes_new
Blames reads_old reads_new writes_old writes_new Memory = Unit {0}

-- what a call does to the counts of faults of an intake and a sink
pub record CountsFaults (reads_old reads_new writes_old writes_new : ℕ)
    (result : Result (Unit {0}) Fault) : Type 0 where
  pub reads : reads_old ≤ reads_new
  pub writes : writes_old ≤ writes_new
  pub cause : IfErr result (Blames reads_old reads_new writes_old writes_new)

-- the input was read to its end, and its run is at its end too
pub record ReadsAll (kind : InputKind) (first left base now : Option (List ℕ)) : Type 0 where
  pub read : List ℕ
  pub took : Consumes first left read
  pub at_end : IsAtEnd left
  pub finished : Finishes kind base now read

-- a fault that has its cause in the input, and a halt at most so many bytes before the end of what
-- was read
pub record FailsNear (kind : InputKind) (first left base now : Option (List ℕ))
    (fault : Fault) : Type 0 where
  pub read : List ℕ
  pub took : Consumes first left read
  pub least : ℕ
  pub fails : IfSome left (λ rest. FailsIn kind base now least (read ++ rest) fault)
  pub near : length read ≤ least + most_read_past

-- the cause of a fault while an open input is read
abbrev pub ReadFails : InputKind → (first left base now : Option (List ℕ)) → Fault → Type 0
ReadFails kind first left base now (Halted line stop) =
    FailsNear kind first left base now (Halted line stop)
ReadFails kind first left base now Read = PrintsRead kind base now first left
ReadFails kind first left base now Write = FailsNear kind first left base now Write
ReadFails kind first left base now Memory = FailsNear kind first left base now Memory

-- ---- the whole run

-- what a run that met a fault leaves, where its input is told
abbrev pub RunFails : InputKind → (old new first left : Option (List ℕ)) → Fault → List ℕ → Type 0
RunFails kind old new first left (Halted line stop) input =
    HaltsNear kind old new left input (record { line = line; stop = stop })
RunFails kind old new first left Read input = PrintsTaken kind old new first left input
RunFails kind old new first left Write input = PrintsLessOf kind old new input
RunFails kind old new first left Memory input = PrintsFrontOf kind old new input

-- the status of a fault
abbrev pub fault_status : Fault → ℕ
fault_status (Halted line stop) = stop_status stop
fault_status Read = read_fault_status
fault_status Write = write_fault_status
fault_status Memory = memory_status

-- the text of a fault
abbrev pub fault_text : Fault → List ℕ
fault_text (Halted line stop) = halt_text (record { line = line; stop = stop })
fault_text Read = read_fault_text
fault_text Write = write_fault_text
fault_text Memory = memory_text
