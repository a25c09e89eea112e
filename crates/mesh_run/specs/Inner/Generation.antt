-- What the run of generated lines leaves: its line, and the causes of the faults that end it. The
-- main words are `Summarizes` and `GenerationFails`.
use Rattle.std.specs.Prelude.{◌≡◌, ℕ, List, Option, Some, None}
use Rattle.std.specs.Io.KnownBytes.{Appends, Keeps}
use Rattle.mesh_model.specs.Run.Generated.{generated_run, generated_text}
use Rattle.mesh_run.specs.Outcome.{AppendsLess}
use Rattle.mesh_run.specs.declared.fault.Fault.{Fault}
use Rattle.mesh_run.specs.declared.fault.Fault.TheVariants.{Halted, Read, Write, Memory}

-- the run of generated lines comes to its end, and this is its line
pub record Summarizes (nodes : ℕ) (line : List ℕ) : Type 0 where
  pub halt : (generated_run nodes).halt ≡ None
  pub line_is : line ≡ generated_text nodes

-- the cause of a fault before anything of a run of generated lines is written
abbrev pub HasGeneratedCause : ℕ → Fault → Type 0
HasGeneratedCause nodes (Halted line stop) =
    (generated_run nodes).halt ≡ Some (record { line = line; stop = stop })
HasGeneratedCause nodes Read = ⊥
HasGeneratedCause nodes Write = ⊥
HasGeneratedCause nodes Memory = Unit {0}

-- the cause of a fault of a run whose output is kept in memory
abbrev pub kept_fault : Fault → Fault
kept_fault (Halted line stop) = Halted line stop
kept_fault Read = Read
kept_fault Write = Memory
kept_fault Memory = Memory

-- the run of generated lines comes to its end, and out took its line
pub record PrintsCounts (nodes : ℕ) (old new : Option (List ℕ)) : Type 0 where
  pub halt : (generated_run nodes).halt ≡ None
  pub printed : Appends old new (generated_text nodes)

-- the cause of a fault of a run of generated lines, and what out took
abbrev pub GenerationFails : ℕ → (old new : Option (List ℕ)) → Fault → Type 0
GenerationFails nodes old new (Halted line stop) =
    ((generated_run nodes).halt ≡ Some (record { line = line; stop = stop })) × Keeps old new
GenerationFails nodes old new Read = ⊥
GenerationFails nodes old new Write = AppendsLess old new (generated_text nodes)
GenerationFails nodes old new Memory = Keeps old new
