-- The statuses with which the program ends, and that of a plain run. The main words are
-- `plain_status` and `IsStatus`.
use Rattle.std.specs.Prelude.{ℕ, ◌≤◌, Option, Some, None}
use Rattle.mesh_model.specs.declared.ending.Stop.{Stop}
use Rattle.mesh_model.specs.declared.ending.Stop.TheVariants.{Refused, Limit}
use Rattle.mesh_model.specs.Scenario.Halt.{Halt}

-- every line was carried out and written
abbrev pub finished_status : ℕ
finished_status = 0

-- a line was refused
abbrev pub refused_status : ℕ
refused_status = 1

-- the words weren't taken
abbrev pub usage_status : ℕ
usage_status = 2

-- the input failed
abbrev pub read_fault_status : ℕ
read_fault_status = 3

-- the output failed
abbrev pub write_fault_status : ℕ
write_fault_status = 4

-- memory ran out
abbrev pub memory_status : ℕ
memory_status = 5

-- a quantity would have passed its limit
abbrev pub limited_status : ℕ
limited_status = 6

-- a status is one of these seven
abbrev pub IsStatus : ℕ → Type 0
IsStatus status = status ≤ limited_status

-- the status of a run that halts for this cause
abbrev pub stop_status : Stop → ℕ
stop_status (Refused refusal) = refused_status
stop_status (Limit name) = limited_status

-- the status of a plain run
abbrev pub plain_status : Option Halt → ℕ
plain_status None = finished_status
plain_status (Some halt) = stop_status halt.stop
