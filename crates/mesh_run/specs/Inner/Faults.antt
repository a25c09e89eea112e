-- The fault that ends the run at a line, that of a line of routes that isn't taken, and the cause
-- of that of a line that isn't read. The main words are `fault_at` and `HasReadingCause`.
use Rattle.std.specs.Prelude.{◌≡◌, ℕ, Err}
use Rattle.mesh_bisect.specs.declared.failure.BisectErr.{BisectErr}
use Rattle.mesh_bisect.specs.declared.failure.BisectErr.TheVariants.{BadRoute, TimeBack, Pairs}
use Rattle.mesh_bisect.specs.declared.failure.BisectErr.TheVariants as bisect_errors
use Rattle.mesh_model.specs.declared.ending.LimitName.TheVariants as limits
use Rattle.mesh_model.specs.declared.ending.Refusal.TheVariants as refusals
use Rattle.mesh_model.specs.declared.ending.Stop.TheVariants.{Refused, Limit}
use Rattle.mesh_model.specs.Scenario.Readings.{Reading}
use Rattle.mesh_run.specs.declared.fault.Fault.{Fault}
use Rattle.mesh_run.specs.declared.fault.Fault.TheVariants as fault
use Rattle.mesh_scene.specs.declared.fault.LineFault.{LineFault}
use Rattle.mesh_scene.specs.declared.fault.LineFault.TheVariants.{Stopped, Memory}

-- the fault that ends the run at the line of a number
abbrev pub fault_at : ℕ → LineFault → Fault
fault_at line (Stopped stop) = fault.Halted line stop
fault_at line Memory = fault.Memory

-- the fault of a line of routes that isn't taken
abbrev pub route_fault : BisectErr → LineFault
route_fault BadRoute = Stopped (Refused refusals.BadRoute)
route_fault TimeBack = Stopped (Refused refusals.TimeBack)
route_fault Pairs = Stopped (Limit limits.Pairs)
route_fault bisect_errors.Memory = Memory

-- the cause of the fault of a line that isn't read
abbrev pub HasReadingCause : Reading → LineFault → Type 0
HasReadingCause reading (Stopped stop) = reading ≡ Err stop
HasReadingCause reading Memory = Unit {0}
