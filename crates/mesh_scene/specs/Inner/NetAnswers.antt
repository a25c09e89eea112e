-- What the net's answers mean: the fault of a line, and how far a slice of a run came. The main words
-- are `fault_of` and `passage_by`.
use Rattle.std.specs.Prelude.{Bool, true, false, Option, Some, None, Result, Ok, Err}
use Rattle.mesh_model.specs.declared.ending.Stop.TheVariants.{Limit as StopLimit}
use Rattle.mesh_net.specs.declared.failure.NetErr.{NetErr}
use Rattle.mesh_net.specs.declared.failure.NetErr.TheVariants.{Limit, Dead, Memory}
use Rattle.mesh_scene.specs.declared.fault.LineFault.{LineFault}
use Rattle.mesh_scene.specs.declared.fault.LineFault.TheVariants as line_fault
use Rattle.mesh_scene.specs.declared.slice.Passage.{Passage}
use Rattle.mesh_scene.specs.declared.slice.Passage.TheVariants.{Going, Ended, Stopped}

-- the fault of a line whose step the net refuses
abbrev pub fault_of : NetErr → LineFault
fault_of (Limit limit) = line_fault.Stopped (StopLimit limit)
fault_of Dead = line_fault.Memory
fault_of Memory = line_fault.Memory

-- how far a slice came by the net's answer; nowhere for want of memory
abbrev pub passage_by : Result Bool NetErr → Option Passage
passage_by (Ok true) = Some Going
passage_by (Ok false) = Some Ended
passage_by (Err (Limit limit)) = Some (Stopped limit)
passage_by (Err Dead) = None
passage_by (Err Memory) = None
