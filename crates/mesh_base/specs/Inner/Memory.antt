-- Inputs and outputs in memory: what they tell, what they were made with, and how many bytes their
-- next call moves. The main words are `given_count` and `taken_count`.
use Rattle.std.specs.Prelude.{ℕ, ◌-◌, ◌≡◌, ◌↔◌, Bool, IsTrue, ◌<◌, min, List, length, drop, Option, Some}
use Rattle.mesh_base.specs.Faults.{CountsFault}
use Rattle.mesh_base.specs.Inner.CallPlan.{IsFailing, MakesCall}
use Rattle.mesh_base.specs.declared.call_plan.CallPlan.{CallPlan}
use Rattle.mesh_base.specs.declared.memory_intake.MemIntake.{MemIntake}
use Rattle.mesh_base.specs.declared.memory_sink.MemSink.{MemSink}

-- the bytes that an input has under each name
abbrev pub known_bytes : MemIntake → Option (List ℕ)
known_bytes intake = Some intake.bytes.items

-- the bytes that an input has left
abbrev pub known_left : MemIntake → Option (List ℕ)
known_left intake = Some (drop intake.given intake.bytes.items)

-- an input's count of faults
abbrev pub intake_faults : MemIntake → ℕ
intake_faults intake = intake.faults.0

-- how an input answers its calls
abbrev pub intake_plan : MemIntake → CallPlan
intake_plan intake = intake.plan

-- the bytes that an output took
abbrev pub known_taken : MemSink → Option (List ℕ)
known_taken sink = Some sink.bytes.items

-- an output's count of faults
abbrev pub sink_faults : MemSink → ℕ
sink_faults sink = sink.faults.0

-- how an output answers its calls
abbrev pub sink_plan : MemSink → CallPlan
sink_plan sink = sink.plan

-- the bytes for which an output was made
abbrev pub whole_room : MemSink → ℕ
whole_room sink = sink.room

-- the bytes that an output can still take
abbrev pub room_left : MemSink → ℕ
room_left sink = sink.room - length sink.bytes.items

-- how many bytes an input gives into a buffer of this length
abbrev pub given_count : MemIntake → ℕ → ℕ
given_count intake asked =
    min intake.plan.piece (min (length intake.bytes.items - intake.given) asked)

-- how many bytes an output takes of this many
abbrev pub taken_count : MemSink → ℕ → ℕ
taken_count sink offered = min sink.plan.piece (min (room_left sink) offered)

-- one more call of an input was made, which failed, and was counted, if it was one of those that
-- fail; its bytes stay
pub record CallsInput (failed : Bool) (old new : MemIntake) : Type 0 where
  pub call : MakesCall old.plan new.plan
  pub fails : IsTrue failed ↔ IsFailing new.plan
  pub counted : CountsFault failed (intake_faults old) (intake_faults new)
  pub bytes_stay : known_bytes new ≡ known_bytes old

-- one more call of an output was made, which was counted if it failed; its whole room stays
pub record CallsOutput (failed : Bool) (old new : MemSink) : Type 0 where
  pub call : MakesCall old.plan new.plan
  pub counted : CountsFault failed (sink_faults old) (sink_faults new)
  pub room_stays : whole_room new ≡ whole_room old

-- no room is left for any of these bytes
abbrev pub IsFullFor : MemSink → List ℕ → Type 0
IsFullFor sink bytes = (room_left sink ≡ 0) × (0 < length bytes)
