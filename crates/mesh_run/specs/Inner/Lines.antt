-- What one line, or a slice of one, leaves, since out held what it held at some moment before:
-- where the run stands after it, or the cause of the fault at which it broke off; and the counts of
-- faults. The words are over what a scene stands for, and what a state has printed. The main words
-- are `CarriesLine` and, for a slice, `CarriesSlice`.
use Rattle.std.specs.Prelude.{◌≡◌, ℕ, ◌≤◌, Bool, true, false, List, Option, Result, Ok, Err, IfErr}
use Rattle.std.specs.Io.KnownBytes.{Appends}
use Rattle.mesh_base.specs.Faults.{Rose}
use Rattle.mesh_base.specs.Writes.{AppendsFront}
use Rattle.mesh_model.specs.declared.ending.Stop.{Stop}
use Rattle.mesh_model.specs.Net.Mesh.{Setup}
use Rattle.mesh_model.specs.Run.Outcome.{OutcomeOf, Goes, Ends, reached}
use Rattle.mesh_model.specs.Run.Passing.{run_until}
use Rattle.mesh_model.specs.Run.State.{State, text_of}
use Rattle.mesh_run.specs.Outcome.{AppendsLess}
use Rattle.mesh_run.specs.declared.fault.Fault.{Fault}
use Rattle.mesh_run.specs.declared.fault.Fault.TheVariants.{Halted, Read, Write, Memory}

-- ---- one line

-- a scene stands for a state, and out took what that state has printed since it held base
pub record StandsAt {S X : Type 0} (text : X → List ℕ) (stands : S → X → Type 0)
    (base now : Option (List ℕ)) (scene : S) (state : X) : Type 0 where
  pub scene_is : stands scene state
  pub printed : Appends base now (text state)

-- a line after which the run goes on: where it stands
pub record Carried {S X : Type 0} (text : X → List ℕ) (stands : S → X → Type 0)
    (outcome : OutcomeOf X) (base now : Option (List ℕ)) (scene : S) : Type 0 where
  pub after : X
  pub carried : outcome ≡ Goes after
  pub standing : StandsAt text stands base now scene after

-- a line that ends the run: out took what is printed up to there
pub record HaltsLine {X : Type 0} (text : X → List ℕ) (outcome : OutcomeOf X)
    (base now : Option (List ℕ)) (number line : ℕ) (stop : Stop) : Type 0 where
  pub after : X
  pub ended : outcome ≡ Ends after stop
  pub numbered : line ≡ number
  pub printed : Appends base now (text after)

-- the cause of a fault while a line is carried out, which reads nothing
abbrev pub CarryFails : {X : Type 0} → (X → List ℕ) → OutcomeOf X → (base now : Option (List ℕ))
    → ℕ → Fault → Type 0
CarryFails text outcome base now number (Halted line stop) =
    HaltsLine text outcome base now number line stop
CarryFails text outcome base now number Read = ⊥
CarryFails text outcome base now number Write = AppendsLess base now (text (reached outcome))
CarryFails text outcome base now number Memory = AppendsFront base now (text (reached outcome))

-- what a call for a line of this outcome leaves: where the run goes on, or the cause of its fault
abbrev pub LeavesLine : {S X : Type 0} → (X → List ℕ) → (S → X → Type 0) → OutcomeOf X
    → (base now : Option (List ℕ)) → S → ℕ → Result (Unit {0}) Fault → Type 0
LeavesLine text stands outcome base now scene number (Ok done) =
    Carried text stands outcome base now scene
LeavesLine text stands outcome base now scene number (Err fault) =
    CarryFails text outcome base now number fault

-- from each state at which the scene stood, a call carries out a line of this number and outcome
abbrev pub CarriesLine : {S X : Type 0} → (X → List ℕ) → (S → X → Type 0)
    → (old new : Option (List ℕ)) → (before after : S) → (X → OutcomeOf X) → ℕ
    → Result (Unit {0}) Fault → Type 0
CarriesLine {X = X} text stands old new before after outcome number result =
    (base : Option (List ℕ)) (state : X) → StandsAt text stands base old before state
    → LeavesLine text stands (outcome state) base new after number result

-- the cause of a fault while the end of an input that prints this is carried out: nothing halts there
abbrev pub EndFails : (base now : Option (List ℕ)) → List ℕ → Fault → Type 0
EndFails base now text (Halted line stop) = ⊥
EndFails base now text Read = ⊥
EndFails base now text Write = AppendsLess base now text
EndFails base now text Memory = AppendsFront base now text

-- where the run of a state until a moment leads: on to that of another, or to its end there
abbrev pub LeadsBy : Setup → ℕ → State → State → Bool → Type 0
LeadsBy setup t from mid true = run_until setup t from ≡ run_until setup t mid
LeadsBy setup t from mid false = run_until setup t from ≡ Goes mid

-- a slice of the run of a state until a moment was carried out and written, and whether more is to
-- come: where it stands, from which the run goes on, or at which it is at its end
pub record Sliced {S : Type 0} (stands : S → State → Type 0) (setup : Setup) (t : ℕ) (from : State)
    (base now : Option (List ℕ)) (scene : S) (more : Bool) : Type 0 where
  pub mid : State
  pub leads : LeadsBy setup t from mid more
  pub standing : StandsAt text_of stands base now scene mid

-- what a call for a slice of the run of a state leaves: where it stands, or the cause of its fault
abbrev pub LeavesSlice : {S : Type 0} → (S → State → Type 0) → Setup → ℕ → State
    → (base now : Option (List ℕ)) → S → ℕ → Result Bool Fault → Type 0
LeavesSlice stands setup t from base now scene number (Ok more) =
    Sliced stands setup t from base now scene more
LeavesSlice stands setup t from base now scene number (Err fault) =
    CarryFails text_of (run_until setup t from) base now number fault

-- from each state at which the scene stood, a call carries out a slice of its run until a moment,
-- for the line of a number
abbrev pub CarriesSlice : {S : Type 0} → (S → State → Type 0) → Setup → (old new : Option (List ℕ))
    → (before after : S) → ℕ → ℕ → Result Bool Fault → Type 0
CarriesSlice stands setup old new before after t number result =
    (base : Option (List ℕ)) (state : State) → StandsAt text_of stands base old before state
    → LeavesSlice stands setup t state base new after number result

-- ---- counts of faults

-- a fault of writing is blamed only where the sink's count rose, and nothing was read
abbrev pub BlamesWrite : ℕ → ℕ → Fault → Type 0
BlamesWrite old new (Halted line stop) = Unit {0}
BlamesWrite old new Read = ⊥
BlamesWrite old new Write = Rose old new
BlamesWrite old new Memory = Unit {0}

-- what a call does to a sink's count of faults
pub record CountsWrites {A : Type 0} (old new : ℕ) (result : Result A Fault) : Type 0 where
  pub kept : old ≤ new
  pub cause : IfErr result (BlamesWrite old new)
