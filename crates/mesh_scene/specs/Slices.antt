-- A slice of a run: where it leads, what it prints, and how the last happening rises. The words are
-- over what a scene stands for. The main words are `PassesFrom` and `HasAdvanced`.
use Rattle.std.specs.Prelude.{◌≡◌, ℕ, ◌+◌, ◌*◌, ◌<◌, ◌≤◌, List, ◌++◌, Result, IfOk}
use Rattle.mesh_laws.specs.Soundness.{rank}
use Rattle.mesh_model.specs.declared.ending.Stop.TheVariants.{Limit}
use Rattle.mesh_model.specs.Net.Limits.{clock_limit}
use Rattle.mesh_model.specs.Net.Mesh.{Setup}
use Rattle.mesh_model.specs.Run.Outcome.{Goes, Ends}
use Rattle.mesh_model.specs.Run.Passing.{run_until}
use Rattle.mesh_model.specs.Run.State.{State, text_of}
use Rattle.mesh_net.specs.declared.net.Net.{Net}
use Rattle.mesh_scene.specs.declared.slice.Passage.{Passage}
use Rattle.mesh_scene.specs.declared.slice.Passage.TheVariants as passage

-- where the run of a state until a moment leads by way of another state: on to the run of that, to
-- its end there, or to a limit there
abbrev pub LeadsTo : Setup → ℕ → State → State → Passage → Type 0
LeadsTo setup t from mid passage.Going = run_until setup t from ≡ run_until setup t mid
LeadsTo setup t from mid passage.Ended = run_until setup t from ≡ Goes mid
LeadsTo setup t from mid (passage.Stopped limit) = run_until setup t from ≡ Ends mid (Limit limit)

-- where the scene stands after a slice; nowhere any more behind a limit
abbrev pub StandsBehind : {S : Type 0} → (S → State → Type 0) → S → State → Passage → Type 0
StandsBehind stands scene mid passage.Going = stands scene mid
StandsBehind stands scene mid passage.Ended = stands scene mid
StandsBehind stands scene mid (passage.Stopped limit) = Unit {0}

-- a slice of the run of a state until a moment: the state behind it, and what it printed
pub record Passes {S : Type 0} (stands : S → State → Type 0) (setup : Setup) (t : ℕ) (from : State)
    (scene : S) (printed : List ℕ) (passage : Passage) : Type 0 where
  pub mid : State
  pub leads : LeadsTo setup t from mid passage
  pub standing : StandsBehind stands scene mid passage
  pub text : text_of mid ≡ text_of from ++ printed

-- from each state that the scene stood for, a call carries out a slice of its run, and prints
abbrev pub PassesFrom : {S E : Type 0} → (S → State → Type 0) → Setup → (old new : S) → ℕ → List ℕ
    → Result Passage E → Type 0
PassesFrom stands setup old new t printed result =
    (state : State) → stands old state → IfOk result (Passes stands setup t state new printed)

-- the last happening of a net rises, and stays below the end of its run; so does the clock
pub record HasAdvanced {A : Type 0} (t : ℕ) (old new : Net A) : Type 0 where
  pub rises : rank old.last < rank new.last
  pub low : rank new.last < (t + 1) * clock_limit
  pub later : new.clock ≤ t
