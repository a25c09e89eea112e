-- A call on the scene of a stage is one on the stage, where the scene's algorithm is that of the state.
use Rattle.std.proofs.Common.{◌≡◌, ℕ, List, Option, Result, Ok, Err, sym, subst}
use Rattle.mesh_model.specs.declared.line_form.Algorithm.{Algorithm}
use Rattle.mesh_model.specs.declared.line_form.Command.{Command}
use Rattle.mesh_model.specs.Run.Outcome.{Outcome, Goes}
use Rattle.mesh_model.specs.Run.Rules.{carried_out, setup_of}
use Rattle.mesh_model.specs.Run.State.{State}
use Rattle.mesh_model.specs.Run.State.{text_of}
use Rattle.mesh_run.specs.Inner.Lines.{Carried, CarriesLine, CarryFails, LeavesLine, StandsAt}
use Rattle.mesh_run.specs.declared.fault.Fault.{Fault}
use Rattle.mesh_scene.specs.StageStands.{outcome_on_stage}

-- the outcome of a command under an algorithm
abbrev pub outcome_by : Algorithm → Command → State → Outcome
outcome_by algorithm command state = carried_out (setup_of algorithm) state command

-- a scene before and after a call, and the stage that they stand on: where the stage stands for a
-- state, the scene does, under the algorithm of the state; and behind the call the other way round
pub record OnStage {S T : Type 0} (stand : S → State → Type 0) (stand' : T → State → Type 0) (algorithm : Algorithm) (before after : S) (before' after' : T) : Type 0 where
  pub down : (state : State) → stand' before' state → stand before state
  pub up : (state : State) → stand after state → stand' after' state
  pub chosen : (state : State) → stand' before' state → state.algorithm ≡ algorithm

module _ {S T : Type 0} (stand : S → State → Type 0) (stand' : T → State → Type 0) (algorithm : Algorithm) (before after : S) (before' after' : T) (on : OnStage stand stand' algorithm before after before' after') (old new : Option (List ℕ)) (command : Command) (number : ℕ) (result : Result (Unit {0}) Fault) where
  carried_up : (base : Option (List ℕ)) (state : State) → state.algorithm ≡ algorithm → Carried text_of stand (outcome_by algorithm command state) base new after → Carried text_of stand' (outcome_on_stage command state) base new after'
  carried_up base state is done = record {
    after = done.after;
    carried = subst (λ a. outcome_by a command state ≡ Goes done.after) (sym is) done.carried;
    standing = record { scene_is = on.up done.after done.standing.scene_is; printed = done.standing.printed };
  }

  at_scene : (base : Option (List ℕ)) (state : State) → StandsAt text_of stand' base old before' state → StandsAt text_of stand base old before state
  at_scene base state at = record { scene_is = on.down state at.scene_is; printed = at.printed }

  pub line_on_stage : CarriesLine text_of stand old new before after (outcome_by algorithm command) number result → CarriesLine text_of stand' old new before' after' (outcome_on_stage command) number result
  line_on_stage carries = λ base state at. either base state (on.chosen state at.scene_is) result (carries base state (at_scene base state at))
    where
      either : (base : Option (List ℕ)) (state : State) → state.algorithm ≡ algorithm → (answer : Result (Unit {0}) Fault) → LeavesLine text_of stand (outcome_by algorithm command state) base new after number answer → LeavesLine text_of stand' (outcome_on_stage command state) base new after' number answer
      either base state is (Ok done) carried = carried_up base state is carried
      either base state is (Err fault) fails = subst (λ a. CarryFails text_of (outcome_by a command state) base new number fault) (sym is) fails
