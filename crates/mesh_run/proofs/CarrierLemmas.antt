-- What carries lines out of one kind carries them out by the words of both.
use Rattle.std.proofs.Common.{ℕ, List, Option, Result, Ok, Err, OnOk, IfErr}
use Rattle.std.specs.Io.KnownBytes.{Appends}
use Rattle.mesh_bisect.specs.declared.bisect.Bisect.{Bisect}
use Rattle.mesh_model.specs.declared.input_kind.InputKind.{InputKind}
use Rattle.mesh_model.specs.declared.input_kind.InputKind.TheVariants.{Scenario, Routes}
use Rattle.mesh_model.specs.Loops.RouteLines.{route_of_line}
use Rattle.mesh_model.specs.Run.InputRun.{loop_text}
use Rattle.mesh_model.specs.Run.LoopRun.{LoopState, after_route_reading, at_end}
use Rattle.mesh_model.specs.Run.Outcome.{OutcomeOf}
use Rattle.mesh_model.specs.Run.PlainRun.{after_reading}
use Rattle.mesh_model.specs.Run.State.{State, text_of}
use Rattle.mesh_model.specs.Scenario.Commands.{command_of_line}
use Rattle.mesh_run.specs.Inner.Kinds.{CarrierStands, RoutesStand, StateOf, outcome_of, text_at_end, text_by}
use Rattle.mesh_run.specs.Inner.Lines.{CarriesLine, EndFails, LeavesLine, StandsAt}
use Rattle.mesh_run.specs.declared.carrier.Carrier.TheVariants as carrier
use Rattle.mesh_run.specs.declared.fault.Fault.{Fault}
use Rattle.mesh_run.specs.declared.fault.Fault.TheVariants.{Halted, Read, Write, Memory}
use Rattle.mesh_scene.specs.StageStands.{StageStands}
use Rattle.mesh_scene.specs.declared.stage.Stage.{Stage}

module _ (old new : Option (List ℕ)) (line : List ℕ) (number : ℕ) (result : Result (Unit {0}) Fault) where
  pub stage_line : (kind : InputKind) (stage after : Stage) → CarriesLine text_of StageStands old new stage after (λ state. after_reading state (command_of_line line)) number result
      → CarriesLine (text_by kind) (CarrierStands kind) old new (carrier.Stage stage) (carrier.Stage after) (outcome_of kind line) number result
  stage_line (Scenario choice) stage after carries = λ base state at. either base (after_reading state (command_of_line line)) result (carries base state (record { scene_is = at.scene_is; printed = at.printed }))
    where
      either : (base : Option (List ℕ)) (outcome : OutcomeOf State) (answer : Result (Unit {0}) Fault) → LeavesLine text_of StageStands outcome base new after number answer → LeavesLine (text_by (Scenario choice)) (CarrierStands (Scenario choice)) outcome base new (carrier.Stage after) number answer
      either base outcome (Ok done) h = record { after = h.after; carried = h.carried; standing = record { scene_is = h.standing.scene_is; printed = h.standing.printed } }
      either base outcome (Err (Halted at stop)) h = record { after = h.after; ended = h.ended; numbered = h.numbered; printed = h.printed }
      either base outcome (Err Read) h = h
      either base outcome (Err Write) h = h
      either base outcome (Err Memory) h = h
  stage_line Routes stage after carries = λ base state at. absurd at.scene_is

  pub bisect_line : (kind : InputKind) (bisect after : Bisect) → CarriesLine loop_text RoutesStand old new bisect after (λ state. after_route_reading state (route_of_line line)) number result
      → CarriesLine (text_by kind) (CarrierStands kind) old new (carrier.Bisect bisect) (carrier.Bisect after) (outcome_of kind line) number result
  bisect_line (Scenario choice) bisect after carries = λ base state at. absurd at.scene_is
  bisect_line Routes bisect after carries = λ base state at. either base (after_route_reading state (route_of_line line)) result (carries base state (record { scene_is = at.scene_is; printed = at.printed }))
    where
      either : (base : Option (List ℕ)) (outcome : OutcomeOf LoopState) (answer : Result (Unit {0}) Fault) → LeavesLine loop_text RoutesStand outcome base new after number answer → LeavesLine (text_by Routes) (CarrierStands Routes) outcome base new (carrier.Bisect after) number answer
      either base outcome (Ok done) h = record { after = h.after; carried = h.carried; standing = record { scene_is = h.standing.scene_is; printed = h.standing.printed } }
      either base outcome (Err (Halted at stop)) h = record { after = h.after; ended = h.ended; numbered = h.numbered; printed = h.printed }
      either base outcome (Err Read) h = h
      either base outcome (Err Write) h = h
      either base outcome (Err Memory) h = h

-- ---- the end of the input

-- a scenario prints nothing there
pub stage_ends : (kind : InputKind) (stage : Stage) (base now : Option (List ℕ)) (state : StateOf kind) → StandsAt (text_by kind) (CarrierStands kind) base now (carrier.Stage stage) state → Appends base now (text_at_end kind state)
stage_ends (Scenario choice) stage base now state at = at.printed
stage_ends Routes stage base now state at = absurd at.scene_is

-- lines of routes print the report of the moment under way
pub bisect_ends : (kind : InputKind) (bisect : Bisect) (base old new : Option (List ℕ)) (result : Result (Unit {0}) Fault) (state : StateOf kind) → StandsAt (text_by kind) (CarrierStands kind) base old (carrier.Bisect bisect) state
    → ((b : Option (List ℕ)) (s : LoopState) → StandsAt loop_text RoutesStand b old bisect s → OnOk result (Appends b new (at_end s).printed)) → OnOk result (Appends base new (text_at_end kind state))
bisect_ends (Scenario choice) bisect base old new result state at ends = absurd at.scene_is
bisect_ends Routes bisect base old new result state at ends = ends base state (record { scene_is = at.scene_is; printed = at.printed })

pub bisect_end_fails : (kind : InputKind) (bisect : Bisect) (base old new : Option (List ℕ)) (result : Result (Unit {0}) Fault) (state : StateOf kind) → StandsAt (text_by kind) (CarrierStands kind) base old (carrier.Bisect bisect) state
    → ((b : Option (List ℕ)) (s : LoopState) → StandsAt loop_text RoutesStand b old bisect s → IfErr result (EndFails b new (at_end s).printed)) → IfErr result (EndFails base new (text_at_end kind state))
bisect_end_fails (Scenario choice) bisect base old new result state at fails = absurd at.scene_is
bisect_end_fails Routes bisect base old new result state at fails = fails base state (record { scene_is = at.scene_is; printed = at.printed })
