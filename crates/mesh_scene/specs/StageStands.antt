-- What the scene of a scenario stands for, whichever algorithm is chosen: a state of the plain run.
-- The main words are `StageStands` and `IsOnStage`.
use Rattle.mesh_model.specs.declared.line_form.Algorithm.TheVariants as chosen
use Rattle.mesh_model.specs.Routes.AlgorithmIv.{iv_queries}
use Rattle.mesh_model.specs.Routes.AlgorithmV.{v_queries}
use Rattle.mesh_model.specs.declared.line_form.Command.{Command}
use Rattle.mesh_model.specs.Run.Outcome.{Outcome}
use Rattle.mesh_model.specs.Run.Rules.{carried_out, setup_of}
use Rattle.mesh_model.specs.Run.State.{State}
use Rattle.mesh_scene.specs.SceneStands.{SceneStands}
use Rattle.mesh_scene.specs.declared.stage.Stage.{Stage}
use Rattle.mesh_scene.specs.declared.stage.Stage.TheVariants.{Iv, V}
use Rattle.mesh_show.specs.IvStands.{iv_stands}
use Rattle.mesh_show.specs.VStands.{v_stands}

-- the scene stands for a state under the algorithm that is chosen
abbrev pub StageStands : Stage → State → Type 0
StageStands (Iv scene) state = SceneStands chosen.Iv iv_queries iv_stands scene state
StageStands (V scene) state = SceneStands chosen.V v_queries v_stands scene state

-- the scene stands for some state
pub record IsOnStage (stage : Stage) : Type 0 where
  pub state : State
  pub standing : StageStands stage state

-- the outcome of a command under the algorithm that is chosen
abbrev pub outcome_on_stage : Command → State → Outcome
outcome_on_stage command state = carried_out (setup_of state.algorithm) state command
