use Rattle.std.proofs.Common.{subst}
use Rattle.std.proofs.lemmas.Result.{on_ok_weaker}
use Rattle.mesh_model.specs.declared.line_form.Algorithm.TheVariants as chosen
use Rattle.mesh_model.specs.Routes.AlgorithmIv.{iv_queries}
use Rattle.mesh_model.specs.Routes.AlgorithmV.{v_queries}
use Rattle.mesh_scene.specs.SceneStands.{IsSomewhere, SceneStands}
use Rattle.mesh_scene.specs.StageStands.{StageStands}
use Rattle.mesh_scene.specs.declared.stage.Stage.{Stage}
use Rattle.mesh_scene.specs.declared.stage.Stage.TheVariants.{Iv, V}
use Rattle.mesh_show.specs.IvStands.{iv_stands}
use Rattle.mesh_show.specs.VStands.{v_stands}
use Rattle.mesh_run.proofs.StageLemmas.{OnStage, line_on_stage}
use Rattle.mesh_run.proofs.line.carry_on_stage.Goals as goal

pub carry_whole-requires-clause-somewhere : goal.carry_whole-requires-clause-somewhere
carry_whole-requires-clause-somewhere g c =
    let at = c.requires.somewhere in
    record { state = at.state; standing = subst (λ (s : Stage). StageStands s at.state) c.in-Iv.is at.standing }

pub returns-in-Iv-clause-line : goal.returns-in-Iv-clause-line
returns-in-Iv-clause-line g c =
    let on : OnStage (SceneStands chosen.Iv iv_queries iv_stands) StageStands chosen.Iv c.in-Iv.scene c.carry_whole.new.scene c.args.stage.now (Iv c.carry_whole.new.scene) = record {
      down = λ state stands. subst (λ (s : Stage). StageStands s state) c.in-Iv.is stands;
      up = λ state stands. stands;
      chosen = λ state stands. (subst (λ (s : Stage). StageStands s state) c.in-Iv.is stands).algorithm_is;
    } in
    line_on_stage (SceneStands chosen.Iv iv_queries iv_stands) StageStands chosen.Iv c.in-Iv.scene c.carry_whole.new.scene c.args.stage.now (Iv c.carry_whole.new.scene) on (g.K.Sink.taken c.args.out.now) (g.K.Sink.taken c.carry_whole.new.out) c.args.command c.args.number c.carry_whole.result c.carry_whole.ensures.line

pub returns-in-Iv-clause-somewhere : goal.returns-in-Iv-clause-somewhere
returns-in-Iv-clause-somewhere g c =
    on_ok_weaker c.carry_whole.result (λ (at : IsSomewhere chosen.Iv iv_queries iv_stands c.carry_whole.new.scene). record { state = at.state; standing = at.standing }) c.carry_whole.ensures.somewhere

pub returns-in-V-clause-line : goal.returns-in-V-clause-line
returns-in-V-clause-line g c =
    let on : OnStage (SceneStands chosen.V v_queries v_stands) StageStands chosen.V c.in-V.scene c.carry_whole-in-V.new.scene c.args.stage.now (V c.carry_whole-in-V.new.scene) = record {
      down = λ state stands. subst (λ (s : Stage). StageStands s state) c.in-V.is stands;
      up = λ state stands. stands;
      chosen = λ state stands. (subst (λ (s : Stage). StageStands s state) c.in-V.is stands).algorithm_is;
    } in
    line_on_stage (SceneStands chosen.V v_queries v_stands) StageStands chosen.V c.in-V.scene c.carry_whole-in-V.new.scene c.args.stage.now (V c.carry_whole-in-V.new.scene) on (g.K.Sink.taken c.args.out.now) (g.K.Sink.taken c.carry_whole-in-V.new.out) c.args.command c.args.number c.carry_whole-in-V.result c.carry_whole-in-V.ensures.line

pub returns-in-V-clause-somewhere : goal.returns-in-V-clause-somewhere
returns-in-V-clause-somewhere g c =
    on_ok_weaker c.carry_whole-in-V.result (λ (at : IsSomewhere chosen.V v_queries v_stands c.carry_whole-in-V.new.scene). record { state = at.state; standing = at.standing }) c.carry_whole-in-V.ensures.somewhere
