use Rattle.std.proofs.Common.{◌∙◌}
use Rattle.mesh_scene.proofs.stage.Stage.begin.Goals as goal

pub returns-in-Iv : goal.returns-in-Iv
returns-in-Iv c = λ state empty clock algorithm choice. c.begin.ensures state empty clock (algorithm ∙ c.in-Iv.is) choice

pub returns-in-V : goal.returns-in-V
returns-in-V c = λ state empty clock algorithm choice. c.begin-in-V.ensures state empty clock (algorithm ∙ c.in-V.is) choice
