use Rattle.std.proofs.Common.{ap, refl, sym}
use Rattle.mesh_model.specs.Net.Mesh.{begun_mesh}
use Rattle.mesh_model.specs.Run.State.{first_state}
use Rattle.mesh_scene.proofs.stage.Stage.new.Goals as goal

pub returns : goal.returns
returns c = c.begin.ensures (first_state c.args.choice) (sym (ap begun_mesh c.watches.ensures)) refl refl refl
