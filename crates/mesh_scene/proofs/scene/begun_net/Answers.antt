use Rattle.mesh_model.specs.declared.frame_choice.FrameChoice.TheVariants.{All}
use Rattle.mesh_model.specs.Net.Mesh.{empty_mesh}
use Rattle.mesh_scene.proofs.scene.begun_net.Goals as goal

pub returns-then-watched : goal.returns-then-watched
returns-then-watched g c = rw c.if-watched.true (c.watch_routes.ensures.watches c.args.choice c.args.clock (c.show_frames.ensures.shows All c.args.clock empty_mesh c.begin-net.ensures))

pub returns-else-watched : goal.returns-else-watched
returns-else-watched g c = rw c.if-watched.false (c.show_frames.ensures.shows All c.args.clock empty_mesh c.begin-net.ensures)
