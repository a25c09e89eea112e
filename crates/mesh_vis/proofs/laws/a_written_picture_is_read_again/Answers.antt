use Rattle.mesh_vis.proofs.Spelled.{picture_again}
use Rattle.mesh_vis.proofs.laws.a_written_picture_is_read_again.Goals as goal

pub returns : goal.returns
returns c = picture_again
