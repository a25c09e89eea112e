use Rattle.mesh_vis.proofs.Spelled.{picture_spelled}
use Rattle.mesh_vis.proofs.laws.a_read_picture_is_spelled_so.Goals as goal

pub returns : goal.returns
returns c = picture_spelled
