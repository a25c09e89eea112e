use Rattle.mesh_codec.proofs.Written.{shape_size}
use Rattle.mesh_codec.proofs.laws.a_header_has_its_size.Goals as goal

pub returns : goal.returns
returns c = shape_size
