use Rattle.mesh_codec.proofs.Written.{one_spelling}
use Rattle.mesh_codec.proofs.laws.a_spelling_is_of_one_packet.Goals as goal

pub returns : goal.returns
returns c = one_spelling
