use Rattle.mesh_codec.proofs.Decoded.{one_packet}
use Rattle.mesh_codec.proofs.laws.bytes_begin_with_one_packet.Goals as goal

pub returns : goal.returns
returns c = one_packet
