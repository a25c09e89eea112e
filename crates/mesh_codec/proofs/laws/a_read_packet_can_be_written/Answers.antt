use Rattle.mesh_codec.proofs.Written.{can_be_written}
use Rattle.mesh_codec.proofs.laws.a_read_packet_can_be_written.Goals as goal

pub returns : goal.returns
returns c = can_be_written
