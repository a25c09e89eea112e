use Rattle.mesh_codec.proofs.Written.{read_alone}
use Rattle.mesh_codec.proofs.laws.a_written_packet_is_read_alone.Goals as goal

pub returns : goal.returns
returns c = read_alone
