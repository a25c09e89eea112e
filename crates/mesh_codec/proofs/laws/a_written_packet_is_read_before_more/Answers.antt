use Rattle.mesh_codec.proofs.Written.{read_before_more}
use Rattle.mesh_codec.proofs.laws.a_written_packet_is_read_before_more.Goals as goal

pub returns : goal.returns
returns c = read_before_more
