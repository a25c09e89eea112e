use Rattle.mesh_codec.proofs.PayloadLemmas.{frame_back}
use Rattle.mesh_codec.proofs.laws.a_written_client_frame_is_read_again.Goals as goal

pub returns : goal.returns
returns c = frame_back
