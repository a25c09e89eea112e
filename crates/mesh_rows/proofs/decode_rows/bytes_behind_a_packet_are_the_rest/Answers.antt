use Rattle.std.proofs.Common.{refl}
use Rattle.mesh_rows.proofs.DecodeOnLiterals.{decode_on_literals}
use Rattle.mesh_rows.proofs.decode_rows.bytes_behind_a_packet_are_the_rest.Goals as goal

pub returns : goal.returns
unfolding decode_on_literals
returns c = refl
