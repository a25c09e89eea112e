use Rattle.std.proofs.Common.{refl}
use Rattle.mesh_rows.proofs.DecodeOnLiterals.{decode_on_literals}
use Rattle.mesh_rows.proofs.decode_rows.an_originator_message_is_one_line.Goals as goal

pub returns : goal.returns
unfolding decode_on_literals
returns c = refl
