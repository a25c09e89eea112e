use Rattle.std.proofs.Common.{refl}
use Rattle.mesh_rows.proofs.DecodeOnLiterals.{decode_on_literals}
use Rattle.mesh_rows.proofs.decode_rows.a_length_past_the_end_is_bad.Goals as goal

pub returns : goal.returns
unfolding decode_on_literals
returns c = refl
