use Rattle.std.proofs.Common.{refl}
use Rattle.mesh_rows.proofs.DecodeOnLiterals.{decode_on_literals}
use Rattle.mesh_rows.proofs.decode_rows.a_short_container_ends_the_text.Goals as goal

pub returns : goal.returns
unfolding decode_on_literals
returns c = refl
