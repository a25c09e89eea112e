use Rattle.std.proofs.Common.{refl}
use Rattle.mesh_rows.proofs.DecodeOnLiterals.{decode_on_literals}
use Rattle.mesh_rows.proofs.container_rows.a_part_is_read_as_it_was_spelled.Goals as goal

pub returns : goal.returns
unfolding decode_on_literals
returns c = record { spelled = refl; read = refl; request_too = refl; response_alone = refl; request = refl; no_table = refl }
