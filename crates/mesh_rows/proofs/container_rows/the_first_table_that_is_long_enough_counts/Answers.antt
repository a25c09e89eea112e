use Rattle.std.proofs.Common.{refl}
use Rattle.mesh_rows.proofs.DecodeOnLiterals.{decode_on_literals}
use Rattle.mesh_rows.proofs.container_rows.the_first_table_that_is_long_enough_counts.Goals as goal

pub returns : goal.returns
unfolding decode_on_literals
returns c = record { counts = refl; short = refl }
