use Rattle.std.proofs.Common.{refl}
use Rattle.mesh_rows.proofs.DecodeOnLiterals.{decode_on_literals}
use Rattle.mesh_rows.proofs.container_rows.the_later_of_two_sums_counts.Goals as goal

pub returns : goal.returns
unfolding decode_on_literals
returns c = record { later = refl; none = refl }
