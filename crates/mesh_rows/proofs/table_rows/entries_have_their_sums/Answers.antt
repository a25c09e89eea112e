use Rattle.std.proofs.Common.{refl}
use Rattle.mesh_rows.proofs.TablesOnLiterals.{tables_on_literals}
use Rattle.mesh_rows.proofs.table_rows.entries_have_their_sums.Goals as goal

pub returns : goal.returns
unfolding tables_on_literals
returns c = record { first = refl; first_by_wifi = refl; second = refl; first_tagged = refl; group_tagged = refl; other_flags = refl }
