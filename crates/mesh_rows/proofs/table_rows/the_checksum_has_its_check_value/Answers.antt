use Rattle.std.proofs.Common.{refl}
use Rattle.mesh_rows.proofs.TablesOnLiterals.{tables_on_literals}
use Rattle.mesh_rows.proofs.table_rows.the_checksum_has_its_check_value.Goals as goal

pub returns : goal.returns
unfolding tables_on_literals
returns c = record { digits = refl; nothing = refl }
