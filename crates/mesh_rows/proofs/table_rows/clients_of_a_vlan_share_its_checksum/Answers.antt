use Rattle.std.proofs.Common.{refl}
use Rattle.mesh_rows.proofs.TablesOnLiterals.{tables_on_literals}
use Rattle.mesh_rows.proofs.table_rows.clients_of_a_vlan_share_its_checksum.Goals as goal

pub returns : goal.returns
unfolding tables_on_literals
returns c = record { untagged = refl; tagged = refl; empty = refl; named = refl }
