use Rattle.mesh_laws.proofs.KeyTables.{determined}
use Rattle.mesh_laws.proofs.table_laws.entries_determine_a_table.Goals as goal

pub returns : goal.returns
returns c = determined
