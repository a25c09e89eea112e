use Rattle.mesh_laws.proofs.TableChanges.{additions_make_table}
use Rattle.mesh_laws.proofs.table_laws.additions_make_a_table.Goals as goal

pub returns : goal.returns
returns c = additions_make_table
