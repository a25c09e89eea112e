use Rattle.mesh_laws.proofs.TableSums.{checksums_xored}
use Rattle.mesh_laws.proofs.table_laws.changes_xor_the_checksums.Goals as goal

pub returns : goal.returns
returns c = checksums_xored
