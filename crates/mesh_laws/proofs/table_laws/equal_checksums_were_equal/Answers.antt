use Rattle.mesh_laws.proofs.TableSums.{had_equal_checksums}
use Rattle.mesh_laws.proofs.table_laws.equal_checksums_were_equal.Goals as goal

pub returns : goal.returns
returns c = had_equal_checksums
