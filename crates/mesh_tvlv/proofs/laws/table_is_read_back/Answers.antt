use Rattle.mesh_tvlv.proofs.TableLemmas.{table_back}
use Rattle.mesh_tvlv.proofs.laws.table_is_read_back.Goals as goal

pub returns : goal.returns
returns c = table_back
