use Rattle.mesh_tvlv.proofs.TableLemmas.{record_back}
use Rattle.mesh_tvlv.proofs.laws.record_is_read_back.Goals as goal

pub returns : goal.returns
returns c = record_back
