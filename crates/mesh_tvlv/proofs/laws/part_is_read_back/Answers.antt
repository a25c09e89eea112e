use Rattle.mesh_tvlv.proofs.TableLemmas.{part_back}
use Rattle.mesh_tvlv.proofs.laws.part_is_read_back.Goals as goal

pub returns : goal.returns
returns c = part_back
