use Rattle.mesh_tvlv.proofs.TableLemmas.{bodies_back}
use Rattle.mesh_tvlv.proofs.laws.bodies_are_read_back.Goals as goal

pub returns : goal.returns
returns c = bodies_back
