use Rattle.mesh_loops.proofs.ReadLemmas.{routes_come_back}
use Rattle.mesh_loops.proofs.laws.a_printed_route_is_read.Goals as goal

pub returns : goal.returns
returns c = routes_come_back
