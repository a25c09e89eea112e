use Rattle.mesh_laws.proofs.PacketCuts.{nothing_is_cut}
use Rattle.mesh_laws.proofs.cut_laws.nothing_is_cut.Goals as goal

pub returns : goal.returns
returns c = nothing_is_cut
