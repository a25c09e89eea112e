use Rattle.mesh_laws.proofs.PacketCuts.{puts_are_of_acts}
use Rattle.mesh_laws.proofs.cut_laws.puts_are_of_acts.Goals as goal

pub returns : goal.returns
returns c = puts_are_of_acts
