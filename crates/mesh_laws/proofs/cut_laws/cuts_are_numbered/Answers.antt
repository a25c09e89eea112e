use Rattle.mesh_laws.proofs.PacketCuts.{cuts_are_numbered}
use Rattle.mesh_laws.proofs.cut_laws.cuts_are_numbered.Goals as goal

pub returns : goal.returns
returns c = cuts_are_numbered
