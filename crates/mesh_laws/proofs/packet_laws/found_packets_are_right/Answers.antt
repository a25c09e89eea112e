use Rattle.mesh_laws.proofs.CauseLemmas.{found_right}
use Rattle.mesh_laws.proofs.packet_laws.found_packets_are_right.Goals as goal

pub returns : goal.returns
returns c = found_right
