use Rattle.mesh_laws.proofs.FirstPacketLemmas.{first_packet-found}
use Rattle.mesh_laws.proofs.packet_laws.packets_are_found.Goals as goal

pub returns : goal.returns
returns c = first_packet-found
