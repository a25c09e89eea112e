use Rattle.mesh_messages.proofs.Rewritten.{arp_back}
use Rattle.mesh_messages.proofs.laws.written_arp_is_read_again.Goals as goal

pub returns : goal.returns
returns c = arp_back
