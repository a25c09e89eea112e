use Rattle.mesh_frag.proofs.WholeLemmas.{only_whole}
use Rattle.mesh_frag.proofs.laws.only_the_packet_becomes_whole.Goals as goal

pub returns : goal.returns
returns c = only_whole
