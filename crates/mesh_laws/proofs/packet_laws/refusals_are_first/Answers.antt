use Rattle.mesh_laws.proofs.CauseLemmas.{refusals_first}
use Rattle.mesh_laws.proofs.packet_laws.refusals_are_first.Goals as goal

pub returns : goal.returns
returns c = refusals_first
