use Rattle.mesh_laws.proofs.BadLineLemmas.{bad_is_last}
use Rattle.mesh_laws.proofs.packet_laws.a_bad_line_is_the_last.Goals as goal

pub returns : goal.returns
returns c = bad_is_last
