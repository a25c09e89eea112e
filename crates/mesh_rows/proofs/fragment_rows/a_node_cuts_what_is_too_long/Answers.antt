use Rattle.std.proofs.Common.{refl}
use Rattle.mesh_rows.proofs.CutsOnLiterals.{cuts_on_literals}
use Rattle.mesh_rows.proofs.fragment_rows.a_node_cuts_what_is_too_long.Goals as goal

pub returns : goal.returns
unfolding cuts_on_literals
returns c = (refl, refl)
