use Rattle.std.proofs.Common.{refl}
use Rattle.mesh_rows.proofs.FragmentsOnLiterals.{fragments_on_literals}
use Rattle.mesh_rows.proofs.fragment_rows.fragments_hold_their_packet.Goals as goal

pub returns-clause-two : goal.returns-clause-two
unfolding fragments_on_literals
returns-clause-two c = refl

pub returns-clause-fifteen : goal.returns-clause-fifteen
unfolding fragments_on_literals
returns-clause-fifteen c = refl

pub returns-clause-sixteen : goal.returns-clause-sixteen
unfolding fragments_on_literals
returns-clause-sixteen c = refl
