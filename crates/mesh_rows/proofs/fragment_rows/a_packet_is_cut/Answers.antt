use Rattle.std.proofs.Common.{refl}
use Rattle.mesh_rows.proofs.FragmentsOnLiterals.{fragments_on_literals}
use Rattle.mesh_rows.proofs.fragment_rows.a_packet_is_cut.Goals as goal

pub returns-clause-cut : goal.returns-clause-cut
unfolding fragments_on_literals
returns-clause-cut c = refl

pub returns-clause-spelled : goal.returns-clause-spelled
unfolding fragments_on_literals
returns-clause-spelled c = refl

pub returns-clause-sizes : goal.returns-clause-sizes
unfolding fragments_on_literals
returns-clause-sizes c = refl

pub returns-clause-other_kind : goal.returns-clause-other_kind
unfolding fragments_on_literals
returns-clause-other_kind c = refl
