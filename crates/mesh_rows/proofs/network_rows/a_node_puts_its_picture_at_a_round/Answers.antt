use Rattle.std.proofs.Common.{refl}
use Rattle.mesh_rows.proofs.PicturesOnLiterals.{pictures_on_literals}
use Rattle.mesh_rows.proofs.network_rows.a_node_puts_its_picture_at_a_round.Goals as goal

pub returns-clause-nothing : goal.returns-clause-nothing
unfolding pictures_on_literals
returns-clause-nothing c = (refl, refl)

pub returns-clause-alone : goal.returns-clause-alone
unfolding pictures_on_literals
returns-clause-alone c = (refl, refl)

pub returns-clause-no_part : goal.returns-clause-no_part
unfolding pictures_on_literals
returns-clause-no_part c = (refl, refl)

pub returns-clause-off : goal.returns-clause-off
unfolding pictures_on_literals
returns-clause-off c = (refl, refl)
