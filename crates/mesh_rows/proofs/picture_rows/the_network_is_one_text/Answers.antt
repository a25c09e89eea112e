use Rattle.std.proofs.Common.{refl}
use Rattle.mesh_rows.proofs.PicturesOnLiterals.{pictures_on_literals}
use Rattle.mesh_rows.proofs.picture_rows.the_network_is_one_text.Goals as goal

pub returns-clause-none : goal.returns-clause-none
unfolding pictures_on_literals
returns-clause-none c = refl

pub returns-clause-lone : goal.returns-clause-lone
unfolding pictures_on_literals
returns-clause-lone c = refl

pub returns-clause-two : goal.returns-clause-two
unfolding pictures_on_literals
returns-clause-two c = refl

pub returns-clause-vlans : goal.returns-clause-vlans
unfolding pictures_on_literals
returns-clause-vlans c = refl

pub returns-clause-left_out : goal.returns-clause-left_out
unfolding pictures_on_literals
returns-clause-left_out c = refl
