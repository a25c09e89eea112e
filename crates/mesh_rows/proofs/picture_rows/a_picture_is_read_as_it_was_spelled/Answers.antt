use Rattle.std.proofs.Common.{refl}
use Rattle.mesh_rows.proofs.PicturesOnLiterals.{pictures_on_literals}
use Rattle.mesh_rows.proofs.picture_rows.a_picture_is_read_as_it_was_spelled.Goals as goal

pub returns-clause-spelled : goal.returns-clause-spelled
unfolding pictures_on_literals
returns-clause-spelled c = refl

pub returns-clause-read : goal.returns-clause-read
unfolding pictures_on_literals
returns-clause-read c = refl

pub returns-clause-neighbour : goal.returns-clause-neighbour
unfolding pictures_on_literals
returns-clause-neighbour c = refl

pub returns-clause-empty : goal.returns-clause-empty
unfolding pictures_on_literals
returns-clause-empty c = refl
