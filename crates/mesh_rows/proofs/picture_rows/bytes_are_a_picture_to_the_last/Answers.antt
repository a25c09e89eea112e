use Rattle.std.proofs.Common.{refl}
use Rattle.mesh_rows.proofs.PicturesOnLiterals.{pictures_on_literals}
use Rattle.mesh_rows.proofs.picture_rows.bytes_are_a_picture_to_the_last.Goals as goal

pub returns-clause-nothing : goal.returns-clause-nothing
unfolding pictures_on_literals
returns-clause-nothing c = refl

pub returns-clause-no_clients : goal.returns-clause-no_clients
unfolding pictures_on_literals
returns-clause-no_clients c = refl

pub returns-clause-missing : goal.returns-clause-missing
unfolding pictures_on_literals
returns-clause-missing c = refl

pub returns-clause-behind : goal.returns-clause-behind
unfolding pictures_on_literals
returns-clause-behind c = refl

pub returns-clause-neighbours : goal.returns-clause-neighbours
unfolding pictures_on_literals
returns-clause-neighbours c = refl

pub returns-clause-clients : goal.returns-clause-clients
unfolding pictures_on_literals
returns-clause-clients c = refl
