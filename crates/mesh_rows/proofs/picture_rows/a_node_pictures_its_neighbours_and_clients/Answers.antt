use Rattle.std.proofs.Common.{refl}
use Rattle.mesh_rows.proofs.PicturesOnLiterals.{pictures_on_literals}
use Rattle.mesh_rows.proofs.picture_rows.a_node_pictures_its_neighbours_and_clients.Goals as goal

pub returns-clause-direct : goal.returns-clause-direct
unfolding pictures_on_literals
returns-clause-direct c = refl

pub returns-clause-few : goal.returns-clause-few
unfolding pictures_on_literals
returns-clause-few c = refl

pub returns-clause-fewer : goal.returns-clause-fewer
unfolding pictures_on_literals
returns-clause-fewer c = refl
