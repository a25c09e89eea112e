use Rattle.mesh_vis.proofs.Spelled.{own_pictures_fit}
use Rattle.mesh_vis.proofs.laws.own_pictures_fit.Goals as goal

pub returns : goal.returns
returns c = own_pictures_fit
