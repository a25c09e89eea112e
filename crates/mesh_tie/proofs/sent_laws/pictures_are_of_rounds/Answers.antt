use Rattle.mesh_tie.proofs.PictureRuns.{reached_pictures_are_right, runs_show_pictures}
use Rattle.mesh_tie.proofs.sent_laws.pictures_are_of_rounds.Goals as goal

pub returns-clause-meshes : goal.returns-clause-meshes
returns-clause-meshes c = reached_pictures_are_right

pub returns-clause-runs : goal.returns-clause-runs
returns-clause-runs c = runs_show_pictures
