use Rattle.std.proofs.Common.{◌∙◌, None}
use Rattle.mesh_v.specs.Rows.{path_score, up_in}
use Rattle.mesh_v.proofs.best.best_of.Goals as goal

pub returns : goal.returns
returns c = λ sorted. c.best_from.ensures ∙ c.first_path.ensures sorted (path_score (up_in c.args.now c.args.origs.now.entries) c.args.newest) None
