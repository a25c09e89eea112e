use Rattle.std.proofs.Common.{refl}
use Rattle.mesh_rows.proofs.OnLiterals.{model_on_literals}
use Rattle.mesh_rows.proofs.rows.a_fact_of_an_unknown_node_is_refused.Goals as goal

pub returns : goal.returns
unfolding model_on_literals
returns c = (refl, refl)
