use Rattle.mesh_laws.proofs.RunLemmas.{after_line-grows}
use Rattle.mesh_laws.proofs.run_laws.output_grows.Goals as goal

pub returns : goal.returns
returns c = after_line-grows
