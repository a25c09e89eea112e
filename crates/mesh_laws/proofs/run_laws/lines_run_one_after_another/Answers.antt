use Rattle.mesh_laws.proofs.RunLemmas.{plain_run-lines}
use Rattle.mesh_laws.proofs.run_laws.lines_run_one_after_another.Goals as goal

pub returns : goal.returns
returns c = plain_run-lines
