use Rattle.mesh_tie.proofs.LineReach.{plain_runs_are_reachable}
use Rattle.mesh_tie.proofs.run_laws.plain_runs_are_reachable.Goals as goal

pub returns : goal.returns
returns c = plain_runs_are_reachable
