use Rattle.mesh_laws.proofs.RunLemmas.{after_lines-halted}
use Rattle.mesh_laws.proofs.run_laws.a_halt_stays.Goals as goal

pub returns : goal.returns
returns c = after_lines-halted
