use Rattle.mesh_laws.proofs.MachineLemmas.{agreed_hold_the_told}
use Rattle.mesh_laws.proofs.machine_laws.agreed_tables_are_the_told.Goals as goal

pub returns : goal.returns
returns c = agreed_hold_the_told
