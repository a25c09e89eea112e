use Rattle.mesh_tie.proofs.TellReading.{read_is_tellable}
use Rattle.mesh_tie.proofs.run_laws.lines_are_tellable.Goals as goal

pub returns : goal.returns
returns c = read_is_tellable
