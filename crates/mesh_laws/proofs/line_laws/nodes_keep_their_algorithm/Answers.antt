use Rattle.mesh_laws.proofs.Lines.Choosing.{nodes_keep}
use Rattle.mesh_laws.proofs.line_laws.nodes_keep_their_algorithm.Goals as goal

pub returns : goal.returns
returns c = nodes_keep
