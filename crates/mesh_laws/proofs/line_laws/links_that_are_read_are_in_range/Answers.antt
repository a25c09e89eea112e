use Rattle.mesh_laws.proofs.Lines.ReadRange.{read-in-range}
use Rattle.mesh_laws.proofs.line_laws.links_that_are_read_are_in_range.Goals as goal

pub returns : goal.returns
returns c = read-in-range
