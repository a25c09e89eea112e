use Rattle.mesh_tie.proofs.PrintLemmas.{events_are_printed}
use Rattle.mesh_tie.proofs.alias_laws.events_are_printed.Goals as goal

pub returns : goal.returns
returns c = events_are_printed
