use Rattle.mesh_laws.proofs.PartLemmas.{parts_are_taken}
use Rattle.mesh_laws.proofs.known_laws.the_parts_of_the_told_table_are_taken.Goals as goal

pub returns : goal.returns
returns c = parts_are_taken
