use Rattle.mesh_laws.proofs.KnownLemmas.{full_answer_is_taken}
use Rattle.mesh_laws.proofs.known_laws.the_told_table_is_taken.Goals as goal

pub returns : goal.returns
returns c = full_answer_is_taken
