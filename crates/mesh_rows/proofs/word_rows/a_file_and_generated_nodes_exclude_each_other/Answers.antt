use Rattle.std.proofs.Common.{refl}
use Rattle.mesh_rows.proofs.WordsOnLiterals.{words_on_literals}
use Rattle.mesh_rows.proofs.word_rows.a_file_and_generated_nodes_exclude_each_other.Goals as goal

pub returns : goal.returns
unfolding words_on_literals
returns c = record { file_last = refl; file_first = refl; frames = refl }
