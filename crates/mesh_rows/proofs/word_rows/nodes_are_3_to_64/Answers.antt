use Rattle.std.proofs.Common.{refl}
use Rattle.mesh_rows.proofs.WordsOnLiterals.{words_on_literals}
use Rattle.mesh_rows.proofs.word_rows.nodes_are_3_to_64.Goals as goal

pub returns : goal.returns
unfolding words_on_literals
returns c = record { least = refl; most = refl; zeros = refl; plus = refl; fewer = refl; more = refl; negative = refl; letter = refl; empty = refl }
