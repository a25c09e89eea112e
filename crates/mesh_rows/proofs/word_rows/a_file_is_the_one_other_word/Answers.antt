use Rattle.std.proofs.Common.{refl}
use Rattle.mesh_rows.proofs.WordsOnLiterals.{words_on_literals}
use Rattle.mesh_rows.proofs.word_rows.a_file_is_the_one_other_word.Goals as goal

pub returns : goal.returns
unfolding words_on_literals
returns c = record { word = refl; empty = refl; dash = refl; help = refl; behind = refl; dashes = refl; end = refl; two = refl; behind_two = refl }
