use Rattle.std.proofs.Common.{refl}
use Rattle.mesh_rows.proofs.WordsOnLiterals.{words_on_literals}
use Rattle.mesh_rows.proofs.word_rows.other_choices_are_not_taken.Goals as goal

pub returns : goal.returns
unfolding words_on_literals
returns c = record { other = refl; upper = refl; empty = refl; alone = refl; option = refl; twice = refl }
