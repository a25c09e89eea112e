use Rattle.std.proofs.Common.{refl}
use Rattle.mesh_rows.proofs.WordsOnLiterals.{words_on_literals}
use Rattle.mesh_rows.proofs.word_rows.frames_are_chosen_by_their_word.Goals as goal

pub returns : goal.returns
unfolding words_on_literals
returns c = record { word = refl; joined = refl; behind = refl; hidden = refl; route = refl }
