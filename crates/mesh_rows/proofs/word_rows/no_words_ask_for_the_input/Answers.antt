use Rattle.std.proofs.Common.{refl}
use Rattle.mesh_rows.proofs.WordsOnLiterals.{words_on_literals}
use Rattle.mesh_rows.proofs.word_rows.no_words_ask_for_the_input.Goals as goal

pub returns : goal.returns
unfolding words_on_literals
returns c = refl
