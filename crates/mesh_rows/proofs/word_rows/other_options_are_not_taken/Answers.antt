use Rattle.std.proofs.Common.{refl}
use Rattle.mesh_rows.proofs.WordsOnLiterals.{words_on_literals}
use Rattle.mesh_rows.proofs.word_rows.other_options_are_not_taken.Goals as goal

pub returns : goal.returns
unfolding words_on_literals
returns c = record { help = refl; short_help = refl; version = refl; letter = refl; digit = refl; shortened = refl; file = refl; dashes = refl }
