-- Named under a signature by `unfolding words_on_literals`, it lets the definitions compute on words that are written out.
use Rattle.std.specs.Prelude.{⊤}
use Rattle.std.specs.Char.{encode_utf8}
use Rattle.std.specs.Str.{chars}
use Rattle.clap.specs.Faults.{defaults_fault, flags_fault, walk_fault}
use Rattle.clap.specs.Walk.{bundle_met, walked}
use Rattle.mesh_model.specs.Run.CommandLine.{choice_of_word, nodes_of_word, words_of}

unfoldable pub words_on_literals : ⊤
unfolding walked bundle_met chars encode_utf8 flags_fault walk_fault defaults_fault choice_of_word nodes_of_word words_of
words_on_literals = tt
