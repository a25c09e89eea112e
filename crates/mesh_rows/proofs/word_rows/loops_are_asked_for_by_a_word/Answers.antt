use Rattle.std.proofs.Common.{refl}
use Rattle.mesh_rows.proofs.WordsOnLiterals.{words_on_literals}
use Rattle.mesh_rows.proofs.word_rows.loops_are_asked_for_by_a_word.Goals as goal

pub returns-clause-alone : goal.returns-clause-alone
unfolding words_on_literals
returns-clause-alone c = refl

pub returns-clause-file : goal.returns-clause-file
unfolding words_on_literals
returns-clause-file c = refl

pub returns-clause-behind : goal.returns-clause-behind
unfolding words_on_literals
returns-clause-behind c = refl

pub returns-clause-dashes : goal.returns-clause-dashes
unfolding words_on_literals
returns-clause-dashes c = refl

pub returns-clause-value : goal.returns-clause-value
unfolding words_on_literals
returns-clause-value c = refl

pub returns-clause-true_value : goal.returns-clause-true_value
unfolding words_on_literals
returns-clause-true_value c = refl

pub returns-clause-twice : goal.returns-clause-twice
unfolding words_on_literals
returns-clause-twice c = refl
