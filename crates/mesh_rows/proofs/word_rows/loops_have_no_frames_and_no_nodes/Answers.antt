use Rattle.std.proofs.Common.{refl}
use Rattle.mesh_rows.proofs.WordsOnLiterals.{words_on_literals}
use Rattle.mesh_rows.proofs.word_rows.loops_have_no_frames_and_no_nodes.Goals as goal

pub returns-clause-frames : goal.returns-clause-frames
unfolding words_on_literals
returns-clause-frames c = refl

pub returns-clause-frames_first : goal.returns-clause-frames_first
unfolding words_on_literals
returns-clause-frames_first c = refl

pub returns-clause-nodes : goal.returns-clause-nodes
unfolding words_on_literals
returns-clause-nodes c = refl

pub returns-clause-all : goal.returns-clause-all
unfolding words_on_literals
returns-clause-all c = refl
