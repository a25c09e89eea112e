use Rattle.mesh_algo.proofs.WordLemmas.{no_numbers}
use Rattle.mesh_algo.proofs.seq_window.SeqWindow.new.Goals as goal

pub returns : goal.returns
returns c = no_numbers
