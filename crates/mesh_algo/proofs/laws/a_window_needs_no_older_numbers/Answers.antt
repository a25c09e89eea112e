use Rattle.mesh_laws.proofs.WindowLemmas.{window-cons}
use Rattle.mesh_algo.proofs.laws.a_window_needs_no_older_numbers.Goals as goal

pub returns : goal.returns
returns c = λ number seen. window-cons number seen
