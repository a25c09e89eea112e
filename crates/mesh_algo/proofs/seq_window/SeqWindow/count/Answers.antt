use Rattle.std.proofs.Common.{◌∙◌, ap, length}
use Rattle.mesh_algo.proofs.WordLemmas.{count_numbers}
use Rattle.mesh_algo.proofs.seq_window.SeqWindow.count.Goals as goal

pub returns : goal.returns
returns c =
    count_numbers c.self.inside.newest c.self.inside.word c.self.invariant ∙ ap (λ l. length l) c.self.view_is
