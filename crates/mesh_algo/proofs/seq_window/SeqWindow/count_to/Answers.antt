use Rattle.std.proofs.Common.{◌∙◌, ap, max, length}
use Rattle.std.specs.Int.RustNames.{count_ones}
use Rattle.mesh_model.specs.Routes.Numbers.{greatest, seen_among, window_length}
use Rattle.mesh_algo.specs.Words.{shifted_word}
use Rattle.mesh_algo.proofs.WordLemmas.{count_shifted}
use Rattle.mesh_algo.proofs.seq_window.SeqWindow.count_to.Goals as goal

pub returns-clause-counted : goal.returns-clause-counted
returns-clause-counted c =
    ap (λ w. count_ones w) (c.shifted.ensures ∙ ap (λ by. shifted_word c.self.inside.word by) c.saturating_sub.ensures)
    ∙ count_shifted c.self.inside.newest c.self.inside.word c.args.top c.self.invariant
    ∙ ap (λ l. length (seen_among (max c.args.top (greatest l)) window_length l)) c.self.view_is
