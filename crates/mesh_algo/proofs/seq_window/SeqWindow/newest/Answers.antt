use Rattle.std.proofs.Common.{◌∙◌, ap}
use Rattle.mesh_algo.specs.Words.{newest_of}
use Rattle.mesh_algo.proofs.WordLemmas.{newest_where_zero, newest_where_filled}
use Rattle.mesh_algo.proofs.seq_window.SeqWindow.newest.Goals as goal

pub returns-then-self-eq0 : goal.returns-then-self-eq0
returns-then-self-eq0 c =
    newest_where_zero c.self.inside.newest c.self.inside.word c.self.invariant c.if-self-eq0.true
    ∙ ap (λ l. newest_of l) c.self.view_is

pub returns-else-self-eq0 : goal.returns-else-self-eq0
returns-else-self-eq0 c =
    newest_where_filled c.self.inside.newest c.self.inside.word c.self.invariant c.if-self-eq0.false
    ∙ ap (λ l. newest_of l) c.self.view_is
