use Rattle.std.proofs.Common.{◌∙◌, ap}
use Rattle.mesh_model.specs.Routes.Numbers.{has}
use Rattle.mesh_algo.proofs.WordLemmas.{has_above, has_far, has_near}
use Rattle.mesh_algo.proofs.seq_window.SeqWindow.has.Goals.{then-s-self-via-then-s-self, then-s-self-via-else-s-self+then-self-s-ge-WINDOW}
use Rattle.mesh_algo.proofs.seq_window.SeqWindow.has.Goals as goal

pub returns-then-s-self : goal.returns-then-s-self
returns-then-s-self c =
    elim c.then-s-self.branch [
      | then-s-self-via-then-s-self w ↦ has_above c.self.inside.newest c.self.inside.word c.args.s w.if-s-self.true
      | then-s-self-via-else-s-self+then-self-s-ge-WINDOW w ↦ has_far c.self.inside.newest c.self.inside.word c.args.s w.if-self-s-ge-WINDOW.true
    ] ∙ ap (λ l. has c.args.s l) c.self.view_is

pub returns : goal.returns
returns c =
    has_near c.self.inside.newest c.self.inside.word c.args.s c.if-s-self.false c.if-self-s-ge-WINDOW.false
    ∙ ap (λ l. has c.args.s l) c.self.view_is
