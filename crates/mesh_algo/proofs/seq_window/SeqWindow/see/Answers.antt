use Rattle.std.proofs.Common.{◌∙◌, ap, ◌∷◌, bit_or, sym}
use Rattle.mesh_model.specs.Routes.Numbers.{window}
use Rattle.mesh_algo.specs.Words.{numbers_of}
use Rattle.mesh_algo.proofs.WordLemmas.{see_above, see_near, see_far, word_above, word_near}
use Rattle.mesh_algo.proofs.seq_window.SeqWindow.see.Goals as goal

pub invariant_of-self : goal.invariant_of-self
invariant_of-self c =
    rw c.shifted.ensures (word_above c.self.inside.newest c.self.inside.word c.args.s c.self.invariant c.if-s-self.true)

pub invariant_of-self-then-self-s-lt-WINDOW : goal.invariant_of-self-then-self-s-lt-WINDOW
invariant_of-self-then-self-s-lt-WINDOW c =
    word_near c.self.inside.newest c.self.inside.word c.args.s c.self.invariant c.if-s-self.false c.if-self-s-lt-WINDOW.true

pub returns-then-s-self : goal.returns-then-s-self
returns-then-s-self c =
    ap (λ w. numbers_of c.args.s (bit_or w 1)) c.shifted.ensures
    ∙ see_above c.self.inside.newest c.self.inside.word c.args.s c.self.invariant c.if-s-self.true
    ∙ ap (λ l. window (c.args.s ∷ l)) c.self.view_is

pub returns-then-self-s-lt-WINDOW : goal.returns-then-self-s-lt-WINDOW
returns-then-self-s-lt-WINDOW c =
    see_near c.self.inside.newest c.self.inside.word c.args.s c.self.invariant c.if-s-self.false c.if-self-s-lt-WINDOW.true
    ∙ ap (λ l. window (c.args.s ∷ l)) c.self.view_is

pub returns-else-self-s-lt-WINDOW : goal.returns-else-self-s-lt-WINDOW
returns-else-self-s-lt-WINDOW c =
    sym c.self.view_is
    ∙ see_far c.self.inside.newest c.self.inside.word c.args.s c.self.invariant c.if-self-s-lt-WINDOW.false
    ∙ ap (λ l. window (c.args.s ∷ l)) c.self.view_is
