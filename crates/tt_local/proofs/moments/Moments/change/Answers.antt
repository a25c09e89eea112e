use Rattle.std.proofs.Common.{◌≡◌, ℕ, ◌∙◌, Some, sym, subst}
use Rattle.tt_local.specs.Moments.{has_moment, is_moment}
use Rattle.tt_local.proofs.MomentsLemmas.{differs_from, first_moment, is_other, next_moment, not_moved}
use Rattle.tt_local.proofs.moments.Moments.change.Goals as goal

pub returns-then-eq-clause-ok : goal.returns-then-eq-clause-ok
returns-then-eq-clause-ok c =
    let same : c.args.before ≡ Some c.args.now = is_other c.args.before c.args.now (sym c.eq.ensures ∙ c.if-eq.true) in
    not_moved c.args.key (Some c.args.now) c.args.self.now (subst (λ o. (at : ℕ) → has_moment c.args.self.now at c.args.key ≡ is_moment at o) same c.requires.before)

pub returns-in-Some-clause-ok : goal.returns-in-Some-clause-ok
returns-in-Some-clause-ok c =
    next_moment c.args.key c.in-Some.moment c.args.now c.args.self.now c.add.new.self c.remove.new.self
    (differs_from c.args.before c.in-Some.moment c.args.now (sym c.eq.ensures ∙ c.if-eq.false) c.in-Some.is)
    (subst (λ o. (at : ℕ) → has_moment c.args.self.now at c.args.key ≡ is_moment at o) c.in-Some.is c.requires.before)
    c.in_ok-add.ensures.ok c.remove.ensures

pub returns-in_default-clause-ok : goal.returns-in_default-clause-ok
returns-in_default-clause-ok c =
    first_moment c.args.key c.args.now c.args.self.now c.add.new.self
    (subst (λ o. (at : ℕ) → has_moment c.args.self.now at c.args.key ≡ is_moment at o) c.in_default.is c.requires.before)
    c.in_ok-add.ensures.ok
