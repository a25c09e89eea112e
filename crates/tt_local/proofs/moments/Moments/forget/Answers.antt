use Rattle.std.proofs.Common.{◌≡◌, ℕ, None, subst}
use Rattle.tt_local.specs.Moments.{has_moment, is_moment}
use Rattle.tt_local.proofs.MomentsLemmas.{no_moment, not_moved}
use Rattle.tt_local.proofs.moments.Moments.forget.Goals as goal

pub returns-in-Some : goal.returns-in-Some
returns-in-Some c = record {
  forgotten = no_moment c.args.key c.in-Some.moment c.args.self.now c.remove.new.self
      (subst (λ o. (at : ℕ) → has_moment c.args.self.now at c.args.key ≡ is_moment at o) c.in-Some.is c.requires.before)
      c.remove.ensures;
}

pub returns-in_default : goal.returns-in_default
returns-in_default c = record {
  forgotten = not_moved c.args.key None c.args.self.now
      (subst (λ o. (at : ℕ) → has_moment c.args.self.now at c.args.key ≡ is_moment at o) c.in_default.is c.requires.before);
}
