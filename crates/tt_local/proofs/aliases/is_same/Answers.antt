use Rattle.std.proofs.Common.{◌≡◌, sym, subst}
use Rattle.std.specs.Bool.{Decides}
use Rattle.tt_local.proofs.AliasLemmas.{tables_decide}
use Rattle.tt_local.proofs.aliases.is_same.Goals as goal

pub returns : goal.returns
returns c = subst (λ b. Decides b (c.args.one.now ≡ c.args.other.now)) (sym c.eq.ensures) (tables_decide c.args.one.now c.args.other.now)
