use Rattle.std.proofs.Common.{◌≡◌, ◌++◌, [], ◌∷◌, sym, subst, rules}
use Rattle.tt_local.specs.AliasSearch.{ArePassed}
use Rattle.tt_local.proofs.AliasLemmas.{passed_more}
use Rattle.tt_local.proofs.aliases.pass.Goals as goal

pub returns-in_ok-push : goal.returns-in_ok-push
returns-in_ok-push c = λ number commits passed is.
    let items : c.push.new.self.items ≡ c.args.passed.now.items ++ c.args.twin ∷ [] = search rules in
    subst (λ twins. ArePassed number twins commits) (sym items) (passed_more commits number c.args.twin c.args.passed.now.items passed is)
