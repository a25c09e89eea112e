use Rattle.std.proofs.Common.{◌∙◌, nat_eq, ap, sym, subst, arith}
use Rattle.std.specs.List.{list_any}
use Rattle.tt_local.specs.AliasSearch.{AreAliasesAt}
use Rattle.tt_local.proofs.AliasLemmas.{passed_any, passed_by}
use Rattle.tt_local.proofs.NumberedLemmas.{number_made}
use Rattle.tt_local.proofs.journal.Journal.is_alias.Goals as goal

pub returns-then-has-clause-answer : goal.returns-then-has-clause-answer
returns-then-has-clause-answer c = λ history stands byte table passed.
    let twin = c.twin_at-twin.result in
    let any = ap (list_any (nat_eq twin)) (sym c.as_slice.ensures.value) ∙ sym c.has.ensures ∙ c.if-has.true in
    passed_any history.commits c.args.number twin c.args.passed.now.items passed any c.args.earlier byte (c.twin_at-twin.ensures history stands)

pub returns-clause-passed : goal.returns-clause-passed
returns-clause-passed c = λ history stands byte table passed.
    let made = c.requires.made in
    let below = c.requires.earlier in
    let there = number_made c.args.self.now history stands c.args.earlier (omega (arith, made, below)) in
    let are = subst (λ b. AreAliasesAt b c.args.number c.args.earlier history.commits) c.if-branch.false (c.in_ok-are_aliases.ensures history stands byte table) in
    c.in_ok-pass.ensures c.args.number history.commits passed
    (passed_by history.commits c.args.number c.args.earlier c.twin_at-twin.result there.0 there.1 byte (c.twin_at-twin.ensures history stands) are)
