use Rattle.std.proofs.Common.{◌≡◌, ◌<◌, nat_eq, ◌∙◌, ap, sym, subst, None, Some, IsSomeAnd, rules, tests}
use Rattle.std.specs.Map.{lookup}
use Rattle.mesh_model.specs.Services.Transactions.{facts_below}
use Rattle.alfred_core.proofs.PartLemmas.{not_whole, not_whole_without, one_more}
use Rattle.alfred_core.proofs.parts.Parts.facts_below.Goals as goal

pub returns-then-is_some_and : goal.returns-then-is_some_and
returns-then-is_some_and c =
    let below : IsSomeAnd c.self.inside.missing (λ number. number < c.args.count) = search (rules, tests) in
    subst (λ parts. None ≡ facts_below parts c.args.count) c.self.view_is
    (sym (not_whole_without c.self.inside.kept.entries c.self.inside.missing c.args.count below c.self.invariant.without))

pub returns-in-None : goal.returns-in-None
returns-in-None c =
    let none : lookup (nat_eq c.loop-number.number-counter) c.self.inside.kept.entries ≡ None = search rules in
    subst (λ parts. None ≡ facts_below parts c.args.count) c.self.view_is
    (sym (not_whole c.self.inside.kept.entries c.loop-number.number-counter c.args.count none c.loop-number-test.true))

pub loop-number-preserved : goal.loop-number-preserved
loop-number-preserved c =
    let found : lookup (nat_eq c.loop-number.number-counter) c.self.inside.kept.entries ≡ Some c.in-Some.part.now = search rules in
    one_more c.self.inside.kept.entries c.loop-number.number-counter c.loop-number.facts c.in-Some.part.now c.loop-number.invariant found
    ∙ ap (λ facts. Some facts) (sym c.in_ok-add_copies-in-Some.ensures)
