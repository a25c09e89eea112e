use Rattle.std.proofs.Common.{◌≡◌, ◌<◌, ◌∙◌, [], ap, length, refl, sym, arith}
use Rattle.std.proofs.lemmas.Grind.{common_steps}
use Rattle.std.proofs.lemmas.Result.{err_from_is_err_and}
use Rattle.mesh_messages.specs.LentFacts.{lent_facts}
use Rattle.node_ground.specs.KnowledgeStands.{place}
use Rattle.node_facts.proofs.RoundLemmas.{pushed_each, pushes_each}
use Rattle.node_facts.proofs.rounds.push_shared.Goals as goal

pub returns-then-is_empty-clause-puts : goal.returns-then-is_empty-clause-puts
returns-then-is_empty-clause-puts g c = λ known stands.
    let none : c.in_ok-facts.facts.items ≡ [] = grind (arith, common_steps) in
    let facts = ap lent_facts (sym none) ∙ c.in_ok-facts.ensures c.args.at.me known stands.services.store in
    rw (sym facts) refl

pub returns-then-is_empty-clause-count : goal.returns-then-is_empty-clause-count
returns-then-is_empty-clause-count g c = λ known stands.
    let none : c.in_ok-facts.facts.items ≡ [] = grind (arith, common_steps) in
    let facts = ap lent_facts (sym none) ∙ c.in_ok-facts.ensures c.args.at.me known stands.services.store in
    rw (sym facts) refl

pub returns-in_err-push_to-clause-puts : goal.returns-in_err-push_to-clause-puts
returns-in_err-push_to-clause-puts g c = λ known stands.
    let p = err_from_is_err_and c.from_residual-in_err-push_to.result c.from_residual-in_err-push_to.ensures.1 in
    let some : 0 < length (lent_facts c.as_slice.result.now) = grind (arith, common_steps) in
    let facts = ap lent_facts c.as_slice.ensures.value ∙ c.in_ok-facts.ensures c.args.at.me known stands.services.store in
    rw (p.1, p.2, sym facts, sym (pushed_each (g.A.Algo.queries c.args.at.me) known (place c.args.at) (lent_facts c.as_slice.result.now) c.args.nodes.now some))
    (c.in_err-push_to.ensures known known.services.ids stands stands.services.store.ids)

pub returns-clause-puts : goal.returns-clause-puts
returns-clause-puts g c = λ known stands.
    let some : 0 < length (lent_facts c.as_slice.result.now) = grind (arith, common_steps) in
    let facts = ap lent_facts c.as_slice.ensures.value ∙ c.in_ok-facts.ensures c.args.at.me known stands.services.store in
    rw (sym facts, sym (pushed_each (g.A.Algo.queries c.args.at.me) known (place c.args.at) (lent_facts c.as_slice.result.now) c.args.nodes.now some))
    (c.in_ok-push_to.ensures known known.services.ids stands stands.services.store.ids)

pub returns-clause-count : goal.returns-clause-count
returns-clause-count g c = λ known stands.
    let some : 0 < length (lent_facts c.as_slice.result.now) = grind (arith, common_steps) in
    let facts = ap lent_facts c.as_slice.ensures.value ∙ c.in_ok-facts.ensures c.args.at.me known stands.services.store in
    rw (sym facts) (pushes_each (lent_facts c.as_slice.result.now) c.args.nodes.now some)
