use Rattle.std.proofs.Common.{◌≡◌, ◌∷◌, ◌+◌, Err, drop, map, subst, arith}
use Rattle.std.proofs.lemmas.Grind.{common_steps}
use Rattle.std.proofs.lemmas.Result.{err_from_is_err_and}
use Rattle.mesh_messages.specs.LentFacts.{lent_facts}
use Rattle.mesh_model.specs.Acts.FactRows.{fact_line}
use Rattle.node_ground.specs.KnowledgeStands.{place}
use Rattle.node_ground.specs.Puts.{Puts}
use Rattle.node_facts.proofs.ListLemmas.{told_each}
use Rattle.node_facts.proofs.Underway.{IsUnderway, stops}
use Rattle.node_facts.proofs.telling.tell_facts.Goals as goal

pub returns-in_err-tell_fact : goal.returns-in_err-tell_fact
returns-in_err-tell_fact g c =
    let p = err_from_is_err_and c.from_residual-in_err-tell_fact.result c.from_residual-in_err-tell_fact.ensures.1 in
    let a = c.args in
    let facts = a.facts.now in
    let line = fact_line (place a.at) a.type_no in
    let next : drop c.loop-fact.fact-index facts ≡ c.fact-item.result ∷ drop (c.loop-fact.fact-index + 1) facts = grind (arith, common_steps) in
    let way = subst (λ rest. IsUnderway g.P.Port.takes g.P.Port.same g.P.Port.over a.port.now c.loop-fact.port (map line (lent_facts facts)) (map line (lent_facts rest))) next c.loop-fact.invariant in
    rw (p.1, p.2) (subst (λ acts. Puts g.P.Port.takes g.P.Port.same g.P.Port.over a.port.now acts (Err c.in_err-tell_fact.field-0.0) c.tell_fact.new.port)
    (told_each (place a.at) a.type_no (lent_facts facts) (grind (arith, common_steps)))
    (stops g.P.Port.takes g.P.Port.same g.P.Port.over a.port.now c.loop-fact.port c.tell_fact.new.port (map line (lent_facts facts)) (map line (lent_facts (drop (c.loop-fact.fact-index + 1) facts)))
    (line c.fact-item.result.now) c.in_err-tell_fact.field-0.0 way c.in_err-tell_fact.ensures))
