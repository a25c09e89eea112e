use Rattle.std.proofs.Common.{Err, Option, refl, subst, sym}
use Rattle.std.proofs.lemmas.Result.{err_from_is_err_and}
use Rattle.mesh_model.specs.Acts.FragmentRows.{carried_here}
use Rattle.mesh_model.specs.Knowledge.FactStore.{after_fact_message}
use Rattle.mesh_model.specs.Knowledge.PutTogether.{Carried, fact_carried}
use Rattle.node_ground.specs.KnowledgeStands.{KnowledgeStands, place}
use Rattle.node_ground.specs.Puts.{Puts, TakesAll}
use Rattle.mesh_node.proofs.FragmentLemmas.{another_carried, none_carried, one_carried}
use Rattle.mesh_node.proofs.fragments.whole.Goals as goal

-- ---- no packet
pub returns-in_default-clause-puts : goal.returns-in_default-clause-puts
returns-in_default-clause-puts g c = λ known own stands before owns bridged.
    subst (λ (o : Option Carried). TakesAll g.P.Port.takes g.P.Port.over c.args.port.now (carried_here (g.A.Algo.queries c.args.at.me) known own.mentions own.bridge (place c.args.at) o) c.args.port.now)
    (sym (none_carried c.args.bytes.now c.in_default.field-0 c.in_default.ensures.cause)) refl

pub returns-in_default-clause-noted : goal.returns-in_default-clause-noted
returns-in_default-clause-noted g c = λ known stands before.
    subst (λ (o : Option Carried). KnowledgeStands g.A.Algo.stands c.args.kept.now c.args.at.me (after_fact_message c.args.at.now (fact_carried o) known))
    (sym (none_carried c.args.bytes.now c.in_default.field-0 c.in_default.ensures.cause)) stands

-- ---- a packet of another kind
pub returns-in_default-reach_of_head-clause-puts : goal.returns-in_default-reach_of_head-clause-puts
returns-in_default-reach_of_head-clause-puts g c = λ known own stands before owns bridged.
    subst (λ (o : Option Carried). TakesAll g.P.Port.takes g.P.Port.over c.args.port.now (carried_here (g.A.Algo.queries c.args.at.me) known own.mentions own.bridge (place c.args.at) o) c.args.port.now)
    (sym (another_carried c.args.bytes.now c.in-Ok.head c.in-Ok.tail.now c.in-Ok.field-0-2 c.in-Ok.ensures.ok c.in_default-reach_of_head.ensures)) refl

pub returns-in_default-reach_of_head-clause-noted : goal.returns-in_default-reach_of_head-clause-noted
returns-in_default-reach_of_head-clause-noted g c = λ known stands before.
    subst (λ (o : Option Carried). KnowledgeStands g.A.Algo.stands c.args.kept.now c.args.at.me (after_fact_message c.args.at.now (fact_carried o) known))
    (sym (another_carried c.args.bytes.now c.in-Ok.head c.in-Ok.tail.now c.in-Ok.field-0-2 c.in-Ok.ensures.ok c.in_default-reach_of_head.ensures)) stands

-- ---- a packet for one node
pub returns-in_err-unicast_came-clause-puts : goal.returns-in_err-unicast_came-clause-puts
returns-in_err-unicast_came-clause-puts g c = λ known own stands before owns bridged.
    let p = err_from_is_err_and c.from_residual.result c.from_residual.ensures.1 in
    rw (p.1, p.2)
    (subst (λ (o : Option Carried). Puts g.P.Port.takes g.P.Port.same g.P.Port.over c.args.port.now (carried_here (g.A.Algo.queries c.args.at.me) known own.mentions own.bridge (place c.args.at) o) (Err c.in_err-unicast_came.field-0.0) c.unicast_came.new.port)
    (sym (one_carried c.args.bytes.now c.in-Ok.head c.in-Ok.tail.now c.in-Ok.field-0-2 c.in-Some.ttl c.in-Some.field-0-1 c.in-Ok.ensures.ok c.in-Some.ensures))
    (c.in_err-unicast_came.ensures.puts known own stands before owns bridged))

pub returns-clause-puts : goal.returns-clause-puts
returns-clause-puts g c = λ known own stands before owns bridged.
    subst (λ (o : Option Carried). TakesAll g.P.Port.takes g.P.Port.over c.args.port.now (carried_here (g.A.Algo.queries c.args.at.me) known own.mentions own.bridge (place c.args.at) o) c.unicast_came.new.port)
    (sym (one_carried c.args.bytes.now c.in-Ok.head c.in-Ok.tail.now c.in-Ok.field-0-2 c.in-Some.ttl c.in-Some.field-0-1 c.in-Ok.ensures.ok c.in-Some.ensures))
    (c.in_ok-unicast_came.ensures.puts known own stands before owns bridged)

pub returns-clause-noted : goal.returns-clause-noted
returns-clause-noted g c = λ known stands before.
    subst (λ (o : Option Carried). KnowledgeStands g.A.Algo.stands c.unicast_came.new.kept c.args.at.me (after_fact_message c.args.at.now (fact_carried o) known))
    (sym (one_carried c.args.bytes.now c.in-Ok.head c.in-Ok.tail.now c.in-Ok.field-0-2 c.in-Some.ttl c.in-Some.field-0-1 c.in-Ok.ensures.ok c.in-Some.ensures))
    (c.in_ok-unicast_came.ensures.noted known stands before)
