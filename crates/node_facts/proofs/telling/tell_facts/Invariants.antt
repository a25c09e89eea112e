use Rattle.std.proofs.Common.{drop, map}
use Rattle.mesh_messages.specs.LentFacts.{lent_facts}
use Rattle.mesh_model.specs.Acts.FactRows.{fact_line}
use Rattle.node_ground.specs.KnowledgeStands.{place}
use Rattle.node_facts.proofs.Underway.{IsUnderway}
use Rattle.node_facts.proofs.telling.tell_facts.Given as goal

abbrev pub invariant-loop-fact : goal.invariant-loop-fact
invariant-loop-fact g l = IsUnderway g.P.Port.takes g.P.Port.same g.P.Port.over l.initial.port l.port
    (map (fact_line (place l.at) l.type_no) (lent_facts l.facts))
    (map (fact_line (place l.at) l.type_no) (lent_facts (drop l.fact-index l.facts)))
