use Rattle.mesh_messages.specs.LentFacts.{lent_facts}
use Rattle.mesh_model.specs.Services.Parts.{parts_of}
use Rattle.node_ground.specs.KnowledgeStands.{place}
use Rattle.node_facts.proofs.SendLemmas.{left_of}
use Rattle.node_facts.proofs.Underway.{IsUnderway}
use Rattle.node_facts.proofs.sending.send_transaction_over.Given as goal

abbrev pub invariant-loop-part : goal.invariant-loop-part
invariant-loop-part g l = IsUnderway g.P.Port.takes g.P.Port.same g.P.Port.over l.initial.port l.port
    (left_of l.next (place l.at) l.dst l.transaction (lent_facts l.fn.facts) (parts_of (lent_facts l.fn.facts)))
    (left_of l.next (place l.at) l.dst l.transaction (lent_facts l.fn.facts) l.part-iterator)
