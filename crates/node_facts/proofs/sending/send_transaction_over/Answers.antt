use Rattle.std.proofs.Common.{◌≡◌, ◌∙◌, List, ◌∷◌, Err, Ok, rules, subst}
use Rattle.std.proofs.lemmas.Result.{err_from_is_err_and}
use Rattle.mesh_messages.specs.LentFacts.{lent_facts}
use Rattle.mesh_messages.specs.Parts.{seen_part}
use Rattle.mesh_model.specs.declared.act.Act.{Act}
use Rattle.mesh_model.specs.Services.Parts.{part_message, parts_of}
use Rattle.mesh_model.specs.Services.Transactions.{Part}
use Rattle.node_facts.specs.Messages.{message_over}
use Rattle.node_facts.proofs.SendLemmas.{end_goes, left_of}
use Rattle.node_facts.proofs.Underway.{IsUnderway, stops}
use Rattle.node_ground.specs.KnowledgeStands.{place}
use Rattle.node_facts.proofs.sending.send_transaction_over.Goals as goal

pub returns-in_err-send_part : goal.returns-in_err-send_part
returns-in_err-send_part g c =
    let p = err_from_is_err_and c.from_residual.result c.from_residual.ensures.1 in
    let a = c.args in
    let left : List Part → List Act = left_of a.next (place a.at) a.dst a.transaction (lent_facts a.facts.now) in
    let whole = left (parts_of (lent_facts a.facts.now)) in
    let next : c.loop-part.part-iterator ≡ seen_part c.in-Some.part ∷ c.next.new.self = search rules in
    let way = subst (λ rest. IsUnderway g.P.Port.takes g.P.Port.same g.P.Port.over a.port.now c.loop-part.port whole (left rest)) next c.loop-part.invariant in
    rw (p.1, p.2) (stops g.P.Port.takes g.P.Port.same g.P.Port.over a.port.now c.loop-part.port c.send_part.new.port whole (left c.next.new.self)
    (message_over a.next (place a.at) a.dst (part_message a.transaction.push a.transaction.id (seen_part c.in-Some.part))) c.in_err-send_part.field-0.0 way c.in_err-send_part.ensures)

pub returns-in_err-send_over : goal.returns-in_err-send_over
returns-in_err-send_over g c =
    let p = err_from_is_err_and c.from_residual-in_err-send_over.result c.from_residual-in_err-send_over.ensures.1 in
    let a = c.args in
    rw (p.1, p.2) (end_goes g.P.Port.takes g.P.Port.same g.P.Port.over a.next (place a.at) a.dst a.transaction (lent_facts a.facts.now) a.port.now c.loop-part.port c.send_over.new.port
    c.loop-part.part-iterator c.part_count.result c.as_slice.result.now (Err c.in_err-send_over.field-0.0) c.loop-part.invariant (search rules) c.part_count.ensures
    (c.as_slice.ensures ∙ c.end_bytes-end.ensures) c.in_err-send_over.ensures)

pub returns : goal.returns
returns g c =
    let a = c.args in
    end_goes g.P.Port.takes g.P.Port.same g.P.Port.over a.next (place a.at) a.dst a.transaction (lent_facts a.facts.now) a.port.now c.loop-part.port c.send_over.new.port
    c.loop-part.part-iterator c.part_count.result c.as_slice.result.now (Ok tt) c.loop-part.invariant (search rules) c.part_count.ensures
    (c.as_slice.ensures ∙ c.end_bytes-end.ensures) c.in_ok-send_over.ensures
