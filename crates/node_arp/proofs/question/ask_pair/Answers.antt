use Rattle.std.proofs.Common.{◌≡◌, ◌∙◌, Err, Ok, length, arith, rules, sym}
use Rattle.std.proofs.lemmas.Bool.{eqb-false}
use Rattle.std.proofs.lemmas.Result.{err_from_is_err_and}
use Rattle.mesh_messages.specs.Arp.{seen_arp}
use Rattle.mesh_model.specs.Knowledge.Pairs.{with_ask}
use Rattle.mesh_model.specs.Services.ArpTable.{AskedFor}
use Rattle.node_ground.specs.KnowledgeStands.{place}
use Rattle.node_arp.proofs.QuestionLemmas.{asked_puts}
use Rattle.node_arp.proofs.question.ask_pair.Goals as goal

pub returns-in_err-send_message-clause-puts : goal.returns-in_err-send_message-clause-puts
returns-in_err-send_message-clause-puts g c = λ known stands.
    let p = err_from_is_err_and c.from_residual-in_err-send_message.result c.from_residual-in_err-send_message.ensures.1 in
    let asked = c.args.asked in
    let nodes = c.in_ok-keepers.keepers in
    let some : length nodes.items ≡ 0 → ⊥ = λ none. eqb-false nodes.len 0 (sym c.is_empty.ensures ∙ c.if-is_empty.false) (omega (arith, nodes.ok.0, none)) in
    rw (p.1, p.2) (asked_puts g.P.Port.takes g.P.Port.same g.P.Port.over (g.A.Algo.queries c.args.at.me) known (place c.args.at) asked.mac asked.own_ip asked.asked_ip asked.vid
    nodes.items c.as_slice.result.now (seen_arp c.message-message.result) c.args.port.now c.send_message.new.port (Err c.in_err-send_message.field-0.0)
    (sym (c.known_address.ensures c.args.at.me known stands) ∙ search rules) (c.in_ok-keepers.ensures known stands) some c.as_slice.ensures.value c.message-message.ensures
    (c.in_err-send_message.ensures (with_ask (AskedFor asked.asked_ip asked.vid) known) (c.in_ok-ask.ensures.ok c.args.at.me known stands)))

pub returns-clause-puts : goal.returns-clause-puts
returns-clause-puts g c = λ known stands.
    let asked = c.args.asked in
    let nodes = c.in_ok-keepers.keepers in
    let some : length nodes.items ≡ 0 → ⊥ = λ none. eqb-false nodes.len 0 (sym c.is_empty.ensures ∙ c.if-is_empty.false) (omega (arith, nodes.ok.0, none)) in
    asked_puts g.P.Port.takes g.P.Port.same g.P.Port.over (g.A.Algo.queries c.args.at.me) known (place c.args.at) asked.mac asked.own_ip asked.asked_ip asked.vid
    nodes.items c.as_slice.result.now (seen_arp c.message-message.result) c.args.port.now c.send_message.new.port (Ok tt)
    (sym (c.known_address.ensures c.args.at.me known stands) ∙ search rules) (c.in_ok-keepers.ensures known stands) some c.as_slice.ensures.value c.message-message.ensures
    (c.in_ok-send_message.ensures (with_ask (AskedFor asked.asked_ip asked.vid) known) (c.in_ok-ask.ensures.ok c.args.at.me known stands))
