use Rattle.std.proofs.Common.{◌∙◌, List, ap, option_map, sym}
use Rattle.std.proofs.lemmas.Result.{err_from_is_err_and}
use Rattle.alfred_store.specs.Answers.{answered}
use Rattle.mesh_model.specs.declared.service.Fact.{Fact}
use Rattle.mesh_model.specs.Knowledge.FactStore.{txn_call}
use Rattle.mesh_model.specs.Services.Transactions.{APart, TxnCall}
use Rattle.node_ground.specs.KnowledgeStands.{place}
use Rattle.node_facts.proofs.KeptLemmas.{answer_printed, answered_stands, pushed_stands}
use Rattle.node_facts.proofs.messages.part.Goals as goal

pub returns-then-push-clause-noted : goal.returns-then-push-clause-noted
returns-then-push-clause-noted g c = λ known stands before.
    let a = c.args in
    let taken = sym c.takes.ensures ∙ c.if-not-takes.false in
    let call : List Fact → TxnCall = λ facts. txn_call a.at.now a.sender a.transaction.id (APart a.number facts) in
    pushed_stands g.A.Algo.stands a.kept.now a.at.me known stands a.transaction.push taken (call c.in_ok-facts.facts) _ (ap call c.in_ok-facts.ensures) c.push_part.new.self c.if-push.true
    (c.in_ok-push_part.ensures.ok a.at.me known stands.services.store before)

pub returns-in_err-tell_answer-clause-puts : goal.returns-in_err-tell_answer-clause-puts
returns-in_err-tell_answer-clause-puts g c = λ known stands before.
    let p = err_from_is_err_and c.from_residual-in_err-tell_answer.result c.from_residual-in_err-tell_answer.ensures.1 in
    let a = c.args in
    let taken = sym c.takes.ensures ∙ c.if-not-takes.false in
    let call : List Fact → TxnCall = λ facts. txn_call a.at.now a.sender a.transaction.id (APart a.number facts) in
    let printed = answer_printed g.A.Algo.stands a.kept.now a.at.me known stands a.transaction.push taken (call c.in_ok-facts.facts) _ (ap call c.in_ok-facts.ensures) (place a.at) (option_map answered c.in_ok-answer.answer) c.if-push.false
    (c.in_ok-answer.ensures.told a.at.me known stands.services.store before) in
    rw (p.1, p.2, sym printed) c.in_err-tell_answer.ensures

pub returns-clause-puts : goal.returns-clause-puts
returns-clause-puts g c = λ known stands before.
    let a = c.args in
    let taken = sym c.takes.ensures ∙ c.if-not-takes.false in
    let call : List Fact → TxnCall = λ facts. txn_call a.at.now a.sender a.transaction.id (APart a.number facts) in
    let printed = answer_printed g.A.Algo.stands a.kept.now a.at.me known stands a.transaction.push taken (call c.in_ok-facts.facts) _ (ap call c.in_ok-facts.ensures) (place a.at) (option_map answered c.in_ok-answer.answer) c.if-push.false
    (c.in_ok-answer.ensures.told a.at.me known stands.services.store before) in
    rw (sym printed) c.in_ok-tell_answer.ensures

pub returns-clause-noted : goal.returns-clause-noted
returns-clause-noted g c = λ known stands before.
    let a = c.args in
    let taken = sym c.takes.ensures ∙ c.if-not-takes.false in
    let call : List Fact → TxnCall = λ facts. txn_call a.at.now a.sender a.transaction.id (APart a.number facts) in
    answered_stands g.A.Algo.stands a.kept.now a.at.me known stands a.transaction.push taken (call c.in_ok-facts.facts) _ (ap call c.in_ok-facts.ensures) c.answer_part.new.self c.if-push.false
    (c.in_ok-answer.ensures.noted a.at.me known stands.services.store before)
