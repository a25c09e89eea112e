use Rattle.std.proofs.Common.{◌∙◌, option_map, refl, sym}
use Rattle.std.proofs.lemmas.Result.{err_from_is_err_and}
use Rattle.alfred_store.specs.Answers.{answered}
use Rattle.mesh_model.specs.Knowledge.FactStore.{txn_call}
use Rattle.mesh_model.specs.Services.Transactions.{AnEnd, TxnCall}
use Rattle.node_ground.specs.KnowledgeStands.{place}
use Rattle.node_facts.proofs.KeptLemmas.{answer_printed, answered_stands, pushed_stands}
use Rattle.node_facts.proofs.messages.end.Goals as goal

pub returns-then-push-clause-noted : goal.returns-then-push-clause-noted
returns-then-push-clause-noted g c = λ known stands before.
    let a = c.args in
    let taken = sym c.takes.ensures ∙ c.if-not-takes.false in
    let call : TxnCall = txn_call a.at.now a.sender a.transaction.id (AnEnd a.count) in
    pushed_stands g.A.Algo.stands a.kept.now a.at.me known stands a.transaction.push taken call call refl c.push_end.new.self c.if-push.true
    (c.in_ok-push_end.ensures.ok a.at.me known stands.services.store before)

pub returns-in_err-tell_answer-clause-puts : goal.returns-in_err-tell_answer-clause-puts
returns-in_err-tell_answer-clause-puts g c = λ known stands before.
    let p = err_from_is_err_and c.from_residual-in_err-tell_answer.result c.from_residual-in_err-tell_answer.ensures.1 in
    let a = c.args in
    let taken = sym c.takes.ensures ∙ c.if-not-takes.false in
    let call : TxnCall = txn_call a.at.now a.sender a.transaction.id (AnEnd a.count) in
    let printed = answer_printed g.A.Algo.stands a.kept.now a.at.me known stands a.transaction.push taken call call refl (place a.at) (option_map answered c.in_ok-answer.answer) c.if-push.false
    (c.in_ok-answer.ensures.told a.at.me known stands.services.store before) in
    rw (p.1, p.2, sym printed) c.in_err-tell_answer.ensures

pub returns-clause-puts : goal.returns-clause-puts
returns-clause-puts g c = λ known stands before.
    let a = c.args in
    let taken = sym c.takes.ensures ∙ c.if-not-takes.false in
    let call : TxnCall = txn_call a.at.now a.sender a.transaction.id (AnEnd a.count) in
    let printed = answer_printed g.A.Algo.stands a.kept.now a.at.me known stands a.transaction.push taken call call refl (place a.at) (option_map answered c.in_ok-answer.answer) c.if-push.false
    (c.in_ok-answer.ensures.told a.at.me known stands.services.store before) in
    rw (sym printed) c.in_ok-tell_answer.ensures

pub returns-clause-noted : goal.returns-clause-noted
returns-clause-noted g c = λ known stands before.
    let a = c.args in
    let taken = sym c.takes.ensures ∙ c.if-not-takes.false in
    let call : TxnCall = txn_call a.at.now a.sender a.transaction.id (AnEnd a.count) in
    answered_stands g.A.Algo.stands a.kept.now a.at.me known stands a.transaction.push taken call call refl c.answer_end.new.self c.if-push.false
    (c.in_ok-answer.ensures.noted a.at.me known stands.services.store before)
