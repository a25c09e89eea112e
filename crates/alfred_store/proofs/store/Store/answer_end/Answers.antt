use Rattle.std.proofs.Common.{◌∙◌}
use Rattle.mesh_model.specs.Knowledge.FactStore.{txn_call}
use Rattle.mesh_model.specs.Services.Transactions.{AnEnd}
use Rattle.alfred_store.proofs.StoreLemmas.{answer_is, answer_stands}
use Rattle.alfred_store.proofs.store.Store.answer_end.Goals as goal

pub returns-clause-noted : goal.returns-clause-noted
returns-clause-noted c =
    λ me known stands before.
    answer_stands _ _ _ me (txn_call c.args.now c.args.sender c.args.id (AnEnd c.args.count)) known c.in_ok-txn.txn stands
    (c.in_ok-txn.ensures.answered known.services.answers stands.answers before.answers)
    (c.in_ok-txn.ensures.ok known.services.answers stands.answers before.answers)
    (c.answer_of.ensures.closed known.services.requests stands.requests)

pub returns-clause-told : goal.returns-clause-told
returns-clause-told c =
    λ me known stands before.
    c.answer_of.ensures.told known.services.requests stands.requests
    ∙ answer_is (txn_call c.args.now c.args.sender c.args.id (AnEnd c.args.count)) known c.in_ok-txn.txn
    (c.in_ok-txn.ensures.answered known.services.answers stands.answers before.answers)
