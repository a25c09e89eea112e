use Rattle.mesh_model.specs.Knowledge.FactStore.{txn_call}
use Rattle.mesh_model.specs.Services.Transactions.{AnEnd}
use Rattle.alfred_store.proofs.StoreLemmas.{push_stands}
use Rattle.alfred_store.proofs.store.Store.push_end.Goals as goal

pub returns-clause-ok : goal.returns-clause-ok
returns-clause-ok c =
    λ me known stands before.
    push_stands _ _ _ me (txn_call c.args.now c.args.sender c.args.id (AnEnd c.args.count)) known c.in_ok-txn.txn stands
    (c.in_ok-txn.ensures.answered known.services.pushes stands.pushes before.pushes)
    (c.in_ok-txn.ensures.ok known.services.pushes stands.pushes before.pushes)
    (c.in_ok-take_whole.ensures me known.services.facts stands.facts)
