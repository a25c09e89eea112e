use Rattle.std.proofs.Common.{refl}
use Rattle.mesh_model.specs.Knowledge.FactStore.{after_put}
use Rattle.node_facts.proofs.KeptLemmas.{stands_with}
use Rattle.node_facts.proofs.asking.put.Goals as goal

pub returns-clause-ok : goal.returns-clause-ok
returns-clause-ok g c = λ known is.
    stands_with g.A.Algo.stands c.args.kept.now c.put.new.self c.args.at.me known
    (after_put c.args.at.me c.args.at.now c.args.type_no c.args.version c.args.text.now known) refl is
    (c.in_ok-put.ensures.ok c.args.at.me known is.services.store)
