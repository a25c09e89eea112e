use Rattle.std.proofs.Common.{subst, sym}
use Rattle.mesh_model.specs.Knowledge.FactStore.{after_put}
use Rattle.mesh_model.specs.Knowledge.Steps.{knowledge}
use Rattle.node_ground.specs.KnowledgeStands.{KnowledgeStands}
use Rattle.mesh_node.proofs.GivenLemmas.{has_put}
use Rattle.mesh_node.proofs.node.Node.put_fact.Goals as goal

pub returns-clause-noted : goal.returns-clause-noted
returns-clause-noted g c = λ me log is late.
    let known = knowledge (g.A.Algo.queries me) me log in
    record {
      mac = is.mac;
      kept = subst (λ m. KnowledgeStands g.A.Algo.stands c.put.new.kept m (after_put m c.args.now c.args.type_no c.args.version c.args.text.now known)) is.mac
          (c.in_ok-put.ensures.ok known (subst (λ m. KnowledgeStands g.A.Algo.stands c.args.self.now.kept m known) (sym is.mac) is.kept));
      clients = has_put (g.A.Algo.queries me) c.args.self.now.locals me log c.args.now c.args.type_no c.args.version c.args.text.now is.clients late;
      bridge = is.bridge;
      rising = (late, is.rising);
      alive = is.alive;
    }
