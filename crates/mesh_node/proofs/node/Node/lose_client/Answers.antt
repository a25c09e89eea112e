use Rattle.mesh_model.specs.Commits.History.{history}
use Rattle.mesh_model.specs.Clients.Mentions.{mentions}
use Rattle.mesh_node.proofs.GivenLemmas.{has_departed}
use Rattle.mesh_node.proofs.node.Node.lose_client.Goals as goal

pub returns-clause-noted : goal.returns-clause-noted
returns-clause-noted g c = λ me log is late. record {
  mac = is.mac;
  kept = is.kept;
  clients = has_departed (g.A.Algo.queries me) c.args.self.now.locals c.gone.new.self me log c.args.now c.args.key is.clients late
      (c.gone.ensures.departed (mentions me log) (history me log) is.clients.since c.args.now is.clients.stand);
  bridge = is.bridge;
  rising = (late, is.rising);
  alive = is.alive;
}
