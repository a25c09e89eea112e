use Rattle.mesh_model.specs.Clients.Lans.{bridge}
use Rattle.mesh_node.proofs.GivenLemmas.{has_attached}
use Rattle.mesh_node.proofs.node.Node.attach.Goals as goal

pub returns-clause-noted : goal.returns-clause-noted
returns-clause-noted g c = λ me log is late. record {
  mac = is.mac;
  kept = is.kept;
  clients = has_attached (g.A.Algo.queries me) c.args.self.now.locals me log c.args.now c.args.lan c.args.gateways.now is.clients late;
  bridge = c.in_ok-attach.ensures.attached me (bridge log) is.bridge;
  rising = (late, is.rising);
  alive = is.alive;
}
