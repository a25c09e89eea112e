use Rattle.std.proofs.Common.{refl}
use Rattle.node_ground.proofs.knowledge.NodeKnowledge.restart.Goals as goal

pub returns : goal.returns
returns g c = λ known is. record {
  routes = c.restart.ensures c.args.me known.routes is.routes;
  tables = c.new.ensures;
  marks = c.new-2.ensures;
  probes = c.new-3.ensures;
  taken = c.new-4.ensures;
  parts = c.new-5.ensures;
  sent = refl;
  services = c.restart-2.ensures known.services is.services;
}
