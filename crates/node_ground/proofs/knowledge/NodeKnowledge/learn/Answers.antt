use Rattle.node_ground.proofs.knowledge.NodeKnowledge.learn.Goals as goal

pub returns-clause-ok : goal.returns-clause-ok
returns-clause-ok g c = λ me known stands. record {
  routes = stands.routes;
  tables = stands.tables;
  marks = stands.marks;
  probes = stands.probes;
  taken = stands.taken;
  parts = stands.parts;
  sent = stands.sent;
  services = record {
    settings = stands.services.settings;
    offers = stands.services.offers;
    choice = stands.services.choice;
    cache = c.in_ok-learn.ensures.ok known.services.learned stands.services.cache;
    asks = stands.services.asks;
    store = stands.services.store;
  };
}
