-- How what is kept goes on to stand for what is known, where one part of both is put anew.
use Rattle.mesh_base.specs.declared.address.Mac.{Mac}
use Rattle.mesh_model.specs.Knowledge.Known.{Knowledge}
use Rattle.mesh_model.specs.Knowledge.Served as served
use Rattle.mesh_model.specs.Routes.RouteLog.{RouteLog}
use Rattle.node_ground.specs.declared.knowledge.NodeKnowledge.{NodeKnowledge}
use Rattle.node_ground.specs.declared.services.Services.{Services}
use Rattle.node_ground.specs.KnowledgeStands.{KnowledgeStands}
use Rattle.node_ground.specs.ServicesStand.{ServicesStand}

module _ {A : Type 0} (stands : A → Mac → RouteLog → Type 0) (kept : NodeKnowledge A) (me : Mac) (known : Knowledge) (is : KnowledgeStands stands kept me known) where
  -- the algorithm
  pub with_algo : (algo : A) (routes : RouteLog) → stands algo me routes → KnowledgeStands stands (record kept { algo = algo }) me (record known { routes = routes })
  with_algo algo routes given = record {
    routes = given;
    tables = is.tables;
    marks = is.marks;
    probes = is.probes;
    taken = is.taken;
    parts = is.parts;
    sent = is.sent;
    services = is.services;
  }

  -- the services
  pub with_services : (services : Services) (those : served.Services) → ServicesStand services me those → KnowledgeStands stands (record kept { services = services }) me (record known { services = those })
  with_services services those given = record {
    routes = is.routes;
    tables = is.tables;
    marks = is.marks;
    probes = is.probes;
    taken = is.taken;
    parts = is.parts;
    sent = is.sent;
    services = given;
  }
