-- What a node stands for once a session of ping or traceroute began.
use Rattle.std.proofs.Common.{ℕ, ◌≤◌, Bool, true, false}
use Rattle.mesh_base.specs.declared.address.Mac.{Mac}
use Rattle.mesh_model.specs.Clients.Log.{Log}
use Rattle.mesh_model.specs.Knowledge.Steps.{after_start, knowledge}
use Rattle.mesh_model.specs.Routes.Queries.{Queries}
use Rattle.mesh_model.specs.Routes.RouteLog.{RouteLog}
use Rattle.node_ground.specs.declared.knowledge.NodeKnowledge.{NodeKnowledge}
use Rattle.mesh_node.specs.declared.node.Node.{Node}
use Rattle.node_ground.specs.KnowledgeStands.{KnowledgeStands}
use Rattle.mesh_node.specs.NodeStands.{KeepsLog, given_session}
use Rattle.node_ground.specs.OwnStands.{with_input}
use Rattle.node_ground.specs.OwnStands.{newest_moment}
use Rattle.mesh_node.proofs.GivenLemmas.{has_session}

-- a session began
pub session_began : {A : Type 0} (stands : A → Mac → RouteLog → Type 0) (queries : Mac → Queries) (node : Node A) (kept : NodeKnowledge A) (me : Mac) (log : Log) (now : ℕ) (target : Mac) (trace : Bool)
    → KeepsLog stands queries node me log → newest_moment log ≤ now → KnowledgeStands stands kept me (after_start (queries me) now target trace (knowledge (queries me) me log))
    → KeepsLog stands queries (record node { kept = kept }) me (with_input (queries me) me log now (given_session target trace))
session_began stands queries node kept me log now target true is late noted = record {
  mac = is.mac;
  kept = noted;
  clients = has_session (queries me) node.locals me log now target true is.clients late;
  bridge = is.bridge;
  rising = (late, is.rising);
  alive = is.alive;
}
session_began stands queries node kept me log now target false is late noted = record {
  mac = is.mac;
  kept = noted;
  clients = has_session (queries me) node.locals me log now target false is.clients late;
  bridge = is.bridge;
  rising = (late, is.rising);
  alive = is.alive;
}
