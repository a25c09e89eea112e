-- How what a node keeps of the others stands for what it knows of them: the algorithm for what it
-- was given, the tables for what came for each, the marks for the calls on them, the sessions
-- for the calls of probes, the windows for the broadcasts that were taken, the assemblies for the
-- parts that came, the count of the broadcasts that were sent, modulo 2^32, and the services for
-- what was offered, chosen and kept of the fact store. `stands` is the algorithm's own word. The
-- main word is `KnowledgeStands`.
use Rattle.std.specs.Prelude.{◌≡◌, ◌%◌, ◌^◌, ℕ}
use Rattle.mesh_base.specs.declared.address.Mac.{Mac}
use Rattle.mesh_model.specs.Acts.BridgeRows.{Place}
use Rattle.mesh_model.specs.Knowledge.Known.{Knowledge}
use Rattle.mesh_model.specs.Knowledge.Steps.{Coming}
use Rattle.mesh_model.specs.Routes.RouteLog.{RouteLog}
use Rattle.mesh_frag.specs.Frags.{FragsStand}
use Rattle.mesh_icmp.specs.Sessions.{StandsFor as SessionsStand}
use Rattle.node_ground.specs.BroadcastsStand.{BroadcastsStand}
use Rattle.node_ground.specs.ServicesStand.{ServicesStand}
use Rattle.node_ground.specs.declared.coming.Coming as arrived
use Rattle.node_ground.specs.declared.place.Place as here
use Rattle.node_ground.specs.declared.knowledge.NodeKnowledge.{NodeKnowledge}
use Rattle.tt_global.specs.Globals.{GlobalsStand}
use Rattle.tt_sync.specs.Sync.{StandsFor}

-- what is kept stands for what the node of an address knows
pub record KnowledgeStands {A : Type 0} (stands : A → Mac → RouteLog → Type 0)
    (kept : NodeKnowledge A) (me : Mac) (known : Knowledge) : Type 0 where
  pub routes : stands kept.algo me known.routes
  pub tables : GlobalsStand kept.globals known.tables
  pub marks : StandsFor kept.sync known.marks
  pub probes : SessionsStand kept.sessions known.probes
  pub taken : BroadcastsStand kept.broadcasts known.taken
  pub parts : FragsStand kept.frags known.parts
  pub sent : kept.sent ≡ known.sent % 2 ^ 32
  pub services : ServicesStand kept.services me known.services

-- how a packet came, in the link frame of a number
abbrev pub coming : arrived.Coming → ℕ → Coming
coming came number =
    record { now = came.now; from = came.from; throughput = came.tp; number = number }

-- where and when something is
abbrev pub place : here.Place → Place
place at = record { me = at.me; now = at.now }
