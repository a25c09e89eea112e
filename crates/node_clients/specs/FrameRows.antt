-- A client frame of a node, and the sighting of its client. `stands` and `queries` are the
-- algorithm's own words. The main words are `Before` and `HasMentioned`.
use Rattle.std.specs.Prelude.{◌≡◌, ℕ, ◌≤◌, ◌++◌, List, None}
use Rattle.mesh_base.specs.declared.address.Mac.{Mac}
use Rattle.mesh_base.specs.declared.client.Key.{Key}
use Rattle.mesh_model.specs.Clients.Limits.{limit_of_mentions}
use Rattle.mesh_model.specs.Clients.Log.{Given, Line, Frame, Dhcp, Log}
use Rattle.mesh_model.specs.Clients.Mentions.{Mention, key_of, mention, mentions, sighted_after}
use Rattle.mesh_model.specs.Commits.History.{history}
use Rattle.mesh_model.specs.Knowledge.Steps.{knowledge}
use Rattle.mesh_model.specs.Packets.Payload.{ClientFrame}
use Rattle.mesh_model.specs.Routes.Queries.{Queries}
use Rattle.mesh_model.specs.Routes.RouteLog.{RouteLog}
use Rattle.node_ground.specs.declared.knowledge.NodeKnowledge.{NodeKnowledge}
use Rattle.node_ground.specs.KnowledgeStands.{KnowledgeStands}
use Rattle.node_ground.specs.OwnStands.{HasClients, newest_moment}
use Rattle.tt_local.specs.Locals.{LocalsStand, LocalsView}

-- the client that a client frame comes from
abbrev pub key_from : ClientFrame → Key
key_from frame = key_of frame.src frame.vid

-- the client that a client frame is for
abbrev pub key_to : ClientFrame → Key
key_to frame = key_of frame.dst frame.vid

-- a client frame, as a line gives it
abbrev pub given_frame : ClientFrame → Given
given_frame frame = Line (Frame frame.src frame.dst frame.vid frame.text)

-- a call for a gateway, as a line gives it
abbrev pub given_call : Key → List ℕ → Given
given_call key text = Line (Dhcp key text)

-- the sighting of a client right after a log
abbrev pub sighting_of : Log → ℕ → Key → List Mention
sighting_of log now key = mention now key (sighted_after log)

-- what is kept stands for what the node of an address knows by a log, and so do its clients, and
-- the next input isn't before the newest
pub record Before {A : Type 0} (stands : A → Mac → RouteLog → Type 0) (queries : Mac → Queries)
    (kept : NodeKnowledge A) (locals : LocalsView) (me : Mac) (log : Log) (now : ℕ) : Type 0 where
  pub known : KnowledgeStands stands kept me (knowledge (queries me) me log)
  pub clients : HasClients locals me log
  pub later : newest_moment log ≤ now

-- the local clients are those of the node of an address by a log and these mentions right after it,
-- which pass no limit
pub record HasMentioned (locals : LocalsView) (me : Mac) (log : Log) (news : List Mention)
    : Type 0 where
  pub since : ℕ
  pub stand : LocalsStand locals (news ++ mentions me log) (history me log) since
  pub settled : since ≤ newest_moment log
  pub within : limit_of_mentions (mentions me log) news ≡ None
