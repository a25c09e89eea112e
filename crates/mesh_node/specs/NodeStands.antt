-- What a node stands for: the log of the node of an address. What it keeps of the others stands for
-- what it knows by that log, its local clients for the mentions and the commits there, its bridge for
-- the LAN and the claims there, whose moments never fall, it has refused nothing, and it counted its
-- cuts. `stands` is the algorithm's own word. The main word is `NodeStands`.
use Rattle.std.specs.Prelude.{◌≡◌, ◌≤◌, ℕ, Bool, true, false, [], ◌∷◌, ⊤}
use Rattle.mesh_base.specs.declared.address.Mac.{Mac}
use Rattle.mesh_model.specs.declared.service.GroupRow.{GroupRow}
use Rattle.mesh_model.specs.Acts.Choosing.{cuts_by}
use Rattle.mesh_model.specs.Clients.Lans.{bridge}
use Rattle.mesh_model.specs.Clients.Log.{Given, Log}
use Rattle.mesh_model.specs.Clients.Log as log
use Rattle.mesh_model.specs.Clients.Settings as settings
use Rattle.mesh_model.specs.Knowledge.Known.{Knowledge}
use Rattle.mesh_model.specs.Knowledge.Steps.{knowledge}
use Rattle.mesh_model.specs.Routes.Queries.{Queries}
use Rattle.mesh_model.specs.Routes.RouteLog.{RouteLog, MayTick}
use Rattle.node_ground.specs.KnowledgeStands.{KnowledgeStands}
use Rattle.node_ground.specs.OwnStands.{HasClients, newest_moment}
use Rattle.node_lans.specs.BridgeStands.{BridgeStands}
use Rattle.mesh_node.specs.declared.input.Input.{Input}
use Rattle.mesh_node.specs.declared.input.Input.TheVariants.{Tick, Link, Lan, Attach, Frame, Gone, Join, Leave, Arp, Dhcp, Wifi, GwOff, GwServer, GwClient, Mcast, Dat, Frag, Vis, Alfred, Put, Get, Ping, Trace, Reboot}
use Rattle.mesh_node.specs.declared.node.Node.{Node}

-- moments never fall from input to input
abbrev pub IsRising : Log → Type 0
IsRising [] = ⊤
IsRising (entry ∷ older) = (newest_moment older ≤ entry.moment) × IsRising older

-- what the node keeps besides its count of cuts stands for this log of the node of an address
pub record KeepsLog {A : Type 0} (stands : A → Mac → RouteLog → Type 0)
    (queries : Mac → Queries) (node : Node A) (me : Mac) (log : Log) : Type 0 where
  pub mac : node.me ≡ me
  pub kept : KnowledgeStands stands node.kept me (knowledge (queries me) me log)
  pub clients : HasClients node.locals me log
  pub bridge : BridgeStands node.bridge me (bridge log)
  pub rising : IsRising log
  pub alive : node.dead ≡ false

-- the node stands for this log of the node of an address
pub record NodeStands {A : Type 0} (stands : A → Mac → RouteLog → Type 0)
    (queries : Mac → Queries) (node : Node A) (me : Mac) (log : Log) : Type 0 where
  pub keeps : KeepsLog stands queries node me log
  pub cuts : node.cuts ≡ cuts_by (queries me) me log

-- what an input gives a node, where a link frame has this number
abbrev pub given_by : ℕ → Input → Given
given_by number (Tick index) = log.Tick index
given_by number (Link from tp bytes) = log.LinkFrame number from tp bytes.now
given_by number (Lan bytes) = log.LanFrame bytes.now
given_by number (Attach lan gateways) = log.Line (log.Attach lan gateways.now)
given_by number (Frame src dst vid text) = log.Line (log.Frame src dst vid text.now)
given_by number (Gone key) = log.Line (log.Gone key)
given_by number (Join key) = log.Line (log.Join key)
given_by number (Leave key) = log.Line (log.Leave key)
given_by number (Arp mac own_ip asked_ip vid) = log.Line (log.Arp mac own_ip asked_ip vid)
given_by number (Dhcp key text) = log.Line (log.Dhcp key text.now)
given_by number (Wifi on) = log.Line (log.Sets (settings.Wifi on))
given_by number GwOff = log.Line (log.Sets (settings.Gateway settings.NoPart))
given_by number (GwServer down up) = log.Line (log.Sets (settings.Gateway
    (settings.Serves (record { download = down; upload = up }))))
given_by number (GwClient policy) =
    log.Line (log.Sets (settings.Gateway (settings.Chooses policy)))
given_by number (Mcast flags) = log.Line (log.Sets (settings.Multicast flags))
given_by number (Dat on) = log.Line (log.Sets (settings.ArpTable on))
given_by number (Frag size) = log.Line (log.Sets (settings.LongestWhole size))
given_by number (Vis on) = log.Line (log.Sets (settings.Pictures on))
given_by number (Alfred mode) = log.Line (log.Sets (settings.FactStore mode))
given_by number (Put type_no version text) = log.Line (log.Put type_no version text.now)
given_by number (Get type_no) = log.Line (log.Get type_no)
given_by number (Ping target) = log.Line (log.Ping target)
given_by number (Trace target) = log.Line (log.Trace target)
given_by number Reboot = log.Line log.Reboot

-- a ping or, for `trace`, a traceroute begins
abbrev pub given_session : Mac → Bool → Given
given_session target true = log.Line (log.Trace target)
given_session target false = log.Line (log.Ping target)

-- the multicast flags of an originator, with its address
abbrev pub flags_of : GroupRow → Mac × ℕ
flags_of row = (row.orig, row.flags)

-- whether a node refused something before
abbrev pub is_dead : {A : Type 0} → Node A → Bool
is_dead node = node.dead

-- an input may follow what is known: a tick's index follows that of the tick before
abbrev pub MayFollow : Knowledge → Input → Type 0
MayFollow known (Tick index) = MayTick known.routes index
MayFollow known (Link from tp bytes) = ⊤
MayFollow known (Lan bytes) = ⊤
MayFollow known (Attach lan gateways) = ⊤
MayFollow known (Frame src dst vid text) = ⊤
MayFollow known (Gone key) = ⊤
MayFollow known (Join key) = ⊤
MayFollow known (Leave key) = ⊤
MayFollow known (Arp mac own_ip asked_ip vid) = ⊤
MayFollow known (Dhcp key text) = ⊤
MayFollow known (Wifi on) = ⊤
MayFollow known GwOff = ⊤
MayFollow known (GwServer down up) = ⊤
MayFollow known (GwClient policy) = ⊤
MayFollow known (Mcast flags) = ⊤
MayFollow known (Dat on) = ⊤
MayFollow known (Frag size) = ⊤
MayFollow known (Vis on) = ⊤
MayFollow known (Alfred mode) = ⊤
MayFollow known (Put type_no version text) = ⊤
MayFollow known (Get type_no) = ⊤
MayFollow known (Ping target) = ⊤
MayFollow known (Trace target) = ⊤
MayFollow known Reboot = ⊤

-- an input may come to a node at a moment: the node stands for some log, and no input of it is
-- later
pub record MayTake {A : Type 0} (stands : A → Mac → RouteLog → Type 0)
    (queries : Mac → Queries) (node : Node A) (now : ℕ) (input : Input) : Type 0 where
  pub me : Mac
  pub log : Log
  pub stand : NodeStands stands queries node me log
  pub later : newest_moment log ≤ now
  pub follows : MayFollow (knowledge (queries me) me log) input
