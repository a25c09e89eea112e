-- The rows of the acts: what a node puts at a moment for a tick, at a reboot, and for each kind of
-- packet. The packets are whole ones, however long. The main words are `tick_acts`, `reboot_acts`
-- and `packet_acts`.
use Rattle.std.specs.Prelude.{ℕ, ◌-◌, ◌==◌, List, [], ◌∷◌, ◌++◌, length, Option, Some, None, if◌then◌else◌}
use Rattle.mesh_base.specs.declared.address.Mac.{Mac}
use Rattle.mesh_base.specs.declared.event.Event.TheVariants.{Alias}
use Rattle.mesh_model.specs.declared.act.Act.{Act}
use Rattle.mesh_model.specs.declared.act.Act.TheVariants.{Print}
use Rattle.mesh_model.specs.declared.packet.Head.{Head}
use Rattle.mesh_model.specs.declared.packet.Head.TheVariants.{IvOgm, Bcast, Elp, Ogm2, Unicast, Frag, Unicast4, Icmp, Utvlv}
use Rattle.mesh_model.specs.declared.table_change.Change.{Change}
use Rattle.mesh_model.specs.Acts.ArpRows.{arp_here, passed_unicast4}
use Rattle.mesh_model.specs.Acts.BridgeRows.{Place, round_acts, unclaim_acts}
use Rattle.mesh_model.specs.Acts.FragmentRows.{carried_here, passed_fragment, unicast_here}
use Rattle.mesh_model.specs.Acts.FrameRows.{broadcast_acts, passed_frame}
use Rattle.mesh_model.specs.Acts.OwnContainers.{own_containers}
use Rattle.mesh_model.specs.Acts.Packing.{sent_to_all}
use Rattle.mesh_model.specs.Acts.ProbeRows.{IcmpMessage, icmp_here, passed_icmp}
use Rattle.mesh_model.specs.Acts.TableRows.{other_containers, own_answer, request_acts}
use Rattle.mesh_model.specs.Clients.Lans.{Bridge, bridge}
use Rattle.mesh_model.specs.Clients.Log.{Log}
use Rattle.mesh_model.specs.Clients.Mentions.{Mention, mentions}
use Rattle.mesh_model.specs.Clients.Settings.{Settings}
use Rattle.mesh_model.specs.Commits.Aliases.{last_alias}
use Rattle.mesh_model.specs.Commits.Announcements.{announcement, told_changes}
use Rattle.mesh_model.specs.Commits.History.{History, committed, history, is_commit_tick, present_table, restarted}
use Rattle.mesh_model.specs.Commits.Versions.{last_commit}
use Rattle.mesh_model.specs.Fragments.Assembly.{part_of}
use Rattle.mesh_model.specs.Knowledge.Known.{Knowledge}
use Rattle.mesh_model.specs.Knowledge.PutTogether.{put_together}
use Rattle.mesh_model.specs.Knowledge.Steps.{Coming, after_packet, before_announcement, request_out}
use Rattle.mesh_model.specs.Knowledge.Told.{Message, message_in, message_of}
use Rattle.mesh_model.specs.Packets.ArpMessages.{arp_came}
use Rattle.mesh_model.specs.Packets.Containers.{containers_of, containers_spelling}
use Rattle.mesh_model.specs.Packets.Contents.{first_roaming, first_table}
use Rattle.mesh_model.specs.Packets.FirstPacket.{Packet}
use Rattle.mesh_model.specs.Routes.Addresses.{same_mac}
use Rattle.mesh_model.specs.Routes.Queries.{Queries}
use Rattle.mesh_model.specs.Routes.RouteLog.{RouteLog}
use Rattle.mesh_model.specs.Tables.Versions.{Version}

-- ---- ticks

-- a message on all links, where there is a head for it
unfoldable pub message_acts : Option Head → List ℕ → List Act
message_acts None tail = []
message_acts (Some head) tail = sent_to_all head tail ∷ []

-- the event of a commit by its number, where it has an alias
abbrev pub alias_event : Mac → ℕ → Option ℕ → List Act
alias_event me number None = []
alias_event me number (Some earlier) = Print (Alias me number earlier) ∷ []

-- the event of a new commit that has an alias, from the commits before it
abbrev pub alias_acts : Mac → List Version → List Version → List Act
alias_acts me before after = if length after == length before then []
    else alias_event me (length before) (last_alias after)

-- the ELP at a tick of an index, where the algorithm sends one
abbrev pub elp_acts : Queries → RouteLog → ℕ → List Act
elp_acts q routes index = message_acts (q.beats routes index).elp []

-- what is put at an even tick, from the history before and after its commit
abbrev pub commit_acts : Queries → Mac → Settings → RouteLog → ℕ → History → History → List Act
commit_acts q me settings routes index before after = alias_acts me before.commits after.commits
    ++ message_acts (q.beats routes index).ogm
    (containers_spelling (own_containers settings (announcement after)))

-- a tick: the node sends an ELP on all links, if its algorithm has one; at each second tick it then
-- commits its clients, tells of an alias, and sends its originator message on all links; at each
-- twentieth a gateway then tells its LAN how many claims it holds
unfoldable pub tick_acts : Queries → Mac → Settings → RouteLog → List Mention → History → Bridge → ℕ
    → ℕ → List Act
tick_acts q me settings routes mentions before bridge now index = elp_acts q routes index
    ++ ((if is_commit_tick index
    then commit_acts q me settings routes index before
    (committed (present_table mentions now) before)
    else [])
    ++ round_acts (record { me = me; now = now }) bridge index)

-- a reboot: the node tells of an alias of its new first commit
abbrev pub reboot_acts : Mac → History → List Act
reboot_acts me before = alias_acts me before.commits (restarted before).commits

-- ---- packets

-- the clients of a node: the mentions of them, its last commit, and the changes that are told of
-- it; and the node as a gateway
pub record Own : Type 0 where
  pub mentions : List Mention
  pub last : Version
  pub told : Option (List Change)
  pub bridge : Bridge

-- the clients of the node of an address by its log
abbrev pub own_by : Mac → Log → Own
own_by me log = record {
  mentions = mentions me log;
  last = last_commit (history me log).commits;
  told = told_changes (history me log);
  bridge = bridge log;
}

-- the request after an originator message, where its announcement is accepted
abbrev pub accepted_acts : Queries → Mac → Coming → Head → Message → Knowledge → List Act
accepted_acts q me came head message known = request_acts me
    (q.route (before_announcement q came head message.orig known).routes came.now message.orig)
    message
    (request_out q (before_announcement q came head message.orig known) came.now message)

-- an originator message: it may be sent on with the containers that it came with; then its
-- announcement may lead to a request
unfoldable pub ogm_acts : Queries → Mac → Coming → Head → Message → List ℕ → Knowledge → List Act
ogm_acts q me came head message tail known =
    message_acts (q.hear known.routes came.now came.from came.throughput head).forward tail
    ++ (if (q.hear known.routes came.now came.from came.throughput head).accepted
    then accepted_acts q me came head message known else [])

-- an originator message, where a node takes it
abbrev pub taken_acts : Queries → Mac → Coming → Head → Option Message → List ℕ → Knowledge
    → List Act
taken_acts q me came head None tail known = []
taken_acts q me came head (Some message) tail known = ogm_acts q me came head message tail known

-- the place of a node at which a packet came
abbrev pub place_at : Mac → Coming → Place
place_at me came = record { me = me; now = came.now }

-- a message of ping or traceroute
abbrev pub icmp_acts : Queries → Knowledge → Place → IcmpMessage → List Act
icmp_acts q known at m =
    if same_mac m.dst at.me then icmp_here q known at m else passed_icmp q known at m

-- a packet, by its head
abbrev pub head_acts : Queries → Mac → Own → Coming → Knowledge → Option Message → List ℕ → Head
    → List Act
head_acts q me own came known message tail (IvOgm ttl flags seq orig prev tq) =
    taken_acts q me came (IvOgm ttl flags seq orig prev tq) message tail known
head_acts q me own came known message tail (Bcast ttl seq orig) =
    broadcast_acts known own.bridge (place_at me came) ttl (record { orig = orig; number = seq })
    tail
head_acts q me own came known message tail (Elp orig seq interval) = []
head_acts q me own came known message tail (Ogm2 ttl flags seq orig throughput) =
    taken_acts q me came (Ogm2 ttl flags seq orig throughput) message tail known
head_acts q me own came known message tail (Unicast ttl ttvn dst) = if same_mac dst me
    then unicast_here q known own.mentions own.bridge (place_at me came) ttl tail
    else passed_frame q known (place_at me came) ttl ttvn dst tail
head_acts q me own came known message tail (Frag ttl number priority dst orig seq total) =
    if same_mac dst me
    then carried_here q known own.mentions own.bridge (place_at me came)
    (put_together (part_of came.now orig seq total number tail) known.parts)
    else passed_fragment q known came.now ttl dst
    (Frag (ttl - 1) number priority dst orig seq total) tail
head_acts q me own came known message tail (Unicast4 ttl ttvn dst src subtype) =
    if same_mac dst me then arp_here q known (place_at me came) src (arp_came subtype tail)
    else passed_unicast4 q known came.now ttl ttvn dst src subtype tail
head_acts q me own came known message tail (Icmp ttl msg dst orig uid seq) =
    icmp_acts q known (place_at me came)
    (record { ttl = ttl; kind = msg; dst = dst; orig = orig; uid = uid; seq = seq })
head_acts q me own came known message tail (Utvlv ttl dst src) = if same_mac dst me
    then own_answer q me known came.now own.last own.told src
    (message_in (first_table (containers_of tail)))
    ++ unclaim_acts (place_at me came) own.bridge (first_roaming (containers_of tail))
    else other_containers q known came.now ttl dst src tail

-- a packet of a link frame
unfoldable pub packet_acts : Queries → Mac → Own → Coming → Knowledge → Packet → List Act
packet_acts q me own came known packet =
    head_acts q me own came known (message_of packet) packet.tail packet.head

-- packets of a link frame, one after another
unfoldable pub packets_acts : Queries → Mac → Own → Coming → Knowledge → List Packet → List Act
packets_acts q me own came known [] = []
packets_acts q me own came known (packet ∷ rest) =
    packet_acts q me own came known packet
    ++ packets_acts q me own came (after_packet q me came known packet) rest
