-- How what a node knows grows: by each tick, by each packet of a link frame, one behind the other,
-- and by what lines give it. Its algorithm is given each tick, each ELP, and each originator
-- message that is taken. An accepted originator message begins what is known of its originator anew
-- where a life begins; it may release marks, and lead to a request. An answer from a live
-- originator, or for it, or a part of one, is taken and may release marks too. A client that roamed
-- is marked, with what its new node was told to have. A sighting ends the client's mark, and is advertised where
-- the client wasn't present just before and was elsewhere. A client frame from a LAN that its
-- gateway passes is a sighting, and it goes on unless its client is at the gateway or behind
-- another gateway of the LAN. What an accepted message offers is noted; a gateway is chosen at each
-- second tick, and given up where the node's part as one is set. At a round the node's picture may
-- be put, with its last commit, before its facts are told. A probe of a ping or a traceroute
-- waits for its answer where it was sent. A fragment for the node is noted, and its packet is taken
-- once it is whole. At a reboot all is forgotten but the settings. The main word is `knowledge`.
use Rattle.std.specs.Prelude.{ℕ, suc, ◌&&◌, ◌||◌, Bool, true, false, List, [], ◌∷◌, fold, length, Option, Some, None, is_none, is_some, option_and_then, if◌then◌else◌}
use Rattle.std.specs.List.{list_any}
use Rattle.mesh_base.specs.Address.{is_broadcast, is_group}
use Rattle.mesh_base.specs.declared.address.Mac.{Mac}
use Rattle.mesh_base.specs.declared.client.Entry.{Entry}
use Rattle.mesh_base.specs.declared.client.Key.{Key}
use Rattle.mesh_model.specs.declared.packet.Head.{Head}
use Rattle.mesh_model.specs.declared.packet.Head.TheVariants.{IvOgm, Bcast, Elp, Ogm2, Unicast, Frag, Unicast4, Icmp, Utvlv}
use Rattle.mesh_model.specs.declared.probe.Probe.{Probe}
use Rattle.mesh_model.specs.declared.probe.Told.{Told}
use Rattle.mesh_model.specs.declared.probe.Told.TheVariants.{Unknown, Done, Next}
use Rattle.mesh_model.specs.declared.table_outcome.Request.{Request}
use Rattle.mesh_model.specs.Clients.Log.{Given, Tick, LinkFrame, LanFrame, Line, LineGiven, Attach, Frame, Gone, Join, Leave, Arp, Dhcp, Sets, Put, Get, Ping, Trace, Reboot, Log}
use Rattle.mesh_model.specs.Clients.Lans.{LanOf, bridge}
use Rattle.mesh_model.specs.Clients.Mentions.{Mention, key_of, mentions, next_mentions, passed_from_lan}
use Rattle.mesh_model.specs.Clients.Present.{present_row}
use Rattle.mesh_model.specs.Clients.Settings.{Setting}
use Rattle.mesh_model.specs.Commits.History.{history, next_history}
use Rattle.mesh_model.specs.Commits.Versions.{last_commit}
use Rattle.mesh_model.specs.Fragments.Assembly.{part_of}
use Rattle.mesh_model.specs.Knowledge.Addressee.{Way, addressee}
use Rattle.mesh_model.specs.Knowledge.FactStore.{after_fact_message, after_get, after_put, after_round, if_announces}
use Rattle.mesh_model.specs.Knowledge.Known.{Broadcast, Knowledge, agreed_byte, is_new_broadcast, no_knowledge, taken_at, told_at}
use Rattle.mesh_model.specs.Knowledge.Offers.{after_choice, gateway_way, receivers}
use Rattle.mesh_model.specs.Knowledge.OwnPictures.{with_picture}
use Rattle.mesh_model.specs.Knowledge.Pairs.{after_arp, after_question}
use Rattle.mesh_model.specs.Knowledge.PutTogether.{after_part}
use Rattle.mesh_model.specs.Knowledge.Served.{after_set, no_services, with_offer}
use Rattle.mesh_model.specs.Knowledge.Told.{Message, TableMessage, Asks, Answers, Neither, message_changes, message_in, message_of, part_told, stamp_told}
use Rattle.mesh_model.specs.Marks.Advertisements.{too_many}
use Rattle.mesh_model.specs.Marks.Calls.{Calls, Marked, Released, Unmarked, Advised, Asked, Forgotten}
use Rattle.mesh_model.specs.Marks.Requests.{too_soon}
use Rattle.mesh_model.specs.Packets.ArpMessages.{arp_came}
use Rattle.mesh_model.specs.Packets.Containers.{containers_of}
use Rattle.mesh_model.specs.Packets.Contents.{first_part, first_roaming, first_table}
use Rattle.mesh_model.specs.Packets.FactMessages.{CameFact, fact_message_of}
use Rattle.mesh_model.specs.Packets.FirstPacket.{Packet}
use Rattle.mesh_model.specs.Packets.LanFrames.{client_frame_in, lan_message_of}
use Rattle.mesh_model.specs.Packets.LinkFrame.{link_frame}
use Rattle.mesh_model.specs.Packets.Payload.{ClientFrame}
use Rattle.mesh_model.specs.Probes.OpenProbes.{ProbeCall, Started, Answered, Closed, first_probe, is_answer, probes_by, told}
use Rattle.mesh_model.specs.Routes.Addresses.{same_mac}
use Rattle.mesh_model.specs.Routes.Queries.{Queries}
use Rattle.mesh_model.specs.Routes.RouteLog.{RouteLog, OwnTick, HeadCame, is_round}
use Rattle.mesh_model.specs.Services.Groups.{fan_of, is_flood}
use Rattle.mesh_model.specs.Tables.Judging.{announcement_row, wanted_request}
use Rattle.mesh_model.specs.Tables.Known.{TableCall, Announced, Dropped, known_by}
use Rattle.mesh_model.specs.Tables.Known.{Answered as AnsweredTable}

-- ---- where a packet comes from

-- how a packet came: when, from which neighbour, with the throughput to it, in the link frame of
-- which number
pub record Coming : Type 0 where
  pub now : ℕ
  pub from : Mac
  pub throughput : ℕ
  pub number : ℕ

-- ---- calls that may be left out

-- a target is released under the byte of agreement, if there is one
abbrev pub released_under : Mac → Option ℕ → Calls → Calls
released_under target None calls = calls
released_under target (Some byte) calls = Released target byte ∷ calls

-- an originator is asked, where a request goes out
abbrev pub asked_by_request : ℕ → Mac → Option Request → Calls → Calls
asked_by_request now orig None calls = calls
asked_by_request now orig (Some request) calls = Asked now orig ∷ calls

-- ---- originator messages

-- what is known once the algorithm was given a head
abbrev pub with_head : Coming → Head → Knowledge → Knowledge
with_head came head known = record known {
  routes = HeadCame came.now came.from came.throughput head ∷ known.routes;
}

-- what is known once the life of an originator begins: nothing of it from before
abbrev pub with_life : Mac → Bool → Knowledge → Knowledge
with_life orig begins known = if begins then record known {
  tables = Dropped orig ∷ known.tables;
  marks = Forgotten orig ∷ known.marks;
} else known

-- whether an originator may be asked now: a route leads to it, and it wasn't asked lately
abbrev pub may_ask : Queries → Knowledge → ℕ → Mac → Bool
may_ask q known now orig =
    is_some (q.route known.routes now orig) && is_none (too_soon now known.marks orig)

-- the request that goes out after an announcement, if any, from what is known right before it
abbrev pub request_out : Queries → Knowledge → ℕ → Message → Option Request
request_out q known now message = if may_ask q known now message.orig
    then wanted_request (announcement_row (known_by known.tables message.orig).held
    (stamp_told message.table) (message_changes message.table)).outcome
    else None

-- what came for the table of an originator with an announcement
abbrev pub announced_table : Coming → Message → TableCall
announced_table came message = Announced message.orig came.number (stamp_told message.table)
    (message_changes message.table)

-- what is known after an announcement, with the request that goes out
abbrev pub with_announcement : Coming → Message → Option Request → Knowledge → Knowledge
with_announcement came message request known = record known {
  tables = announced_table came message ∷ known.tables;
  marks = asked_by_request came.now message.orig request
      (released_under message.orig
      (agreed_byte (known_by (announced_table came message ∷ known.tables) message.orig))
      known.marks);
}

-- what is known right before an announcement is taken: the algorithm has its head, and a life that
-- begins drops what was known
abbrev pub before_announcement : Queries → Coming → Head → Mac → Knowledge → Knowledge
before_announcement q came head orig known =
    with_life orig (q.hear known.routes came.now came.from came.throughput head).began
    (with_head came head known)

-- the same after it
abbrev pub after_announcement : Queries → Coming → Message → Knowledge → Knowledge
after_announcement q came message known =
    with_announcement came message (request_out q known came.now message) known

-- what is known after an originator message
abbrev pub after_message : Queries → Coming → Head → Message → Knowledge → Knowledge
after_message q came head message known =
    if (q.hear known.routes came.now came.from came.throughput head).accepted
    then after_announcement q came message (before_announcement q came head message.orig known)
    else with_head came head known

-- ---- containers for this node

-- what is known after an answer for an originator, which counts while it is live
abbrev pub after_answer : Queries → ℕ → Mac → TableMessage → Knowledge → Knowledge
after_answer q now src (Asks full stamp) known = known
after_answer q now src (Answers stamp carried) known =
    if q.live known.routes now src then record known {
      tables = AnsweredTable src stamp carried ∷ known.tables;
      marks = released_under src
          (agreed_byte (known_by (AnsweredTable src stamp carried ∷ known.tables) src)) known.marks;
    } else known
after_answer q now src Neither known = known

-- what is known after a client roamed to a node, if one did
abbrev pub after_roaming : Queries → ℕ → Mac → Option Key → Knowledge → Knowledge
after_roaming q now src None known = known
after_roaming q now src (Some key) known = record known {
  marks = Marked now key src (told_at q known now src) ∷ known.marks;
}

-- what is known after containers from a node
abbrev pub after_containers : Queries → ℕ → Mac → List ℕ → Knowledge → Knowledge
after_containers q now src tail known =
    after_roaming q now src (first_roaming (containers_of tail))
    (after_answer q now src (part_told (first_part (containers_of tail)))
    (after_answer q now src (message_in (first_table (containers_of tail))) known))

-- ---- ping and traceroute

-- the calls after a probe is given: it is closed where no neighbour leads to its target
abbrev pub unless_sent : Option Mac → Probe → List ProbeCall → List ProbeCall
unless_sent None probe calls = Closed probe.seq ∷ calls
unless_sent (Some next) probe calls = calls

-- the calls of a probe that follows an answer, where one does
abbrev pub following : Queries → RouteLog → ℕ → Told → List ProbeCall → List ProbeCall
following q routes now Unknown calls = calls
following q routes now (Done target sent hop) calls = calls
following q routes now (Next hop sent probe) calls =
    unless_sent (q.route routes now probe.target) probe calls

-- what is known after a message of this type answers the probe of a number
abbrev pub after_reply : Queries → ℕ → ℕ → ℕ → Knowledge → Knowledge
after_reply q now msg seq known = record known {
  probes = following q known.routes now (told seq msg (probes_by known.probes))
      (Answered now seq msg ∷ known.probes);
}

-- what is known after a ping or, for `trace`, a traceroute begins
abbrev pub after_start : Queries → ℕ → Mac → Bool → Knowledge → Knowledge
after_start q now target trace known = record known {
  probes = unless_sent (q.route known.routes now target)
      (first_probe target trace (probes_by known.probes))
      (Started now target trace ∷ known.probes);
}

-- ---- packets

-- what is known after a broadcast at a moment, which may be taken
abbrev pub after_broadcast : Mac → ℕ → Broadcast → Knowledge → Knowledge
after_broadcast me now broadcast known =
    if is_new_broadcast me now broadcast known.taken
    then record known { taken = taken_at now broadcast known.taken ∷ known.taken } else known

-- what is known once an originator offered what these containers tell, where its message is
-- accepted
abbrev pub with_offered : Bool → Mac → List ℕ → Knowledge → Knowledge
with_offered accepted orig tail known = record known {
  services = with_offer accepted orig (containers_of tail) known.services;
}

-- what a broadcast that is taken announces of a primary, where it does
abbrev pub announced_by : Mac → ℕ → Broadcast → List ℕ → Knowledge → Option CameFact
announced_by me now broadcast tail known = if is_new_broadcast me now broadcast known.taken
    then option_and_then if_announces (fact_message_of tail) else None

-- what is known after an originator message with these containers, where one is taken
abbrev pub after_taken : Queries → Coming → Head → Option Message → List ℕ → Knowledge → Knowledge
after_taken q came head None tail known = known
after_taken q came head (Some message) tail known = with_offered
    (q.hear known.routes came.now came.from came.throughput head).accepted message.orig tail
    (after_message q came head message known)

-- what is known after a packet, by its head
abbrev pub after_head :
    Queries → Mac → Coming → Option Message → List ℕ → Head → Knowledge → Knowledge
after_head q me came message tail (IvOgm ttl flags seq orig prev tq) known =
    after_taken q came (IvOgm ttl flags seq orig prev tq) message tail known
after_head q me came message tail (Bcast ttl seq orig) known =
    after_fact_message came.now
    (announced_by me came.now (record { orig = orig; number = seq }) tail known)
    (after_broadcast me came.now (record { orig = orig; number = seq }) known)
after_head q me came message tail (Elp orig seq interval) known =
    with_head came (Elp orig seq interval) known
after_head q me came message tail (Ogm2 ttl flags seq orig throughput) known =
    after_taken q came (Ogm2 ttl flags seq orig throughput) message tail known
after_head q me came message tail (Unicast ttl ttvn dst) known =
    if same_mac dst me then after_fact_message came.now (fact_message_of tail) known else known
after_head q me came message tail (Frag ttl number priority dst orig seq total) known =
    if same_mac dst me
    then after_part (part_of came.now orig seq total number tail) known else known
after_head q me came message tail (Unicast4 ttl ttvn dst src subtype) known =
    if same_mac dst me then after_arp came.now (arp_came subtype tail) known else known
after_head q me came message tail (Icmp ttl msg dst orig uid seq) known =
    if same_mac dst me && is_answer msg then after_reply q came.now msg seq known else known
after_head q me came message tail (Utvlv ttl dst src) known =
    if same_mac dst me then after_containers q came.now src tail known else known

-- what is known after a packet
abbrev pub after_packet : Queries → Mac → Coming → Knowledge → Packet → Knowledge
after_packet q me came known packet =
    after_head q me came (message_of packet) packet.tail packet.head known

-- what is known after packets, first to last
abbrev pub after_packets : Queries → Mac → Coming → Knowledge → List Packet → Knowledge
after_packets q me came known packets = fold (after_packet q me came) known packets

-- ---- sightings

-- where a client is advertised that is sighted, if anywhere: it wasn't present just before, was
-- elsewhere, and wasn't advertised too often
abbrev pub advertised : Queries → Mac → Log → Knowledge → ℕ → Key → Option Way
advertised q me older known now key =
    if is_none (present_row (mentions me older) now key)
    && is_none (too_many now known.marks key)
    then addressee q known now key else None

-- the calls of a sighting
abbrev pub sighting_calls : ℕ → Key → Option Way → Calls → Calls
sighting_calls now key None calls = Unmarked key ∷ calls
sighting_calls now key (Some way) calls = Unmarked key ∷ Advised now key ∷ calls

-- what is known after a sighting right after a log
abbrev pub after_sighting : Queries → Mac → Log → ℕ → Key → Knowledge → Knowledge
after_sighting q me older now key known = record known {
  marks = sighting_calls now key (advertised q me older known now key) known.marks;
}

-- what is known after a broadcast was sent
abbrev pub after_sent : Knowledge → Knowledge
after_sent known = record known { sent = suc known.sent }

-- whether a frame for a client or a group is sent as a broadcast: it is for all stations, or for a
-- group with more receivers than are sent it one by one
abbrev pub is_flooded : Queries → Knowledge → ℕ → Key → Bool
is_flooded q known now key = is_broadcast key.mac
    || (is_group key.mac && is_flood (fan_of (length (receivers q known now key))))

-- what is known after a frame for a client or a group was given
abbrev pub after_frame : Queries → ℕ → Key → Knowledge → Knowledge
after_frame q now key known = if is_flooded q known now key then after_sent known else known

-- what is known after a call for a gateway, which is sent as a broadcast where no way leads to the
-- chosen one
abbrev pub after_call : Queries → ℕ → Knowledge → Knowledge
after_call q now known = if is_some (gateway_way q known now) then known else after_sent known

-- ---- client frames from a LAN

-- whether a way leads to a gateway of a LAN
abbrev pub leads_to_gateway : Option LanOf → Option Way → Bool
leads_to_gateway None way = false
leads_to_gateway (Some lan) None = false
leads_to_gateway (Some lan) (Some way) = list_any (same_mac way.orig) lan.gateways

-- whether a frame for a client stays on the LAN that it came from, by what is known and mentioned
-- then: the client is present at the gateway, or what is for it goes to a gateway of the LAN
abbrev pub stays_on_lan : Queries → List Mention → Option LanOf → ℕ → Key → Knowledge → Bool
stays_on_lan q mentions lan now key known = is_some (present_row mentions now key)
    || leads_to_gateway lan (addressee q known now key)

-- what is known after a client frame from a LAN, behind its sighting, which may stay there
abbrev pub after_bridged : Queries → ℕ → Bool → Key → Knowledge → Knowledge
after_bridged q now stays key known = if stays then known else after_frame q now key known

-- what is known after a client frame that a gateway passes of its LAN, where it passes one, by the
-- mentions behind its sighting
abbrev pub after_passed :
    Queries → Mac → Log → Knowledge → ℕ → List Mention → Option ClientFrame → Knowledge
after_passed q me older known now mentions None = known
after_passed q me older known now mentions (Some frame) =
    after_bridged q now
    (stays_on_lan q mentions (bridge older).lan now (key_of frame.dst frame.vid)
    (after_sighting q me older now (key_of frame.src frame.vid) known))
    (key_of frame.dst frame.vid)
    (after_sighting q me older now (key_of frame.src frame.vid) known)

-- ---- the log

-- what is known after a round of the fact store, where a tick begins one
abbrev pub after_round_at : Queries → ℕ → ℕ → Knowledge → Knowledge
after_round_at q now index known = if is_round index
    then after_round q now known.services.settings.fact_store known else known

-- what is known at a tick of an index, before a round that it may begin
abbrev pub before_round : Queries → ℕ → ℕ → Knowledge → Knowledge
before_round q now index known =
    after_choice q now index (record known { routes = OwnTick now index ∷ known.routes })

-- the table of the last commit of the node of an address, behind a tick of an index right after a
-- log
abbrev pub table_behind : Mac → Log → ℕ → ℕ → List Entry
table_behind me older now index = (last_commit
    (next_history (mentions me older) (history me older) now (Tick index)).commits).table

-- what is known at a tick of an index, before facts are told in a round that it may begin, whose
-- last commit has this table
abbrev pub before_telling : Queries → Mac → ℕ → ℕ → List Entry → Knowledge → Knowledge
before_telling q me now index table known =
    with_picture q me now index table (before_round q now index known)

-- what is known after a tick of an index, whose last commit has this table
abbrev pub after_tick : Queries → Mac → ℕ → ℕ → List Entry → Knowledge → Knowledge
after_tick q me now index table known =
    after_round_at q now index (before_telling q me now index table known)

-- what is known after a setting
abbrev pub with_set : Setting → Knowledge → Knowledge
with_set setting known = record known { services = after_set setting known.services }

-- what is known after a reboot: the settings
abbrev pub after_reboot : Knowledge → Knowledge
after_reboot known = record no_knowledge {
  services = record no_services { settings = known.services.settings };
}

-- what is known after what a line gives right after a log, from what was known before it
abbrev pub line_knowledge : Queries → Mac → Log → Knowledge → ℕ → LineGiven → Knowledge
line_knowledge q me older known now (Attach lan gateways) = known
line_knowledge q me older known now (Frame src dst vid text) = after_frame q now (key_of dst vid)
    (after_sighting q me older now (key_of src vid) known)
line_knowledge q me older known now (Gone key) = known
line_knowledge q me older known now (Join key) = known
line_knowledge q me older known now (Leave key) = known
line_knowledge q me older known now (Arp mac own_ip asked_ip vid) =
    after_question q me now mac own_ip asked_ip vid
    (after_sighting q me older now (key_of mac vid) known)
line_knowledge q me older known now (Dhcp key text) =
    after_call q now (after_sighting q me older now key known)
line_knowledge q me older known now (Sets setting) = with_set setting known
line_knowledge q me older known now (Put type_no version text) =
    after_put me now type_no version text known
line_knowledge q me older known now (Get type_no) =
    after_get q now type_no known.services.settings.fact_store known
line_knowledge q me older known now (Ping target) = after_start q now target false known
line_knowledge q me older known now (Trace target) = after_start q now target true known
line_knowledge q me older known now Reboot = after_reboot known

-- what is known after an input right after a log, from what was known before it
abbrev pub next_knowledge : Queries → Mac → Log → Knowledge → ℕ → Given → Knowledge
next_knowledge q me older known now (Tick index) =
    after_tick q me now index (table_behind me older now index) known
next_knowledge q me older known now (LinkFrame number from throughput bytes) = after_packets q me
    (record { now = now; from = from; throughput = throughput; number = number }) known
    (link_frame bytes).packets
next_knowledge q me older known now (LanFrame bytes) = after_passed q me older known now
    (next_mentions me older (mentions me older) now (LanFrame bytes))
    (passed_from_lan me older now (client_frame_in (lan_message_of bytes)))
next_knowledge q me older known now (Line line) = line_knowledge q me older known now line

-- what a node of this address knows by its log
abbrev pub knowledge : Queries → Mac → Log → Knowledge
knowledge q me [] = no_knowledge
knowledge q me (entry ∷ older) =
    next_knowledge q me older (knowledge q me older) entry.moment entry.given
