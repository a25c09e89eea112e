-- Ticks of the nodes of a mesh that is reached: each has its number, and what is to come isn't
-- before the clock.
use Rattle.std.proofs.Common.{◌≡◌, ℕ, zero, suc, ◌+◌, ◌<◌, ◌≤◌, ◌⊎◌, inl, inr, Bool, true, false, ◌&&◌, if◌then◌else◌, List, [], ◌∷◌, filter, slice_get, Option, Some, None, is_some, Ok, refl, sym, ap, ◌∙◌, subst, arith}
use Rattle.mesh_base.specs.declared.address.Mac.{Mac}
use Rattle.mesh_base.specs.declared.client.Key.{Key}
use Rattle.mesh_base.specs.declared.client.Vid.{Vid}
use Rattle.mesh_model.specs.declared.act.Act.{Act}
use Rattle.mesh_model.specs.declared.happening.Class.{Class}
use Rattle.mesh_model.specs.declared.happening.Class.TheVariants.{LinkDelivery, LanDelivery, NodeTick}
use Rattle.mesh_model.specs.declared.happening.Happening.{Happening}
use Rattle.mesh_model.specs.declared.packet.Head.{Head}
use Rattle.mesh_model.specs.declared.packet.Head.TheVariants.{IvOgm, Bcast, Elp, Ogm2, Unicast, Frag, Unicast4, Icmp, Utvlv}
use Rattle.mesh_model.specs.Clients.Log.{Given, Tick, LinkFrame, LanFrame, Line, LineGiven, Attach, Frame, Gone, Join, Leave, Arp, Dhcp, Sets, Put, Get, Ping, Trace, Reboot, Log, LogEntry, is_reboot, line_reboots}
use Rattle.mesh_model.specs.Clients.Lans.{bridge}
use Rattle.mesh_model.specs.Clients.Mentions.{Mention, key_of, mentions, next_mentions, passed_from_lan}
use Rattle.mesh_model.specs.Commits.History.{is_commit_tick}
use Rattle.mesh_model.specs.Fragments.Assembly.{PartCall, part_of}
use Rattle.mesh_model.specs.Knowledge.FactStore.{after_fact_message}
use Rattle.mesh_model.specs.Knowledge.Known.{Broadcast, Knowledge, agreed_byte, is_new_broadcast, taken_at}
use Rattle.mesh_model.specs.Knowledge.Offers.{after_choice, gateway_way}
use Rattle.mesh_model.specs.Knowledge.Pairs.{after_arp, after_asking, after_came, after_question, is_asked, with_ask, with_learned}
use Rattle.mesh_model.specs.Knowledge.PutTogether.{after_part, fact_carried, put_together, with_part}
use Rattle.mesh_model.specs.Knowledge.Steps.{Coming, announced_by, stays_on_lan, knowledge, next_knowledge, table_behind, after_announcement, after_answer, after_broadcast, after_call, after_containers, after_frame, after_head, after_message, after_reply, after_packet, after_packets, after_passed, after_roaming, after_sent, after_sighting, after_taken, before_announcement, is_flooded, released_under, with_head, with_offered, line_knowledge}
use Rattle.mesh_model.specs.Knowledge.Told.{Message, TableMessage, Asks, Answers, Neither, message_in, message_of, part_told}
use Rattle.mesh_model.specs.Marks.Calls.{Forgotten}
use Rattle.mesh_model.specs.Net.Due.{ticks_by, ticks_in}
use Rattle.mesh_model.specs.Net.Happenings.{Before}
use Rattle.mesh_model.specs.Net.Inputs.{all_given, entry_of, noted, noted_at, given_to, given_node, after_entry}
use Rattle.mesh_model.specs.Net.Lans.{attachment, gets, put_given, put_over, reach_events, with_events, with_lan}
use Rattle.mesh_model.specs.Net.Limits.{scenario_setup}
use Rattle.mesh_model.specs.Net.Mesh.{NodeLog, NetLan, NetLink, LanPut, SentFrame, Mesh, Setup, address_at}
use Rattle.mesh_model.specs.Net.Next.{Happens}
use Rattle.mesh_model.specs.Net.Runs.{after_happening, effect, frame_given, frame_over, throughput_between, tick_given, with_last}
use Rattle.mesh_model.specs.Net.Watching.{lines_told, with_lines}
use Rattle.mesh_model.specs.Net.Sending.{Actor, after_acts}
use Rattle.mesh_model.specs.Packets.ArpMessages.{ArpCame, Puts, Asks as AsksPair, Tells, arp_came}
use Rattle.mesh_model.specs.Packets.Containers.{containers_of}
use Rattle.mesh_model.specs.Packets.Contents.{first_part, first_roaming, first_table}
use Rattle.mesh_model.specs.Packets.FactMessages.{fact_message_of}
use Rattle.mesh_model.specs.Packets.FirstPacket.{Packet}
use Rattle.mesh_model.specs.Packets.LanFrames.{client_frame_in, lan_message_of}
use Rattle.mesh_model.specs.Packets.LinkFrame.{link_frame}
use Rattle.mesh_model.specs.Packets.Payload.{ClientFrame}
use Rattle.mesh_model.specs.Probes.OpenProbes.{is_answer}
use Rattle.mesh_model.specs.Routes.Addresses.{same_mac}
use Rattle.mesh_model.specs.Routes.Queries.{Queries}
use Rattle.mesh_model.specs.Routes.RouteLog.{FollowsIndex, MayTick, OwnTick, RouteLog, last_index, own_ticks}
use Rattle.mesh_model.specs.Run.Steps.{new_node}
use Rattle.mesh_model.specs.Services.ArpTable.{AskedFor}
use Rattle.mesh_model.specs.Tables.Known.{Answered, Dropped, known_by}
use Rattle.mesh_laws.proofs.Schedule.Added.{added}
use Rattle.mesh_laws.proofs.Schedule.Members.{get_last}
use Rattle.mesh_laws.proofs.Schedule.Order.{moments}
use Rattle.mesh_laws.proofs.StoreLemmas.{Rest, get_rest, message_rest, tick_rest}
use Rattle.mesh_laws.proofs.LanLemmas.{effect_later, joined_later}
use Rattle.mesh_laws.proofs.Schedule.Sends.{ok_one, on_ok_ok, acts_send, sends_put}
use Rattle.mesh_laws.proofs.Schedule.Steps.{all_effect, delivered_effect, no_ticks, not_passed, put_joins, step_is, tickless}
use Rattle.mesh_laws.proofs.Schedule.Steps.{lan_joins as joined_effect}
use Rattle.mesh_laws.proofs.Schedule.ToCome.{nodes_add_later, links_add_nothing}
use Rattle.mesh_net.specs.Reached.{IsReached, begins, joins, links, lan_joins, lan_comes, all_are_given, is_given, is_delivered, happens, passes}
use Rattle.mesh_post.proofs.LookUps.{some_one}
use Rattle.mesh_net.proofs.ReachedLemmas.{reached, of_line}

-- ---- what a node knows of its ticks
-- how many ticks an algorithm had, and the index of the last
abbrev counted_in : RouteLog → ℕ × Option ℕ
counted_in routes = (own_ticks routes, last_index routes)

abbrev counted : Knowledge → ℕ × Option ℕ
counted known = counted_in known.routes

abbrev counted_left : Rest → ℕ × Option ℕ
counted_left rest = counted_in rest.routes

either_counted : (b : Bool) (x y known : Knowledge) → counted x ≡ counted known → counted y ≡ counted known → counted (if b then x else y) ≡ counted known
either_counted true x y known e f = e
either_counted false x y known e f = f

-- an originator message adds a head, and no tick
message_counted : (q : Queries) (came : Coming) (head : Head) (message : Message) (known : Knowledge) → counted (after_message q came head message known) ≡ counted known
message_counted q came head message known =
    let heard : Knowledge = with_head came head known in
    either_counted (q.hear known.routes came.now came.from came.throughput head).accepted (after_announcement q came message (before_announcement q came head message.orig known)) heard known
    (either_counted (q.hear known.routes came.now came.from came.throughput head).began (record heard { tables = Dropped message.orig ∷ heard.tables; marks = Forgotten message.orig ∷ heard.marks }) heard known refl refl)
    refl

offered_counted : (accepted : Bool) (orig : Mac) (tail : List ℕ) (known : Knowledge) → counted (with_offered accepted orig tail known) ≡ counted known
offered_counted true orig tail known = refl
offered_counted false orig tail known = refl

taken_counted : (q : Queries) (came : Coming) (head : Head) (message : Option Message) (tail : List ℕ) (known : Knowledge) → counted (after_taken q came head message tail known) ≡ counted known
taken_counted q came head None tail known = refl
taken_counted q came head (Some message) tail known =
    offered_counted (q.hear known.routes came.now came.from came.throughput head).accepted message.orig tail (after_message q came head message known)
    ∙ message_counted q came head message known

answer_counted : (q : Queries) (now : ℕ) (src : Mac) (message : TableMessage) (known : Knowledge) → counted (after_answer q now src message known) ≡ counted known
answer_counted q now src (Asks full stamp) known = refl
answer_counted q now src (Answers stamp carried) known = either_counted (q.live known.routes now src) (record known {
  tables = Answered src stamp carried ∷ known.tables;
  marks = released_under src (agreed_byte (known_by (Answered src stamp carried ∷ known.tables) src)) known.marks;
}) known known refl refl
answer_counted q now src Neither known = refl

roaming_counted : (q : Queries) (now : ℕ) (src : Mac) (key : Option Key) (known : Knowledge) → counted (after_roaming q now src key known) ≡ counted known
roaming_counted q now src None known = refl
roaming_counted q now src (Some key) known = refl

containers_counted : (q : Queries) (now : ℕ) (src : Mac) (tail : List ℕ) (known : Knowledge) → counted (after_containers q now src tail known) ≡ counted known
containers_counted q now src tail known =
    let message = message_in (first_table (containers_of tail)) in
    let answer = after_answer q now src message known in
    let part = part_told (first_part (containers_of tail)) in
    roaming_counted q now src (first_roaming (containers_of tail)) (after_answer q now src part answer) ∙ answer_counted q now src part answer ∙ answer_counted q now src message known

broadcast_counted : (me : Mac) (now : ℕ) (broadcast : Broadcast) (known : Knowledge) → counted (after_broadcast me now broadcast known) ≡ counted known
broadcast_counted me now broadcast known = either_counted (is_new_broadcast me now broadcast known.taken) (record known { taken = taken_at now broadcast known.taken ∷ known.taken }) known known refl refl

-- nor does a packet of the ARP table
came_counted : (now : ℕ) (came : Option ArpCame) (known : Knowledge) → counted (after_came now came known) ≡ counted known
came_counted now None known = refl
came_counted now (Some (Puts m)) known = refl
came_counted now (Some (AsksPair m)) known = refl
came_counted now (Some (Tells m)) known = refl

arp_counted : (now : ℕ) (came : Option ArpCame) (known : Knowledge) → counted (after_arp now came known) ≡ counted known
arp_counted now came known = either_counted known.services.settings.arp_table (after_came now came known) known known (came_counted now came known) refl

-- nor does a part, which may make a message of the fact store whole
part_counted : (call : PartCall) (known : Knowledge) → counted (after_part call known) ≡ counted known
part_counted call known = ap counted_left (message_rest call.moment (fact_carried (put_together call known.parts)) (with_part call known))

head_counted : (q : Queries) (me : Mac) (came : Coming) (message : Option Message) (tail : List ℕ) (head : Head) (known : Knowledge) → counted (after_head q me came message tail head known) ≡ counted known
head_counted q me came message tail (IvOgm ttl flags seq orig prev tq) known = taken_counted q came (IvOgm ttl flags seq orig prev tq) message tail known
head_counted q me came message tail (Bcast ttl seq orig) known =
    let broadcast : Broadcast = record { orig = orig; number = seq } in
    ap counted_left (message_rest came.now (announced_by me came.now broadcast tail known) (after_broadcast me came.now broadcast known)) ∙ broadcast_counted me came.now broadcast known
head_counted q me came message tail (Elp orig seq interval) known = refl
head_counted q me came message tail (Ogm2 ttl flags seq orig throughput) known = taken_counted q came (Ogm2 ttl flags seq orig throughput) message tail known
head_counted q me came message tail (Unicast ttl ttvn dst) known =
    either_counted (same_mac dst me) (after_fact_message came.now (fact_message_of tail) known) known known (ap counted_left (message_rest came.now (fact_message_of tail) known)) refl
head_counted q me came message tail (Frag ttl number priority dst orig seq total) known =
    let call : PartCall = part_of came.now orig seq total number tail in
    either_counted (same_mac dst me) (after_part call known) known known (part_counted call known) refl
head_counted q me came message tail (Unicast4 ttl ttvn dst src subtype) known =
    either_counted (same_mac dst me) (after_arp came.now (arp_came subtype tail) known) known known (arp_counted came.now (arp_came subtype tail) known) refl
head_counted q me came message tail (Icmp ttl msg dst orig uid seq) known =
    either_counted (same_mac dst me && is_answer msg) (after_reply q came.now msg seq known) known known refl refl
head_counted q me came message tail (Utvlv ttl dst src) known =
    either_counted (same_mac dst me) (after_containers q came.now src tail known) known known (containers_counted q came.now src tail known) refl

packets_counted : (q : Queries) (me : Mac) (came : Coming) (known : Knowledge) (packets : List Packet) → counted (after_packets q me came known packets) ≡ counted known
packets_counted q me came known [] = refl
packets_counted q me came known (p ∷ ps) = packets_counted q me came (after_packet q me came known p) ps ∙ head_counted q me came (message_of p) p.tail p.head known

-- nor does what is sent
frame_counted : (q : Queries) (now : ℕ) (key : Key) (known : Knowledge) → counted (after_frame q now key known) ≡ counted known
frame_counted q now key known = either_counted (is_flooded q known now key) (after_sent known) known known refl refl

call_counted : (q : Queries) (now : ℕ) (known : Knowledge) → counted (after_call q now known) ≡ counted known
call_counted q now known = either_counted (is_some (gateway_way q known now)) known (after_sent known) known refl refl

question_counted : (q : Queries) (me : Mac) (now : ℕ) (mac : Mac) (own_ip asked_ip : ℕ) (vid : Vid) (known : Knowledge)
    → counted (after_question q me now mac own_ip asked_ip vid known) ≡ counted known
question_counted q me now mac own_ip asked_ip vid known =
    let learned : Knowledge = with_learned now own_ip vid mac known in
    either_counted known.services.settings.arp_table (after_asking q me now asked_ip vid learned) known known
    (either_counted (is_asked q me learned now asked_ip vid) (with_ask (AskedFor asked_ip vid) learned) learned known refl refl) refl

-- nor does a frame from a LAN add a tick
passed_counted : (q : Queries) (me : Mac) (older : Log) (known : Knowledge) (now : ℕ) (mentions : List Mention) (frame : Option ClientFrame) → counted (after_passed q me older known now mentions frame) ≡ counted known
passed_counted q me older known now mentions None = refl
passed_counted q me older known now mentions (Some frame) =
    let behind : Knowledge = after_sighting q me older now (key_of frame.src frame.vid) known in
    either_counted (stays_on_lan q mentions (bridge older).lan now (key_of frame.dst frame.vid) behind) behind (after_frame q now (key_of frame.dst frame.vid) behind) known refl (frame_counted q now (key_of frame.dst frame.vid) behind)

-- the index of the last tick after an input
abbrev pub index_by : Given → Option ℕ → Option ℕ
index_by (Tick index) last = Some index
index_by (LinkFrame number from throughput bytes) last = last
index_by (LanFrame bytes) last = last
index_by (Line line) last = last

-- how many ticks there were after an input, and the index of the last: none after a reboot
abbrev counts_after : (reboots : Bool) → Given → ℕ × Option ℕ → ℕ × Option ℕ
counts_after reboots given before = if reboots then (0, None) else (ticks_by given + before.0, index_by given before.1)

-- how many ticks a node had since its last reboot, and the index of the last of these
abbrev pub since_reboot : Log → ℕ × Option ℕ
since_reboot [] = (0, None)
since_reboot (entry ∷ older) = counts_after (is_reboot entry.given) entry.given (since_reboot older)

no_more : (known : Knowledge) → counted known ≡ (0 + own_ticks known.routes, last_index known.routes)
no_more known = ap (λ n. (n, last_index known.routes)) (omega arith)

-- a line adds no tick, and a reboot forgets all
line_counted : (q : Queries) (me : Mac) (older : Log) (known : Knowledge) (now : ℕ) (line : LineGiven) → counted (line_knowledge q me older known now line) ≡ (if line_reboots line then (0, None) else counted known)
line_counted q me older known now (Attach lan gateways) = refl
line_counted q me older known now (Frame src dst vid text) = frame_counted q now (key_of dst vid) (after_sighting q me older now (key_of src vid) known)
line_counted q me older known now (Gone key) = refl
line_counted q me older known now (Join key) = refl
line_counted q me older known now (Leave key) = refl
line_counted q me older known now (Arp mac own_ip asked_ip vid) =
    question_counted q me now mac own_ip asked_ip vid (after_sighting q me older now (key_of mac vid) known)
line_counted q me older known now (Dhcp key text) = call_counted q now (after_sighting q me older now key known)
line_counted q me older known now (Sets setting) = refl
line_counted q me older known now (Put type_no version text) = refl
line_counted q me older known now (Get type_no) = ap counted_left (get_rest q now type_no known.services.settings.fact_store known)
line_counted q me older known now (Ping target) = refl
line_counted q me older known now (Trace target) = refl
line_counted q me older known now Reboot = refl

-- nor does a choice
choice_counted : (q : Queries) (now index : ℕ) (known : Knowledge) → counted (after_choice q now index known) ≡ counted known
choice_counted q now index known = either_counted (is_commit_tick index) _ known known refl refl

-- an input adds its tick, and no other
next_counted : (q : Queries) (me : Mac) (older : Log) (known : Knowledge) (now : ℕ) (given : Given) → counted (next_knowledge q me older known now given) ≡ counts_after (is_reboot given) given (counted known)
next_counted q me older known now (Tick index) =
    let ticked : Knowledge = record known { routes = OwnTick now index ∷ known.routes } in
    let n : own_ticks ticked.routes ≡ suc (own_ticks known.routes) = refl in
    ap counted_left (tick_rest q me now index (table_behind me older now index) known) ∙ choice_counted q now index ticked ∙ ap (λ m. (m, Some index)) (omega (arith, n))
next_counted q me older known now (LinkFrame number from throughput bytes) =
    packets_counted q me (record { now = now; from = from; throughput = throughput; number = number }) known (link_frame bytes).packets ∙ no_more known
next_counted q me older known now (LanFrame bytes) =
    passed_counted q me older known now (next_mentions me older (mentions me older) now (LanFrame bytes)) (passed_from_lan me older now (client_frame_in (lan_message_of bytes))) ∙ no_more known
next_counted q me older known now (Line line) = line_counted q me older known now line ∙ ap (λ (c : ℕ × Option ℕ). if line_reboots line then (0, None) else c) (no_more known)

-- an algorithm has the ticks of its node since its last reboot
log_counted : (q : Queries) (me : Mac) (log : Log) → counted (knowledge q me log) ≡ since_reboot log
log_counted q me [] = refl
log_counted q me (entry ∷ older) =
    next_counted q me older (knowledge q me older) entry.moment entry.given ∙ ap (counts_after (is_reboot entry.given) entry.given) (log_counted q me older)

-- ---- numbers
-- the next tick has the number that follows, and no more ticks count since a reboot than there were
abbrev pub Numbered : Log → Type 0
Numbered log = FollowsIndex (since_reboot log).1 (suc (ticks_in log)) × ((since_reboot log).0 ≤ ticks_in log)

-- an input that isn't a tick, or is the next
abbrev pub IsInOrder : Log → Given → Type 0
IsInOrder log given = (ticks_by given ≡ 0) ⊎ (given ≡ Tick (suc (ticks_in log)))

abbrev as_tick : ℕ → Given
as_tick index = Tick index

abbrev index_of : Given → ℕ
index_of (Tick index) = index
index_of (LinkFrame number from throughput bytes) = 0
index_of (LanFrame bytes) = 0
index_of (Line line) = 0

-- an input that isn't a tick leaves the number of the next
same_number : (before : ℕ × Option ℕ) (ticks : ℕ) → FollowsIndex before.1 (suc ticks) × (before.0 ≤ ticks) → FollowsIndex before.1 (suc (0 + ticks)) × (0 + before.0 ≤ 0 + ticks)
same_number before ticks n = (subst (λ k. FollowsIndex before.1 (suc k)) (omega arith) n.0, (let few = n.1 in omega (arith, few)))

-- so does a line, and behind a reboot each number follows
line_number : (reboots : Bool) (line : LineGiven) (before : ℕ × Option ℕ) (ticks : ℕ) → FollowsIndex before.1 (suc ticks) × (before.0 ≤ ticks)
    → FollowsIndex (counts_after reboots (Line line) before).1 (suc (0 + ticks)) × ((counts_after reboots (Line line) before).0 ≤ 0 + ticks)
line_number true line before ticks n = (omega arith, omega arith)
line_number false line before ticks n = same_number before ticks n

numbered_next : (log : Log) (now : ℕ) (given : Given) (acts : List Act) → IsInOrder log given → Numbered log → Numbered (record { moment = now; given = given; acts = acts } ∷ log)
numbered_next log now (Tick index) acts (inl e) n = absurd (omega (arith, e))
numbered_next log now (Tick index) acts (inr e) n = (let i : index ≡ suc (ticks_in log) = ap index_of e in omega (arith, i), (let few = n.1 in omega (arith, few)))
numbered_next log now (LinkFrame number from throughput bytes) acts o n = same_number (since_reboot log) (ticks_in log) n
numbered_next log now (LanFrame bytes) acts o n = same_number (since_reboot log) (ticks_in log) n
numbered_next log now (Line line) acts o n = line_number (line_reboots line) line (since_reboot log) (ticks_in log) n

abbrev pub AllNumbered : List NodeLog → Type 0
AllNumbered nodes = (place : ℕ) (node : NodeLog) → slice_get nodes place ≡ Some node → Numbered node.log

noted_numbered : (at : ℕ) (entry : LogEntry) (nodes : List NodeLog) → ((node : NodeLog) → slice_get nodes at ≡ Some node → IsInOrder node.log entry.given) → AllNumbered nodes → AllNumbered (noted_at at entry nodes)
noted_numbered at entry [] order all place node e = cc
noted_numbered zero entry (n ∷ rest) order all zero node e =
    subst (λ (x : NodeLog). Numbered x.log) (some_one (record n { log = entry ∷ n.log }) node e) (numbered_next n.log entry.moment entry.given entry.acts (order n refl) (all 0 n refl))
noted_numbered zero entry (n ∷ rest) order all (suc place) node e = all (suc place) node e
noted_numbered (suc at) entry (n ∷ rest) order all zero node e = all 0 node e
noted_numbered (suc at) entry (n ∷ rest) order all (suc place) node e = noted_numbered at entry rest order (λ p x f. all (suc p) x f) place node e

node_numbered : (setup : Setup) (mesh after : Mesh) (place now root : ℕ) (given : Given) (o : Option NodeLog) → slice_get mesh.nodes place ≡ o → given_node setup place now root given o mesh ≡ Ok after → ((node : NodeLog) → slice_get mesh.nodes place ≡ Some node → IsInOrder node.log given) → AllNumbered mesh.nodes → AllNumbered after.nodes
node_numbered setup mesh after place now root given None found e order all = subst (λ (m : Mesh). AllNumbered m.nodes) (ok_one mesh after e) all
node_numbered setup mesh after place now root given (Some n) found e order all =
    let actor : Actor = record { place = place; mac = n.mac; now = now; root = root } in
    let entry : LogEntry = entry_of setup n now given in
    let p = on_ok_ok (noted place entry) (after_acts setup actor entry.acts mesh) after (not_passed setup actor mesh (setup.node_limit n.mac n.log now given) (after_entry setup actor entry mesh) after e) in
    let sends = acts_send setup actor entry.acts mesh p.0 p.1 in
    subst (λ (m : Mesh). AllNumbered m.nodes) (ok_one (record p.0 { nodes = noted_at place entry p.0.nodes }) after p.2)
    (subst (λ ns. AllNumbered (noted_at place entry ns)) (sym sends.nodes) (noted_numbered place entry mesh.nodes order all))

given_numbered : (setup : Setup) (mesh after : Mesh) (place now root : ℕ) (given : Given) → given_to setup place now root given mesh ≡ Ok after → ((node : NodeLog) → slice_get mesh.nodes place ≡ Some node → IsInOrder node.log given) → AllNumbered mesh.nodes → AllNumbered after.nodes
given_numbered setup mesh after place now root given e order all = node_numbered setup mesh after place now root given (slice_get mesh.nodes place) refl e order all

-- several nodes are given the same, which is no tick
all_given_numbered : (setup : Setup) (places : List ℕ) (now : ℕ) (given : Given) (mesh after : Mesh) → ticks_by given ≡ 0 → all_given setup places now given mesh ≡ Ok after → AllNumbered mesh.nodes → AllNumbered after.nodes
all_given_numbered setup [] now given mesh after none e all = subst (λ (m : Mesh). AllNumbered m.nodes) (ok_one mesh after e) all
all_given_numbered setup (place ∷ rest) now given mesh after none e all =
    let p = on_ok_ok (all_given setup rest now given) (given_to setup place now 0 given mesh) after e in
    all_given_numbered setup rest now given p.0 after none p.2 (given_numbered setup mesh p.0 place now 0 given p.1 (λ node found. inl none) all)

put_numbered : (setup : Setup) (mesh after : Mesh) (now : ℕ) (put : LanPut) (frame : Option ClientFrame) (o : Option NetLan) → put_over setup now put frame o mesh ≡ Ok after → AllNumbered mesh.nodes → AllNumbered after.nodes
put_numbered setup mesh after now put frame None e all = subst (λ (m : Mesh). AllNumbered m.nodes) (ok_one mesh after e) all
put_numbered setup mesh after now put frame (Some lan) e all =
    all_given_numbered setup (filter (gets frame put.by) lan.gateways) now (LanFrame put.bytes) (with_events (reach_events now put.lan put.by frame) mesh) after refl e all

lan_numbered : (setup : Setup) (mesh after : Mesh) (now : ℕ) (o : Option LanPut) → put_given setup now o mesh ≡ Ok after → AllNumbered mesh.nodes → AllNumbered after.nodes
lan_numbered setup mesh after now None e all = subst (λ (m : Mesh). AllNumbered m.nodes) (ok_one mesh after e) all
lan_numbered setup mesh after now (Some put) e all = put_numbered setup mesh after now put (client_frame_in (lan_message_of put.bytes)) (slice_get mesh.lans put.lan) e all

over_numbered : (setup : Setup) (mesh after : Mesh) (place now : ℕ) (frame : SentFrame) (o : Option NetLink) → frame_over setup place now frame o mesh ≡ Ok after → AllNumbered mesh.nodes → AllNumbered after.nodes
over_numbered setup mesh after place now frame None e all = subst (λ (m : Mesh). AllNumbered m.nodes) (ok_one mesh after e) all
over_numbered setup mesh after place now frame (Some link) e all =
    given_numbered setup mesh after link.to now frame.root (LinkFrame (suc place) (address_at link.from mesh.nodes) (throughput_between link.to link.from mesh.links) frame.bytes) e (λ node found. inl refl) all

frame_numbered : (setup : Setup) (mesh after : Mesh) (place now : ℕ) (o : Option SentFrame) → frame_given setup place now o mesh ≡ Ok after → AllNumbered mesh.nodes → AllNumbered after.nodes
frame_numbered setup mesh after place now None e all = subst (λ (m : Mesh). AllNumbered m.nodes) (ok_one mesh after e) all
frame_numbered setup mesh after place now (Some frame) e all = over_numbered setup mesh after place now frame (slice_get mesh.links frame.link) e all

tick_numbered : (setup : Setup) (mesh after : Mesh) (place now : ℕ) (o : Option NodeLog) → slice_get mesh.nodes place ≡ o → tick_given setup place now o mesh ≡ Ok after → AllNumbered mesh.nodes → AllNumbered after.nodes
tick_numbered setup mesh after place now None found e all = subst (λ (m : Mesh). AllNumbered m.nodes) (ok_one mesh after e) all
tick_numbered setup mesh after place now (Some n) found e all =
    given_numbered setup mesh after place now (suc (ticks_in n.log)) (Tick (suc (ticks_in n.log))) e (λ node f. inr (ap (λ (x : NodeLog). as_tick (suc (ticks_in x.log))) (some_one n node (sym found ∙ f)))) all

effect_numbered : (setup : Setup) (mesh after : Mesh) (class : Class) (place now : ℕ) → effect setup class place now mesh ≡ Ok after → AllNumbered mesh.nodes → AllNumbered after.nodes
effect_numbered setup mesh after LinkDelivery place now e all = frame_numbered setup mesh after place now (slice_get mesh.frames place) e all
effect_numbered setup mesh after LanDelivery place now e all = lan_numbered setup mesh after now (slice_get mesh.puts place) e all
effect_numbered setup mesh after NodeTick place now e all = tick_numbered setup mesh after place now (slice_get mesh.nodes place) refl e all

happening_numbered : (setup : Setup) (mesh after : Mesh) (h : Happening) → after_happening setup h mesh ≡ Ok after → AllNumbered mesh.nodes → AllNumbered after.nodes
happening_numbered setup mesh after h e all =
    let p = on_ok_ok (with_last setup h) (effect setup h.class h.place h.moment mesh) after e in
    subst (λ (m : Mesh). AllNumbered m.nodes) (ok_one (record (with_lines (lines_told setup h p.0) p.0) { last = h }) after p.2) (effect_numbered setup mesh p.0 h.class h.place h.moment p.1 all)

pub all_numbered : (queries : Mac → Queries) (clock : ℕ) (mesh : Mesh) → IsReached (scenario_setup queries) clock mesh → AllNumbered mesh.nodes
all_numbered queries _ _ (begins watched) = λ place node e. cc
all_numbered queries _ _ (joins clock mesh name mac way few) = λ place node e. elim (get_last mesh.nodes (new_node name mac clock) place node e) as (λ _. Numbered node.log) [
  | inl old ↦ all_numbered queries clock mesh way place node old
  | inr new ↦ subst (λ (n : NodeLog). Numbered n.log) (sym new) (omega arith, omega arith)
]
all_numbered queries _ _ (links clock mesh link way few new) = all_numbered queries clock mesh way
all_numbered queries _ _ (lan_joins clock mesh after name gateways way few new e) =
    all_given_numbered (scenario_setup queries) gateways clock (attachment mesh gateways) (with_lan (record { name = name; gateways = gateways }) mesh) after refl e (all_numbered queries clock mesh way)
all_numbered queries _ _ (lan_comes clock mesh after put way by now low e) = subst AllNumbered (sym (sends_put (scenario_setup queries) put mesh after low e).nodes) (all_numbered queries clock mesh way)
all_numbered queries _ _ (all_are_given clock mesh after places line way leaves e) = all_given_numbered (scenario_setup queries) places clock (Line line) mesh after refl e (all_numbered queries clock mesh way)
all_numbered queries _ _ (is_given clock mesh after place given way line e) =
    given_numbered (scenario_setup queries) mesh after place clock 0 given e (λ node found. inl (of_line mesh.frames given line).0) (all_numbered queries clock mesh way)
all_numbered queries _ _ (is_delivered clock mesh after place way e) = frame_numbered (scenario_setup queries) mesh after place clock (slice_get mesh.frames place) e (all_numbered queries clock mesh way)
all_numbered queries _ _ (happens clock mesh after h way next later within e) = happening_numbered (scenario_setup queries) mesh after h e (all_numbered queries clock mesh way)
all_numbered queries _ _ (passes clock later mesh way l low quiet) = all_numbered queries clock mesh way

-- the next tick of a node that has few
pub may_tick : (queries : Mac → Queries) (clock : ℕ) (mesh : Mesh) (place : ℕ) (node : NodeLog) → IsReached (scenario_setup queries) clock mesh → slice_get mesh.nodes place ≡ Some node → ticks_in node.log < 4294967295 → MayTick (knowledge (queries node.mac) node.mac node.log).routes (suc (ticks_in node.log))
may_tick queries clock mesh place node way found few =
    let c = log_counted (queries node.mac) node.mac node.log in
    let n = all_numbered queries clock mesh way place node found in
    let t : own_ticks (knowledge (queries node.mac) node.mac node.log).routes ≡ (since_reboot node.log).0 = ap (λ (p : ℕ × Option ℕ). p.0) c in
    let no_more = n.1 in
    record {
      follows = subst (λ (p : ℕ × Option ℕ). FollowsIndex p.1 (suc (ticks_in node.log))) (sym c) n.0;
      few = omega (arith, t, no_more, few);
    }

-- ---- what is to come
pub not_before : (queries : Mac → Queries) (clock : ℕ) (mesh : Mesh) → IsReached (scenario_setup queries) clock mesh → (x : Happening) → Happens mesh x → Before mesh.last x → clock ≤ x.moment
not_before queries _ _ (begins watched) x h b = omega arith
not_before queries _ _ (joins clock mesh name mac way few) x h b = elim (nodes_add_later mesh (new_node name mac clock) x h) as (λ _. clock ≤ x.moment) [
  | inl old ↦ not_before queries clock mesh way x old b
  | inr l ↦ omega (arith, l)
]
not_before queries _ _ (links clock mesh link way few new) x h b = not_before queries clock mesh way x (links_add_nothing mesh link x (reached queries clock mesh way).sound h) b
not_before queries _ _ (lan_joins clock mesh after name gateways way few new e) x h b =
    elim ((joined_later (scenario_setup queries) name gateways clock mesh after x (reached queries clock mesh way).sound e).1 h) as (λ _. clock ≤ x.moment) [
      | inl old ↦ not_before queries clock mesh way x old (subst (λ y. Before y x) (joined_effect (scenario_setup queries) name gateways clock mesh after e).last b)
      | inr m ↦ omega (arith, m)
    ]
not_before queries _ _ (lan_comes clock mesh after put way by now low e) x h b =
    let s = put_joins (scenario_setup queries) put mesh after low e in
    elim ((effect_later (scenario_setup queries) put.moment mesh after x (reached queries clock mesh way).sound s).1 h) as (λ _. clock ≤ x.moment) [
      | inl old ↦ not_before queries clock mesh way x old (subst (λ y. Before y x) s.last b)
      | inr m ↦ omega (arith, m, now)
    ]
not_before queries _ _ (all_are_given clock mesh after places line way leaves e) x h b =
    let s = all_effect (scenario_setup queries) places clock (Line line) mesh after refl (λ frames. tt) e in
    elim ((effect_later (scenario_setup queries) clock mesh after x (reached queries clock mesh way).sound s).1 h) as (λ _. clock ≤ x.moment) [
      | inl old ↦ not_before queries clock mesh way x old (subst (λ y. Before y x) s.last b)
      | inr m ↦ omega (arith, m)
    ]
not_before queries _ _ (is_given clock mesh after place given way line e) x h b =
    let l = of_line mesh.frames given line in
    let s = tickless (scenario_setup queries) mesh place clock 0 given after l.0 l.1 e in
    elim (added (scenario_setup queries) no_ticks clock mesh after x (reached queries clock mesh way).sound s.nodes s.adds h) as (λ _. clock ≤ x.moment) [
      | inl old ↦ not_before queries clock mesh way x old (subst (λ y. Before y x) s.last b)
      | inr m ↦ omega (arith, m)
    ]
not_before queries _ _ (is_delivered clock mesh after place way e) x h b =
    let s = delivered_effect (scenario_setup queries) mesh place clock after e in
    elim (added (scenario_setup queries) no_ticks clock mesh after x (reached queries clock mesh way).sound s.nodes s.adds h) as (λ _. clock ≤ x.moment) [
      | inl old ↦ not_before queries clock mesh way x old (subst (λ y. Before y x) s.last b)
      | inr m ↦ omega (arith, m)
    ]
not_before queries _ _ (happens clock mesh after h way next later within e) x p b = moments h x (subst (λ y. Before y x) (step_is (scenario_setup queries) mesh h after e).last b)
not_before queries _ _ (passes clock later mesh way l low quiet) x h b = let m = quiet x h b in omega (arith, m)
