-- No part of a packet came after the newest input.
use Rattle.std.proofs.Common.{◌≡◌, ◌≤◌, ℕ, Bool, true, false, cond, List, [], ◌∷◌, Option, Some, None, refl, sym, ap, subst, ◌∙◌, arith}
use Rattle.mesh_base.specs.declared.address.Mac.{Mac}
use Rattle.mesh_base.specs.declared.client.Vid.{Vid}
use Rattle.mesh_frag.specs.Frags.{newest_moment as newest_part}
use Rattle.mesh_model.specs.declared.line_form.AlfredMode.{AlfredMode}
use Rattle.mesh_model.specs.declared.line_form.AlfredMode.TheVariants.{Off, Primary as IsPrimary, Secondary}
use Rattle.mesh_model.specs.declared.packet.Head.{Head}
use Rattle.mesh_model.specs.declared.service.Fact.{Fact}
use Rattle.mesh_model.specs.Clients.Log.{Given, Tick, LinkFrame, LanFrame, Line, LineGiven, Attach, Frame, Gone, Join, Leave, Arp, Dhcp, Sets, Put, Get, Ping, Trace, Reboot, Log}
use Rattle.mesh_model.specs.Clients.Mentions.{key_of, mentions, next_mentions, passed_from_lan}
use Rattle.mesh_model.specs.Knowledge.FactStore.{after_answering, after_brought, after_closing, after_fact_message, after_get, after_push, after_store_message, after_whole_push, closed_by, txn_call, with_fact, with_facts}
use Rattle.mesh_model.specs.Knowledge.Known.{Knowledge}
use Rattle.mesh_model.specs.Knowledge.Pairs.{after_arp, after_came, after_question, is_asked, with_ask, with_learned}
use Rattle.mesh_model.specs.Knowledge.PutTogether.{fact_carried, put_together, with_part}
use Rattle.mesh_model.specs.Knowledge.Served.{FactRequest}
use Rattle.mesh_model.specs.Knowledge.Steps.{Coming, after_call, after_frame, after_packet, after_packets, after_passed, after_sighting, after_tick, knowledge, line_knowledge, next_knowledge, table_behind}
use Rattle.mesh_model.specs.Knowledge.Told.{message_of}
use Rattle.mesh_model.specs.Packets.ArpMessages.{ArpCame, Asks, Puts, Tells}
use Rattle.mesh_model.specs.Packets.FactMessages.{CameFact, FactMessage, HasPart, Primary, Requests, HasEnd}
use Rattle.mesh_model.specs.Packets.FirstPacket.{Packet}
use Rattle.mesh_model.specs.Packets.LanFrames.{client_frame_in, lan_message_of}
use Rattle.mesh_model.specs.Packets.LinkFrame.{link_frame}
use Rattle.mesh_model.specs.Routes.Queries.{Queries}
use Rattle.mesh_model.specs.Services.ArpTable.{AskedFor}
use Rattle.mesh_model.specs.Services.Facts.{CameFrom}
use Rattle.mesh_model.specs.Services.Transactions.{APart, AnEnd, TxnCall, made_whole}
use Rattle.mesh_laws.proofs.KeptLemmas.{HasCome, Kept, brings, call_kept, frame_kept, get_kept, head_comes, joins, kept_of, leaves, passed_kept, stores, tick_kept}
use Rattle.mesh_node.specs.NodeStands.{IsRising}
use Rattle.mesh_node.specs.Past.{IsPast}
use Rattle.mesh_node.proofs.StoreMoments.{later_before, packet_before, part_moment}
use Rattle.node_ground.specs.OwnStands.{newest_moment}

-- those that are the same
parts_same : (known after : Knowledge) (now : ℕ) → after.parts ≡ known.parts → newest_part known.parts ≤ now → newest_part after.parts ≤ now
parts_same known after now same past = subst (λ parts. newest_part parts ≤ now) (sym same) past

parts_kept : (known after : Knowledge) → kept_of after ≡ kept_of known → after.parts ≡ known.parts
parts_kept known after same = ap (λ (k : Kept). k.parts) same

-- ---- messages of the store
facts_leave : (now : ℕ) (sender : Mac) (facts : List Fact) (known : Knowledge) → (with_facts now sender facts known).parts ≡ known.parts
facts_leave now sender [] known = refl
facts_leave now sender (fact ∷ facts) known = facts_leave now sender facts (with_fact (CameFrom now sender fact) known)

whole_leaves : (now : ℕ) (sender : Mac) (o : Option (List Fact)) (known : Knowledge) → (after_whole_push now sender o known).parts ≡ known.parts
whole_leaves now sender None known = refl
whole_leaves now sender (Some facts) known = facts_leave now sender facts known

push_leaves : (call : TxnCall) (known : Knowledge) → (after_push call known).parts ≡ known.parts
push_leaves call known = whole_leaves call.moment call.sender (made_whole call known.services.pushes) (record known {
  services = record known.services { pushes = call ∷ known.services.pushes };
})

closing_leaves : (o : Option FactRequest) (known : Knowledge) → (after_closing o known).parts ≡ known.parts
closing_leaves None known = refl
closing_leaves (Some request) known = refl

answering_leaves : (call : TxnCall) (known : Knowledge) → (after_answering call known).parts ≡ known.parts
answering_leaves call known = closing_leaves (closed_by call known.services) (record known {
  services = record known.services { answers = call ∷ known.services.answers };
})

brought_leaves : (mode : AlfredMode) (push : Bool) (call : TxnCall) (known : Knowledge) → (after_brought mode push call known).parts ≡ known.parts
brought_leaves Off push call known = refl
brought_leaves IsPrimary true call known = push_leaves call known
brought_leaves IsPrimary false call known = answering_leaves call known
brought_leaves Secondary true call known = refl
brought_leaves Secondary false call known = answering_leaves call known

store_leaves : (mode : AlfredMode) (now : ℕ) (sender : Mac) (message : FactMessage) (known : Knowledge) → (after_store_message mode now sender message known).parts ≡ known.parts
store_leaves mode now sender (HasPart push id number facts) known = brought_leaves mode push (txn_call now sender id (APart number facts)) known
store_leaves Off now sender Primary known = refl
store_leaves IsPrimary now sender Primary known = refl
store_leaves Secondary now sender Primary known = refl
store_leaves mode now sender (Requests id type_no) known = refl
store_leaves mode now sender (HasEnd push id count) known = brought_leaves mode push (txn_call now sender id (AnEnd count)) known

message_leaves : (now : ℕ) (told : Option CameFact) (known : Knowledge) → (after_fact_message now told known).parts ≡ known.parts
message_leaves now None known = refl
message_leaves now (Some came) known = store_leaves known.services.settings.fact_store now came.sender came.message known

-- ---- packets
arp_leaves : (now : ℕ) (came : Option ArpCame) (known : Knowledge) → (after_arp now came known).parts ≡ known.parts
arp_leaves now came known = go known.services.settings.arp_table came
  where
    go : (on : Bool) (came : Option ArpCame) → (cond on (after_came now came known) known).parts ≡ known.parts
    go false came = refl
    go true None = refl
    go true (Some (Puts m)) = refl
    go true (Some (Asks m)) = refl
    go true (Some (Tells m)) = refl

step_past : (now : ℕ) (head : Head) (tail : List ℕ) (known after : Knowledge) → HasCome now head tail known after → newest_part known.parts ≤ now → newest_part after.parts ≤ now
step_past now head tail known _ (leaves after same) past = parts_same known after now (parts_kept known after same) past
step_past now head tail known _ (brings came) past = parts_same known (after_arp now came known) now (arp_leaves now came known) past
step_past now head tail known _ (stores told amid payload uncut of same) past =
    parts_same known (after_fact_message now told amid) now (message_leaves now told amid ∙ parts_kept known amid same) past
step_past now head tail known _ (joins call payload is) past =
    let same = message_leaves call.moment (fact_carried (put_together call known.parts)) (with_part call known) in
    let moment : call.moment ≡ now = part_moment now head tail call is in
    subst (λ parts. newest_part parts ≤ now) (sym same) (omega (arith, moment))

-- a packet
pub packet_past : (q : Queries) (me : Mac) (came : Coming) (known : Knowledge) (packet : Packet) → IsPast known came.now → IsPast (after_packet q me came known packet) came.now
packet_past q me came known packet past = record {
  store = packet_before q me came known packet past.store;
  parts = step_past came.now packet.head packet.tail known (after_packet q me came known packet) (head_comes q me came (message_of packet) packet.tail packet.head known) past.parts;
}

packets_past : (q : Queries) (me : Mac) (came : Coming) (known : Knowledge) (packets : List Packet) → newest_part known.parts ≤ came.now → newest_part (after_packets q me came known packets).parts ≤ came.now
packets_past q me came known [] past = past
packets_past q me came known (packet ∷ rest) past =
    packets_past q me came (after_packet q me came known packet) rest
    (step_past came.now packet.head packet.tail known (after_packet q me came known packet) (head_comes q me came (message_of packet) packet.tail packet.head known) past)

-- ---- lines
question_leaves : (q : Queries) (me : Mac) (now : ℕ) (mac : Mac) (own asked : ℕ) (vid : Vid) (known : Knowledge) → (after_question q me now mac own asked vid known).parts ≡ known.parts
question_leaves q me now mac own asked vid known = go known.services.settings.arp_table (is_asked q me pair now asked vid)
  where
    pair : Knowledge
    pair = with_learned now own vid mac known

    go : (on more : Bool) → (cond on (cond more (with_ask (AskedFor asked vid) pair) pair) known).parts ≡ known.parts
    go false more = refl
    go true false = refl
    go true true = refl

line_past : (q : Queries) (me : Mac) (older : Log) (known : Knowledge) (now : ℕ) (line : LineGiven) → newest_part known.parts ≤ now → newest_part (line_knowledge q me older known now line).parts ≤ now
line_past q me older known now (Attach lan gateways) past = past
line_past q me older known now (Frame src dst vid text) past =
    let seen = after_sighting q me older now (key_of src vid) known in
    parts_same seen (after_frame q now (key_of dst vid) seen) now (parts_kept seen (after_frame q now (key_of dst vid) seen) (frame_kept q now (key_of dst vid) seen)) past
line_past q me older known now (Gone key) past = past
line_past q me older known now (Join key) past = past
line_past q me older known now (Leave key) past = past
line_past q me older known now (Arp mac own_ip asked_ip vid) past =
    let seen = after_sighting q me older now (key_of mac vid) known in
    parts_same seen (after_question q me now mac own_ip asked_ip vid seen) now (question_leaves q me now mac own_ip asked_ip vid seen) past
line_past q me older known now (Dhcp key text) past =
    let seen = after_sighting q me older now key known in
    parts_same seen (after_call q now seen) now (parts_kept seen (after_call q now seen) (call_kept q now seen)) past
line_past q me older known now (Sets setting) past = past
line_past q me older known now (Put type_no version text) past = past
line_past q me older known now (Get type_no) past =
    let mode = known.services.settings.fact_store in
    parts_same known (after_get q now type_no mode known) now (parts_kept known (after_get q now type_no mode known) (get_kept q now type_no mode known)) past
line_past q me older known now (Ping target) past = past
line_past q me older known now (Trace target) past = past
line_past q me older known now Reboot past = omega arith

-- ---- the log
given_past : (q : Queries) (me : Mac) (older : Log) (known : Knowledge) (now : ℕ) (given : Given) → newest_part known.parts ≤ now → newest_part (next_knowledge q me older known now given).parts ≤ now
given_past q me older known now (Tick index) past =
    let table = table_behind me older now index in
    parts_same known (after_tick q me now index table known) now (ap (λ (k : Kept). k.parts) (tick_kept q me now index table known)) past
given_past q me older known now (LinkFrame number from throughput bytes) past =
    packets_past q me (record { now = now; from = from; throughput = throughput; number = number }) known (link_frame bytes).packets past
given_past q me older known now (LanFrame bytes) past =
    let after = next_mentions me older (mentions me older) now (LanFrame bytes) in
    let passed = passed_from_lan me older now (client_frame_in (lan_message_of bytes)) in
    let known_after = after_passed q me older known now after passed in
    parts_same known known_after now (parts_kept known known_after (passed_kept q me older known now after passed)) past
given_past q me older known now (Line line) past = line_past q me older known now line past

log_past : (q : Queries) (me : Mac) (log : Log) → IsRising log → newest_part (knowledge q me log).parts ≤ newest_moment log
log_past q me [] rising = omega arith
log_past q me (entry ∷ older) rising =
    let before = log_past q me older rising.1 in
    let rise = rising.0 in
    given_past q me older (knowledge q me older) entry.moment entry.given (omega (arith, before, rise))

-- nothing came after a moment that isn't before the newest input
pub later_past : (q : Queries) (me : Mac) (log : Log) (now : ℕ) → IsRising log → newest_moment log ≤ now → IsPast (knowledge q me log) now
later_past q me log now rising late = record {
  store = later_before q me log now rising late;
  parts = (let before = log_past q me log rising in omega (arith, before, late));
}
