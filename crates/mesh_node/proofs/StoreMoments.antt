-- No message of a transaction came after the newest input.
use Rattle.std.proofs.Common.{◌≡◌, ◌≤◌, ℕ, Bool, true, false, cond, List, [], ◌∷◌, Option, Some, None, refl, sym, ap, subst, arith}
use Rattle.std.proofs.lemmas.Option.{same_Some}
use Rattle.alfred_core.specs.Transactions.{newest_moment as newest_message}
use Rattle.alfred_store.specs.StoreStands.{IsBefore, KnownStore, store_in}
use Rattle.mesh_base.specs.declared.address.Mac.{Mac}
use Rattle.mesh_base.specs.declared.client.Vid.{Vid}
use Rattle.mesh_model.specs.declared.line_form.AlfredMode.{AlfredMode}
use Rattle.mesh_model.specs.declared.line_form.AlfredMode.TheVariants.{Off, Primary as IsPrimary, Secondary}
use Rattle.mesh_model.specs.declared.packet.Head.{Head}
use Rattle.mesh_model.specs.declared.packet.Head.TheVariants.{IvOgm, Bcast, Elp, Ogm2, Unicast, Frag, Unicast4, Icmp, Utvlv}
use Rattle.mesh_model.specs.declared.service.Fact.{Fact}
use Rattle.mesh_model.specs.Clients.Log.{Given, Tick, LinkFrame, LanFrame, Line, LineGiven, Attach, Frame, Gone, Join, Leave, Arp, Dhcp, Sets, Put, Get, Ping, Trace, Reboot, Log}
use Rattle.mesh_model.specs.Clients.Mentions.{key_of, mentions, next_mentions, passed_from_lan}
use Rattle.mesh_model.specs.Clients.Settings.{Setting, Wifi, Gateway, Multicast, ArpTable, FactStore, Pictures, LongestWhole}
use Rattle.mesh_model.specs.Knowledge.FactStore.{after_answering, after_brought, after_closing, after_fact_message, after_get, after_push, after_store_message, after_whole_push, closed_by, txn_call, with_fact, with_facts}
use Rattle.mesh_model.specs.Fragments.Assembly.{PartCall, part_of}
use Rattle.mesh_model.specs.Knowledge.Known.{Knowledge}
use Rattle.mesh_model.specs.Knowledge.Pairs.{after_arp, after_came, after_question, is_asked, with_ask, with_learned}
use Rattle.mesh_model.specs.Knowledge.PutTogether.{fact_carried, put_together, with_part}
use Rattle.mesh_model.specs.Knowledge.Served.{FactRequest}
use Rattle.mesh_model.specs.Knowledge.Steps.{Coming, after_call, after_frame, after_packet, after_packets, after_passed, after_sighting, knowledge, line_knowledge, next_knowledge, table_behind, with_set}
use Rattle.mesh_model.specs.Knowledge.Told.{message_of}
use Rattle.mesh_model.specs.Packets.ArpMessages.{ArpCame, Asks, Puts, Tells}
use Rattle.mesh_model.specs.Packets.FactMessages.{CameFact, FactMessage, HasPart, Primary, Requests, HasEnd}
use Rattle.mesh_model.specs.Packets.FirstPacket.{Packet}
use Rattle.mesh_model.specs.Packets.LanFrames.{client_frame_in, lan_message_of}
use Rattle.mesh_model.specs.Packets.LinkFrame.{link_frame}
use Rattle.mesh_model.specs.Routes.Queries.{Queries}
use Rattle.mesh_model.specs.Services.ArpTable.{AskedFor}
use Rattle.mesh_model.specs.Services.Facts.{CameFrom}
use Rattle.mesh_model.specs.Services.Transactions.{APart, AnEnd, TxnCall, made_whole}
use Rattle.mesh_laws.proofs.KeptLemmas.{HasCome, Kept, brings, call_kept, frame_kept, get_kept, head_comes, head_part, joins, kept_of, leaves, passed_kept, stores, tick_kept}
use Rattle.mesh_node.specs.NodeStands.{IsRising}
use Rattle.node_ground.specs.OwnStands.{newest_moment}

-- before a later moment too
later : (known : KnownStore) (now then : ℕ) → IsBefore known now → now ≤ then → IsBefore known then
later known now then before late = record {
  pushes = (let before = before.pushes in omega (arith, before, late));
  answers = (let before = before.answers in omega (arith, before, late));
}

-- what is kept of transactions stays
stays : (known after : Knowledge) (now : ℕ) → kept_of after ≡ kept_of known → IsBefore (store_in known) now → IsBefore (store_in after) now
stays known after now same before = record {
  pushes = subst (λ (k : Kept). newest_message k.pushes ≤ now) (sym same) before.pushes;
  answers = subst (λ (k : Kept). newest_message k.answers ≤ now) (sym same) before.answers;
}

-- ---- messages of the store

at_once : (now : ℕ) → now ≤ now
at_once now = omega arith

-- facts that are taken are no messages
facts_before : (now then : ℕ) (sender : Mac) (facts : List Fact) (known : Knowledge) → IsBefore (store_in known) then → IsBefore (store_in (with_facts now sender facts known)) then
facts_before now then sender [] known before = before
facts_before now then sender (fact ∷ facts) known before =
    facts_before now then sender facts (with_fact (CameFrom now sender fact) known) (record { pushes = before.pushes; answers = before.answers })

whole_before : (now then : ℕ) (sender : Mac) (facts : Option (List Fact)) (known : Knowledge) → IsBefore (store_in known) then → IsBefore (store_in (after_whole_push now sender facts known)) then
whole_before now then sender None known before = before
whole_before now then sender (Some facts) known before = facts_before now then sender facts known before

push_before : (call : TxnCall) (known : Knowledge) → IsBefore (store_in known) call.moment → IsBefore (store_in (after_push call known)) call.moment
push_before call known before =
    whole_before call.moment call.moment call.sender (made_whole call known.services.pushes) (record known { services = record known.services { pushes = call ∷ known.services.pushes } })
    (record { pushes = at_once call.moment; answers = before.answers })

closing_before : (request : Option FactRequest) (known : Knowledge) (now : ℕ) → IsBefore (store_in known) now → IsBefore (store_in (after_closing request known)) now
closing_before None known now before = before
closing_before (Some request) known now before = record { pushes = before.pushes; answers = before.answers }

answering_before : (call : TxnCall) (known : Knowledge) → IsBefore (store_in known) call.moment → IsBefore (store_in (after_answering call known)) call.moment
answering_before call known before =
    closing_before (closed_by call known.services) (record known { services = record known.services { answers = call ∷ known.services.answers } }) call.moment
    (record { pushes = before.pushes; answers = at_once call.moment })

brought_before : (mode : AlfredMode) (push : Bool) (call : TxnCall) (known : Knowledge) → IsBefore (store_in known) call.moment → IsBefore (store_in (after_brought mode push call known)) call.moment
brought_before Off push call known before = before
brought_before IsPrimary true call known before = push_before call known before
brought_before IsPrimary false call known before = answering_before call known before
brought_before Secondary true call known before = before
brought_before Secondary false call known before = answering_before call known before

store_before : (mode : AlfredMode) (now : ℕ) (sender : Mac) (message : FactMessage) (known : Knowledge) → IsBefore (store_in known) now → IsBefore (store_in (after_store_message mode now sender message known)) now
store_before mode now sender (HasPart push id number facts) known before = brought_before mode push (txn_call now sender id (APart number facts)) known before
store_before Off now sender Primary known before = before
store_before IsPrimary now sender Primary known before = record { pushes = before.pushes; answers = before.answers }
store_before Secondary now sender Primary known before = record { pushes = before.pushes; answers = before.answers }
store_before mode now sender (Requests id type_no) known before = before
store_before mode now sender (HasEnd push id count) known before = brought_before mode push (txn_call now sender id (AnEnd count)) known before

message_before : (now : ℕ) (told : Option CameFact) (known : Knowledge) → IsBefore (store_in known) now → IsBefore (store_in (after_fact_message now told known)) now
message_before now None known before = before
message_before now (Some came) known before = store_before known.services.settings.fact_store now came.sender came.message known before

-- ---- packets

arp_before : (now : ℕ) (came : Option ArpCame) (known : Knowledge) → IsBefore (store_in known) now → IsBefore (store_in (after_arp now came known)) now
arp_before now came known before = go known.services.settings.arp_table came
  where
    go : (on : Bool) (came : Option ArpCame) → IsBefore (store_in (cond on (after_came now came known) known)) now
    go false came = before
    go true None = before
    go true (Some (Puts m)) = record { pushes = before.pushes; answers = before.answers }
    go true (Some (Asks m)) = before
    go true (Some (Tells m)) = record { pushes = before.pushes; answers = before.answers }

-- a part comes at the moment of its packet
pub part_moment : (now : ℕ) (head : Head) (tail : List ℕ) (call : PartCall) → head_part now head tail ≡ Some call → call.moment ≡ now
part_moment now (IvOgm ttl flags seq orig prev tq) tail call is = absurd cc
part_moment now (Bcast ttl seq orig) tail call is = absurd cc
part_moment now (Elp orig seq interval) tail call is = absurd cc
part_moment now (Ogm2 ttl flags seq orig throughput) tail call is = absurd cc
part_moment now (Unicast ttl ttvn dst) tail call is = absurd cc
part_moment now (Frag ttl number priority dst orig seq total) tail call is = ap (λ (c : PartCall). c.moment) (sym (same_Some (part_of now orig seq total number tail) call is))
part_moment now (Unicast4 ttl ttvn dst src subtype) tail call is = absurd cc
part_moment now (Icmp ttl msg dst orig uid seq) tail call is = absurd cc
part_moment now (Utvlv ttl dst src) tail call is = absurd cc

step_before : (now : ℕ) (head : Head) (tail : List ℕ) (known after : Knowledge) → HasCome now head tail known after → IsBefore (store_in known) now → IsBefore (store_in after) now
step_before now head tail known _ (leaves after same) before = stays known after now same before
step_before now head tail known _ (brings came) before = arp_before now came known before
step_before now head tail known _ (stores told amid payload uncut of same) before = message_before now told amid (stays known amid now same before)
step_before now head tail known _ (joins call payload is) before =
    subst (λ moment. IsBefore (store_in (after_fact_message moment (fact_carried (put_together call known.parts)) (with_part call known))) now) (sym (part_moment now head tail call is))
    (message_before now (fact_carried (put_together call known.parts)) (with_part call known) before)

-- a packet
pub packet_before : (q : Queries) (me : Mac) (came : Coming) (known : Knowledge) (packet : Packet) → IsBefore (store_in known) came.now → IsBefore (store_in (after_packet q me came known packet)) came.now
packet_before q me came known packet before =
    step_before came.now packet.head packet.tail known (after_packet q me came known packet) (head_comes q me came (message_of packet) packet.tail packet.head known) before

packets_before : (q : Queries) (me : Mac) (came : Coming) (known : Knowledge) (packets : List Packet) → IsBefore (store_in known) came.now → IsBefore (store_in (after_packets q me came known packets)) came.now
packets_before q me came known [] before = before
packets_before q me came known (packet ∷ rest) before = packets_before q me came (after_packet q me came known packet) rest (packet_before q me came known packet before)

-- ---- lines

-- a question for a pair leaves the store
question_leaves : (q : Queries) (me : Mac) (now : ℕ) (mac : Mac) (own asked : ℕ) (vid : Vid) (known : Knowledge) → store_in (after_question q me now mac own asked vid known) ≡ store_in known
question_leaves q me now mac own asked vid known = go known.services.settings.arp_table (is_asked q me pair now asked vid)
  where
    pair : Knowledge
    pair = with_learned now own vid mac known

    go : (on more : Bool) → store_in (cond on (cond more (with_ask (AskedFor asked vid) pair) pair) known) ≡ store_in known
    go false more = refl
    go true false = refl
    go true true = refl

set_before : (setting : Setting) (known : Knowledge) (now : ℕ) → IsBefore (store_in known) now → IsBefore (store_in (with_set setting known)) now
set_before (Wifi on) known now before = before
set_before (Gateway part) known now before = before
set_before (Multicast flags) known now before = before
set_before (ArpTable on) known now before = before
set_before (FactStore mode) known now before = before
set_before (Pictures on) known now before = before
set_before (LongestWhole size) known now before = before

line_before : (q : Queries) (me : Mac) (older : Log) (known : Knowledge) (now : ℕ) (line : LineGiven) → IsBefore (store_in known) now → IsBefore (store_in (line_knowledge q me older known now line)) now
line_before q me older known now (Attach lan gateways) before = before
line_before q me older known now (Frame src dst vid text) before =
    let seen = after_sighting q me older now (key_of src vid) known in
    stays seen (after_frame q now (key_of dst vid) seen) now (frame_kept q now (key_of dst vid) seen) before
line_before q me older known now (Gone key) before = before
line_before q me older known now (Join key) before = before
line_before q me older known now (Leave key) before = before
line_before q me older known now (Arp mac own_ip asked_ip vid) before =
    subst (λ store. IsBefore store now) (sym (question_leaves q me now mac own_ip asked_ip vid (after_sighting q me older now (key_of mac vid) known))) (record { pushes = before.pushes; answers = before.answers })
line_before q me older known now (Dhcp key text) before =
    let seen = after_sighting q me older now key known in
    stays seen (after_call q now seen) now (call_kept q now seen) before
line_before q me older known now (Sets setting) before = set_before setting known now before
line_before q me older known now (Put type_no version text) before = record { pushes = before.pushes; answers = before.answers }
line_before q me older known now (Get type_no) before =
    let mode = known.services.settings.fact_store in
    stays known (after_get q now type_no mode known) now (get_kept q now type_no mode known) before
line_before q me older known now (Ping target) before = before
line_before q me older known now (Trace target) before = before
line_before q me older known now Reboot before = record { pushes = omega arith; answers = omega arith }

-- ---- the log

given_before : (q : Queries) (me : Mac) (older : Log) (known : Knowledge) (now : ℕ) (given : Given) → IsBefore (store_in known) now → IsBefore (store_in (next_knowledge q me older known now given)) now
given_before q me older known now (Tick index) before =
    let same = tick_kept q me now index (table_behind me older now index) known in
    record {
      pushes = subst (λ (k : Kept). newest_message k.pushes ≤ now) (sym same) before.pushes;
      answers = subst (λ (k : Kept). newest_message k.answers ≤ now) (sym same) before.answers;
    }
given_before q me older known now (LinkFrame number from throughput bytes) before =
    packets_before q me (record { now = now; from = from; throughput = throughput; number = number }) known (link_frame bytes).packets before
given_before q me older known now (LanFrame bytes) before =
    let after = next_mentions me older (mentions me older) now (LanFrame bytes) in
    let passed = passed_from_lan me older now (client_frame_in (lan_message_of bytes)) in
    stays known (after_passed q me older known now after passed) now (passed_kept q me older known now after passed) before
given_before q me older known now (Line line) before = line_before q me older known now line before

log_before : (q : Queries) (me : Mac) (log : Log) → IsRising log → IsBefore (store_in (knowledge q me log)) (newest_moment log)
log_before q me [] rising = record { pushes = omega arith; answers = omega arith }
log_before q me (entry ∷ older) rising =
    given_before q me older (knowledge q me older) entry.moment entry.given
    (later (store_in (knowledge q me older)) (newest_moment older) entry.moment (log_before q me older rising.1) rising.0)

-- no message came after a moment that isn't before the newest input
pub later_before : (q : Queries) (me : Mac) (log : Log) (now : ℕ) → IsRising log → newest_moment log ≤ now → IsBefore (store_in (knowledge q me log)) now
later_before q me log now rising late = later (store_in (knowledge q me log)) (newest_moment log) now (log_before q me log rising) late
