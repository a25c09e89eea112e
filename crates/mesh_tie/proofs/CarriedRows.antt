-- What the rows send carries payloads that came, or that a line begins.
use Rattle.std.proofs.Common.{◌≡◌, ◌≤◌, ◌-◌, ℕ, suc, Bool, true, false, cond, ◌||◌, ◌==◌, nat_le, List, [], ◌∷◌, ◌++◌, length, drop, Option, Some, None, flat_map, refl, subst}
use Rattle.std.specs.List.{AllByRecursion}
use Rattle.std.specs.Option.{unwrap_or}
use Rattle.mesh_base.specs.Address.{is_broadcast, is_group}
use Rattle.mesh_base.specs.declared.address.Mac.{Mac}
use Rattle.mesh_base.specs.declared.client.Key.{Key}
use Rattle.mesh_base.specs.declared.client.Vid.{Vid}
use Rattle.mesh_base.specs.declared.event.LossReason.{LossReason}
use Rattle.mesh_base.specs.declared.event.LossReason.TheVariants.{Unknown, Ttl, NoRoute}
use Rattle.mesh_base.specs.declared.event.Reason.TheVariants.{Alfred as ByAlfred, Fwd}
use Rattle.mesh_base.specs.declared.event.FactResult.TheVariants.{Fact as FactTold}
use Rattle.mesh_model.specs.declared.act.Act.{Act}
use Rattle.mesh_model.specs.declared.packet.Head.{Head}
use Rattle.mesh_model.specs.declared.packet.Head.TheVariants.{IvOgm, Bcast, Elp, Ogm2, Unicast, Frag, Unicast4, Icmp, Utvlv}
use Rattle.mesh_model.specs.declared.service.Fact.{Fact}
use Rattle.mesh_model.specs.declared.table_outcome.Request.{Request}
use Rattle.mesh_model.specs.Acts.ArpRows.{question_acts}
use Rattle.mesh_model.specs.Acts.BridgeRows.{Place, handed_out, out_acts, round_acts, spread_of_broadcast, spread_of_packet, unclaim_acts}
use Rattle.mesh_model.specs.Acts.GroupRows.{addressed, call_acts, flooded, group_acts}
use Rattle.mesh_model.specs.Acts.FactRows.{fact_acts}
use Rattle.mesh_model.specs.Acts.FragmentRows.{carried_here, passed_fragment, unicast_here}
use Rattle.mesh_model.specs.Acts.FrameRows.{advert_acts, arrived, broadcast_acts, broadcast_on, frame_acts, handed_out_if, here_acts, is_present, lost, lost_if, on_route, on_way, passed_frame, readdressed}
use Rattle.mesh_model.specs.Acts.OwnContainers.{own_containers}
use Rattle.mesh_model.specs.Acts.Packing.{part_containers, request_containers, roaming_container, sent_over, sent_to_all}
use Rattle.mesh_model.specs.Acts.ProbeRows.{IcmpMessage, icmp_head, session_acts}
use Rattle.mesh_model.specs.Acts.Rows.{Own, accepted_acts, alias_acts, alias_event, commit_acts, elp_acts, head_acts, icmp_acts, message_acts, ogm_acts, packet_acts, place_at, taken_acts, tick_acts}
use Rattle.mesh_model.specs.Acts.TableRows.{on_the_way, other_containers, own_answer, part_acts, request_acts, way_reply}
use Rattle.mesh_model.specs.Clients.Lans.{Bridge}
use Rattle.mesh_model.specs.Clients.Mentions.{Mention, key_of}
use Rattle.mesh_model.specs.Clients.Settings.{Settings}
use Rattle.mesh_model.specs.Commits.Aliases.{last_alias}
use Rattle.mesh_model.specs.Commits.Announcements.{announcement}
use Rattle.mesh_model.specs.Commits.History.{History, committed, is_commit_tick, present_table}
use Rattle.mesh_model.specs.Knowledge.Addressee.{Way, addressee}
use Rattle.mesh_model.specs.Knowledge.Known.{Broadcast, Knowledge, is_new_broadcast, told_at}
use Rattle.mesh_model.specs.Fragments.Assembly.{part_of}
use Rattle.mesh_model.specs.Knowledge.PutTogether.{Carried, put_together}
use Rattle.mesh_model.specs.Knowledge.Steps.{Coming, before_announcement, request_out}
use Rattle.mesh_model.specs.Knowledge.Told.{Message, TableMessage, Asks, Answers, Neither, message_in, message_of, message_with, stamp_told}
use Rattle.mesh_model.specs.Packets.Containers.{containers_of, containers_spelling}
use Rattle.mesh_model.specs.Packets.Contents.{first_roaming, first_table}
use Rattle.mesh_model.specs.Packets.Ethernet.{all_stations}
use Rattle.mesh_model.specs.Packets.FactMessages.{CameFact, Primary, fact_message_of, fact_message_spelling}
use Rattle.mesh_model.specs.Packets.FirstPacket.{Packet}
use Rattle.mesh_model.specs.Packets.Layout.{spelling}
use Rattle.mesh_model.specs.Packets.Payload.{ClientFrame, client_frame_of, payload_spelling}
use Rattle.mesh_model.specs.Routes.Addresses.{same_mac}
use Rattle.mesh_model.specs.Routes.Queries.{Queries, is_elp}
use Rattle.mesh_model.specs.Routes.RouteLog.{RouteLog}
use Rattle.mesh_model.specs.Tables.Versions.{Version}
use Rattle.mesh_model.specs.Tables.Answers.{Reply, own_reply, parts_of_reply}
use Rattle.mesh_laws.proofs.KeptLemmas.{kept_of}
use Rattle.mesh_tie.specs.Sources.{HasWholeAddresses, IsMessageOf, IsWhole, KeepsOriginators, MessageOf, word_of}
use Rattle.mesh_tie.specs.Tie.{KnowsWhole}
use Rattle.mesh_tie.proofs.ArpActs.{IsAsking, each_asking, puts_packet, puts_told, question_puts, unicast4_acts, unicast4_puts}
use Rattle.mesh_tie.proofs.CarriedLans.{out_has, round_has, unclaim_has}
use Rattle.mesh_tie.proofs.EntryLemmas.{each_appended, each_flat, each_of_any}
use Rattle.mesh_tie.proofs.FactActs.{AreStoring, Came, IsNoFact, IsStoring, each_storing, fact_puts, sends_announcement, sends_message, tells_fact, tells_none}
use Rattle.mesh_tie.proofs.FactLemmas.{Stores}
use Rattle.mesh_tie.proofs.FactReading.{sender_whole}
use Rattle.mesh_tie.proofs.KnowsLemmas.{IfWay, addressee_whole}
use Rattle.mesh_tie.proofs.ServesLemmas.{receiver_whole}
use Rattle.mesh_tie.proofs.ServingActs.{IsServing, call_serves, each_serving, group_serves, serves_all, serves_here, serves_one}
use Rattle.mesh_tie.proofs.ProbeActs.{AreProbing, IsProbing, icmp_puts, puts_message, puts_pinged, puts_traced, session_puts}
use Rattle.mesh_tie.proofs.CarriedHeads.{IsCarried, Kept, handed_has, ActHas, ActsHave, HeadHas, IsPart, PacketHas, bcast_has, elp_none, frag_has, icmp_none, iv_none, ogm2_none, unicast4_none, unicast_has, utvlv_none}

-- ---- rows that carry none
over_none : (P : Kept) (next : Option Mac) (ttl : ℕ) (dst src : Mac) (tail : List ℕ) → ActsHave P (sent_over next (Utvlv ttl dst src) tail)
over_none P None ttl dst src tail = tt
over_none P (Some to) ttl dst src tail = (utvlv_none P (drop 1 (spelling (Utvlv ttl dst src) tail)), tt)

message_none : (P : Kept) (source : Mac) (head : Head) (tail : List ℕ) → word_of head ≡ MessageOf source → ActHas P (sent_to_all head tail)
message_none P source (IvOgm ttl flags seq orig prev tq) tail is = iv_none P (drop 1 (spelling (IvOgm ttl flags seq orig prev tq) tail))
message_none P source (Bcast ttl seq orig) tail is = cc
message_none P source (Elp orig seq interval) tail is = cc
message_none P source (Ogm2 ttl flags seq orig throughput) tail is = ogm2_none P (drop 1 (spelling (Ogm2 ttl flags seq orig throughput) tail))
message_none P source (Unicast ttl ttvn dst) tail is = cc
message_none P source (Frag ttl number priority dst orig seq total) tail is = cc
message_none P source (Unicast4 ttl ttvn dst src subtype) tail is = cc
message_none P source (Icmp ttl msg dst orig uid seq) tail is = cc
message_none P source (Utvlv ttl dst src) tail is = cc

messages_none : (P : Kept) (source : Mac) (o : Option Head) (tail : List ℕ) → ((head : Head) → o ≡ Some head → IsMessageOf source head) → ActsHave P (message_acts o tail)
unfolding message_acts
messages_none P source None tail of = tt
messages_none P source (Some head) tail of = (message_none P source head tail (of head refl).word, tt)

elp_acts_none : (P : Kept) (head : Head) → is_elp head ≡ true → ActHas P (sent_to_all head [])
elp_acts_none P (IvOgm ttl flags seq orig prev tq) is = cc
elp_acts_none P (Bcast ttl seq orig) is = cc
elp_acts_none P (Elp orig seq interval) is = elp_none P (drop 1 (spelling (Elp orig seq interval) []))
elp_acts_none P (Ogm2 ttl flags seq orig throughput) is = cc
elp_acts_none P (Unicast ttl ttvn dst) is = cc
elp_acts_none P (Frag ttl number priority dst orig seq total) is = cc
elp_acts_none P (Unicast4 ttl ttvn dst src subtype) is = cc
elp_acts_none P (Icmp ttl msg dst orig uid seq) is = cc
elp_acts_none P (Utvlv ttl dst src) is = cc

elps_none : (P : Kept) (o : Option Head) → ((head : Head) → o ≡ Some head → is_elp head ≡ true) → ActsHave P (message_acts o [])
unfolding message_acts
elps_none P None of = tt
elps_none P (Some head) of = (elp_acts_none P head (of head refl), tt)

probe_none : (P : Kept) (acts : List Act) → AreProbing acts → ActsHave P acts
probe_none P [] all = tt
probe_none P (act ∷ acts) all = (one act all.0, probe_none P acts all.1)
  where
    one : (act : Act) → IsProbing act → ActHas P act
    one _ (puts_message next m) = icmp_none P (drop 1 (spelling (icmp_head m) []))
    one _ (puts_pinged node target seq result) = record { handed_out = λ moment n vid src dst text is. cc; bridged = λ moment lan vid src dst text is. cc; told = λ me type_no source version text is. cc }
    one _ (puts_traced node target result) = record { handed_out = λ moment n vid src dst text is. cc; bridged = λ moment lan vid src dst text is. cc; told = λ me type_no source version text is. cc }

asking_none : (P : Kept) (act : Act) → IsAsking act → ActHas P act
asking_none P _ (puts_packet next ttl ttvn dst src subtype payload) = unicast4_none P (drop 1 (spelling (Unicast4 ttl ttvn dst src subtype) payload))
asking_none P _ (puts_told node ip result) = record { handed_out = λ moment n vid src dst text is. cc; bridged = λ moment lan vid src dst text is. cc; told = λ me type_no source version text is. cc }

pub question_none : (P : Kept) (q : Queries) (known : Knowledge) (at : Place) (mac : Mac) (own_ip asked_ip : ℕ) (vid : Vid) → ActsHave P (question_acts q known at mac own_ip asked_ip vid)
question_none P q known at mac own_ip asked_ip vid = each_asking (ActHas P) (asking_none P) (question_acts q known at mac own_ip asked_ip vid) (question_puts q known at mac own_ip asked_ip vid)

pub have_if : (P : Kept) (b : Bool) (xs ys : List Act) → ActsHave P xs → ActsHave P ys → ActsHave P (cond b xs ys)
have_if P true xs ys a b = a
have_if P false xs ys a b = b

request_none : (P : Kept) (me : Mac) (next : Option Mac) (message : Message) (o : Option Request) → ActsHave P (request_acts me next message o)
request_none P me next message None = tt
request_none P me next message (Some request) = over_none P next 50 message.orig me (request_containers request (stamp_told message.table))

pub session_has : (P : Kept) (q : Queries) (known : Knowledge) (at : Place) (target : Mac) (trace : Bool) → ActsHave P (session_acts q known at target trace)
session_has P q known at target trace = probe_none P (session_acts q known at target trace) (session_puts q known at target trace)

pub advert_has : (P : Kept) (me : Mac) (key : Key) (o : Option Way) → ActsHave P (advert_acts me key o)
advert_has P me key None = tt
advert_has P me key (Some way) = (utvlv_none P (drop 1 (spelling (Utvlv 50 way.orig me) (containers_spelling (roaming_container key ∷ [])))), tt)

-- an answer, in however many packets
answer_has : (P : Kept) (next : Option Mac) (orig asker : Mac) (reply : Reply) → ActsHave P (flat_map (part_acts next orig asker) (parts_of_reply reply))
answer_has P next orig asker reply =
    each_flat (ActHas P) (part_acts next orig asker) (parts_of_reply reply)
    (each_of_any (λ part. ActsHave P (part_acts next orig asker part)) (parts_of_reply reply) (λ part. over_none P next 50 asker orig (part_containers part)))

own_has : (P : Kept) (q : Queries) (me : Mac) (known : Knowledge) (now : ℕ) (own : Own) (asker : Mac) (message : TableMessage) → ActsHave P (own_answer q me known now own.last own.told asker message)
unfolding own_answer
own_has P q me known now own asker (Asks full stamp) = answer_has P (q.route known.routes now asker) me asker (own_reply full stamp.byte own.last own.told)
own_has P q me known now own asker (Answers stamp carried) = tt
own_has P q me known now own asker Neither = tt

other_has : (P : Kept) (q : Queries) (known : Knowledge) (now ttl : ℕ) (dst src : Mac) (tail : List ℕ) → ActsHave P (other_containers q known now ttl dst src tail)
unfolding other_containers
other_has P q known now ttl dst src tail = go (way_reply q known now dst (message_in (first_table (containers_of tail))))
  where
    go : (o : Option Reply) → ActsHave P (on_the_way q known now ttl dst src tail o)
    go None = have_if P (nat_le ttl 1) [] (sent_over (q.route known.routes now dst) (Utvlv (ttl - 1) dst src) tail) tt (over_none P (q.route known.routes now dst) (ttl - 1) dst src tail)
    go (Some reply) = answer_has P (q.route known.routes now src) dst src reply

ogm_has : (P : Kept) (q : Queries) (me : Mac) (came : Coming) (head : Head) (source : Mac) (message : Message) (tail : List ℕ) (known : Knowledge) → KeepsOriginators me q → IsWhole came.from → IsMessageOf source head
    → ActsHave P (ogm_acts q me came head message tail known)
unfolding ogm_acts
ogm_has P q me came head source message tail known keeps from is =
    let heard = q.hear known.routes came.now came.from came.throughput head in
    let before = before_announcement q came head message.orig known in
    each_appended (ActHas P) (message_acts heard.forward tail) (cond heard.accepted (accepted_acts q me came head message known) [])
    (messages_none P source heard.forward tail (λ sent e. keeps.onward known.routes came.now came.from came.throughput head sent source from is e))
    (have_if P heard.accepted (accepted_acts q me came head message known) [] (request_none P me (q.route before.routes came.now message.orig) message (request_out q before came.now message)) tt)

-- ---- the fact store
storing_has : (P : Kept) (me : Mac) → IsWhole me → (act : Act) → IsStoring IsWhole P.facts me act → ActHas P act
storing_has P me mine _ (sends_message next dst message to has) = unicast_has P next (Some ByAlfred) 50 0 dst (fact_message_spelling dst me message) to (P.told dst me message to mine has)
storing_has P me mine _ (sends_announcement number) = bcast_has P 50 number me (fact_message_spelling all_stations me Primary) mine (P.told all_stations me Primary refl mine tt)
storing_has P me mine _ (tells_fact type_no fact has) = record {
  handed_out = λ moment n vid src dst text is. cc;
  bridged = λ moment lan vid src dst text is. cc;
  told = λ node asked source version text is.
      let same : ◌≡◌ {A = Fact} (record { source = fact.source; type_no = fact.type_no; version = fact.version; bytes = fact.bytes }) (record { source = source; type_no = fact.type_no; version = version; bytes = text }) = cc in
      (fact.type_no, subst P.facts.answered same has);
}
storing_has P me mine _ (tells_none type_no result none) = record {
  handed_out = λ moment n vid src dst text is. cc;
  bridged = λ moment lan vid src dst text is. cc;
  told = λ node asked source version text is. let same : result ≡ FactTold source version text = cc in absurd (subst IsNoFact same none);
}

pub stores_have : (P : Kept) (me : Mac) (acts : List Act) → IsWhole me → AreStoring IsWhole P.facts me acts → ActsHave P acts
stores_have P me acts mine all = each_storing IsWhole P.facts me (ActHas P) (storing_has P me mine) acts all

-- what came in a payload that is carried
pub taken_came : (P : Kept) (tail : List ℕ) → P.carried tail → (came : CameFact) → fact_message_of tail ≡ Some came → Came IsWhole P.facts came
taken_came P tail carried came is = record { sender = sender_whole tail came is; message = P.taken tail came carried is }

-- ---- client frames
handed_if : (P : Kept) (bridge : Bridge) (at : Place) (orig : Mac) (tail : List ℕ) → IsWhole at.me → P.carried tail → ActsHave P (handed_out_if bridge at orig (client_frame_of tail))
handed_if P bridge at orig tail mine p = go (client_frame_of tail) refl
  where
    go : (o : Option ClientFrame) → client_frame_of tail ≡ o → ActsHave P (handed_out_if bridge at orig o)
    go None is = tt
    go (Some frame) is = out_has P bridge at (spread_of_broadcast bridge orig frame) frame tail mine p is

lost_one : (P : Kept) (at : Place) (reason : LossReason) (frame : ClientFrame) → ActHas P (lost at reason frame)
lost_one P at reason frame = record { handed_out = λ moment n vid src dst text is. cc; bridged = λ moment lan vid src dst text is. cc; told = λ me type_no source version text is. cc }

lost_has : (P : Kept) (at : Place) (reason : LossReason) (o : Option ClientFrame) → ActsHave P (lost_if at reason o)
lost_has P at reason None = tt
lost_has P at reason (Some frame) = (lost_one P at reason frame, tt)

broadcast_has : (P : Kept) (known : Knowledge) (bridge : Bridge) (at : Place) (ttl : ℕ) (broadcast : Broadcast) (tail : List ℕ) → IsWhole at.me → IsWhole broadcast.orig → P.carried tail → ActsHave P (broadcast_acts known bridge at ttl broadcast tail)
unfolding broadcast_acts
broadcast_has P known bridge at ttl broadcast tail mine whole p = have_if P (is_new_broadcast at.me at.now broadcast known.taken) (handed_out_if bridge at broadcast.orig (client_frame_of tail) ++ broadcast_on ttl broadcast tail) []
    (each_appended (ActHas P) (handed_out_if bridge at broadcast.orig (client_frame_of tail)) (broadcast_on ttl broadcast tail) (handed_if P bridge at broadcast.orig tail mine p)
    (have_if P (nat_le ttl 1) [] (sent_to_all (Bcast (ttl - 1) broadcast.number broadcast.orig) tail ∷ []) tt (bcast_has P (ttl - 1) broadcast.number broadcast.orig tail whole p, tt))) tt

passed_has : (P : Kept) (q : Queries) (known : Knowledge) (at : Place) (ttl ttvn : ℕ) (dst : Mac) (tail : List ℕ) → IsWhole dst → P.carried tail → ActsHave P (passed_frame q known at ttl ttvn dst tail)
unfolding passed_frame
passed_has P q known at ttl ttvn dst tail whole p = have_if P (nat_le ttl 1) (lost_if at Ttl (client_frame_of tail)) (on_route at ttl ttvn dst tail (q.route known.routes at.now dst))
    (lost_has P at Ttl (client_frame_of tail)) (go (q.route known.routes at.now dst))
  where
    go : (next : Option Mac) → ActsHave P (on_route at ttl ttvn dst tail next)
    go None = lost_has P at NoRoute (client_frame_of tail)
    go (Some next) = (unicast_has P next (Some Fwd) (ttl - 1) ttvn dst tail whole p, tt)

addressed_has : (P : Kept) (q : Queries) (known : Knowledge) (now ttl : ℕ) (way : Way) (tail : List ℕ) → IsWhole way.orig → P.carried tail → ActHas P (addressed q known now ttl way tail)
addressed_has P q known now ttl way tail whole p = unicast_has P way.next (Some way.reason) ttl (unwrap_or (told_at q known now way.orig) 0) way.orig tail whole p

here_has : (P : Kept) (q : Queries) (known : Knowledge) (ms : List Mention) (bridge : Bridge) (at : Place) (ttl : ℕ) (tail : List ℕ) → IsWhole at.me → KnowsWhole known → P.carried tail → ActsHave P (here_acts q known ms bridge at ttl tail)
unfolding here_acts
here_has P q known ms bridge at ttl tail mine k p = go (client_frame_of tail) refl
  where
    anew : (frame : ClientFrame) (way : Option Way) → IfWay way → ActsHave P (readdressed q known at ttl frame tail way)
    anew frame None whole = (lost_one P at Unknown frame, tt)
    anew frame (Some way) whole = have_if P (nat_le ttl 1) (lost at Ttl frame ∷ []) (addressed q known at.now (ttl - 1) way tail ∷ []) (lost_one P at Ttl frame, tt) (addressed_has P q known at.now (ttl - 1) way tail (whole way refl) p, tt)

    go : (o : Option ClientFrame) → client_frame_of tail ≡ o → ActsHave P (arrived q known ms bridge at ttl tail o)
    go None is = tt
    go (Some frame) is =
        let key = key_of frame.dst frame.vid in
        let way = addressee q known at.now key in
        have_if P (is_group frame.dst || is_present ms at.now key) (out_acts bridge at (spread_of_packet frame) frame) (readdressed q known at ttl frame tail way) (out_has P bridge at (spread_of_packet frame) frame tail mine p is) (anew frame way (addressee_whole q known at.now key k))

-- a packet for this node, which may be put together here
unicast_here_has : (P : Kept) (q : Queries) (known : Knowledge) (ms : List Mention) (bridge : Bridge) (at : Place) (ttl : ℕ) (payload : List ℕ) → IsWhole at.me → KnowsWhole known → Stores IsWhole P.facts (kept_of known) → P.carried payload
    → ActsHave P (unicast_here q known ms bridge at ttl payload)
unicast_here_has P q known ms bridge at ttl payload mine k s p =
    let told = fact_acts q known at (fact_message_of payload) in
    each_appended (ActHas P) (here_acts q known ms bridge at ttl payload) told (here_has P q known ms bridge at ttl payload mine k p)
    (stores_have P at.me told mine (fact_puts IsWhole P.facts q known at (fact_message_of payload) s (taken_came P payload p)))

carried_has : (P : Kept) (q : Queries) (known : Knowledge) (ms : List Mention) (bridge : Bridge) (at : Place) (o : Option Carried) → IsWhole at.me → KnowsWhole known → Stores IsWhole P.facts (kept_of known)
    → ((one : Carried) → o ≡ Some one → P.carried one.payload) → ActsHave P (carried_here q known ms bridge at o)
carried_has P q known ms bridge at None mine k s p = tt
carried_has P q known ms bridge at (Some one) mine k s p = unicast_here_has P q known ms bridge at one.ttl one.payload mine k s (p one refl)

-- a fragment for another node
fragment_has : (P : Kept) (q : Queries) (known : Knowledge) (now ttl place priority : ℕ) (dst orig : Mac) (seq total : ℕ) (tail : List ℕ) → IsWhole dst → priority ≤ 7 → P.part orig seq total place tail
    → ActsHave P (passed_fragment q known now ttl dst (Frag (ttl - 1) place priority dst orig seq total) tail)
fragment_has P q known now ttl place priority dst orig seq total tail whole low p =
    have_if P (nat_le ttl 1) [] (sent_over (q.route known.routes now dst) (Frag (ttl - 1) place priority dst orig seq total) tail) tt (go (q.route known.routes now dst))
  where
    go : (next : Option Mac) → ActsHave P (sent_over next (Frag (ttl - 1) place priority dst orig seq total) tail)
    go None = tt
    go (Some to) = (frag_has P (Some to) (ttl - 1) place priority dst orig seq total tail whole low p, tt)

-- for a group, or for a gateway
serving_has : (P : Kept) (q : Queries) (known : Knowledge) (at : Place) (frame : ClientFrame) → IsWhole at.me → IsCarried P frame → P.carried (payload_spelling frame) → (act : Act) → IsServing IsWhole q known at frame act → ActHas P act
serving_has P q known at frame mine given p _ (serves_one orig next reason whole for) = unicast_has P next (Some reason) 50 (unwrap_or (told_at q known at.now orig) 0) orig (payload_spelling frame) whole p
serving_has P q known at frame mine given p _ serves_all = bcast_has P 50 (suc known.sent) at.me (payload_spelling frame) mine p
serving_has P q known at frame mine given p _ serves_here = handed_has P at frame given

group_has : (P : Kept) (q : Queries) (known : Knowledge) (at : Place) (frame : ClientFrame) (joined : Bool) → IsWhole at.me → KnowsWhole known → IsCarried P frame → P.carried (payload_spelling frame) → ActsHave P (group_acts q known at frame joined)
group_has P q known at frame joined mine k given p =
    each_serving IsWhole q known at frame (ActHas P) (serving_has P q known at frame mine given p) (group_acts q known at frame joined) (group_serves IsWhole q known at frame joined (receiver_whole q known at.now (key_of frame.dst frame.vid) k.services))

pub call_has : (P : Kept) (q : Queries) (known : Knowledge) (at : Place) (frame : ClientFrame) → IsWhole at.me → KnowsWhole known → IsCarried P frame → P.carried (payload_spelling frame) → ActsHave P (call_acts q known at frame)
call_has P q known at frame mine k given p =
    each_serving IsWhole q known at frame (ActHas P) (serving_has P q known at frame mine given p) (call_acts q known at frame) (call_serves IsWhole q known at frame k.services.choice)

pub frame_has : (P : Kept) (q : Queries) (known : Knowledge) (ms : List Mention) (at : Place) (frame : ClientFrame) → IsWhole at.me → KnowsWhole known → IsCarried P frame → P.carried (payload_spelling frame) → ActsHave P (frame_acts q known ms at frame)
unfolding frame_acts
frame_has P q known ms at frame mine k given p =
    let key = key_of frame.dst frame.vid in
    let way = addressee q known at.now key in
    let sent = on_way q known at frame way in
    let handed = cond (is_present ms at.now key) (handed_out at frame ∷ []) sent in
    let group = group_acts q known at frame (is_present ms at.now key) in
    have_if P (is_broadcast frame.dst) (flooded known at frame ∷ []) (cond (is_group frame.dst) group handed)
    (bcast_has P 50 (suc known.sent) at.me (payload_spelling frame) mine p, tt)
    (have_if P (is_group frame.dst) group handed (group_has P q known at frame (is_present ms at.now key) mine k given p) (have_if P (is_present ms at.now key) (handed_out at frame ∷ []) sent (handed_has P at frame given, tt) (go way (addressee_whole q known at.now key k))))
  where
    go : (way : Option Way) → IfWay way → ActsHave P (on_way q known at frame way)
    go None whole = (lost_one P at Unknown frame, tt)
    go (Some way) whole = (addressed_has P q known at.now 50 way (payload_spelling frame) (whole way refl) p, tt)

-- ---- packets
pub packet_has : (P : Kept) (q : Queries) (me : Mac) (own : Own) (came : Coming) (packet : Packet) (known : Knowledge) → KeepsOriginators me q → IsWhole me → IsWhole came.from → KnowsWhole known → Stores IsWhole P.facts (kept_of known) → AllByRecursion (IsPart P) known.parts → HasWholeAddresses packet.head → PacketHas P packet
    → ActsHave P (packet_acts q me own came known packet)
unfolding packet_acts
packet_has P q me own came packet known keeps mine from k s parts whole has = go packet.head packet.tail whole has
  where
    taken : (head : Head) (source : Mac) (tail : List ℕ) (o : Option Message) → IsMessageOf source head → ActsHave P (taken_acts q me came head o tail known)
    taken head source tail None is = tt
    taken head source tail (Some message) is = ogm_has P q me came head source message tail known keeps from is

    go : (head : Head) (tail : List ℕ) → HasWholeAddresses head → HeadHas P tail head → ActsHave P (head_acts q me own came known (message_of (record { head = head; tail = tail })) tail head)
    go (IvOgm ttl flags seq o prev tq) tail w h = taken (IvOgm ttl flags seq o prev tq) o tail (message_with o (first_table (containers_of tail))) (record { word = refl; addresses = w })
    go (Bcast ttl seq o) tail w h = broadcast_has P known own.bridge (place_at me came) ttl (record { orig = o; number = seq }) tail mine h.0 h.1
    go (Elp o seq interval) tail w h = tt
    go (Ogm2 ttl flags seq o throughput) tail w h = taken (Ogm2 ttl flags seq o throughput) o tail (message_with o (first_table (containers_of tail))) (record { word = refl; addresses = w })
    go (Unicast ttl ttvn dst) tail w h =
        let at = place_at me came in
        have_if P (same_mac dst me) (unicast_here q known own.mentions own.bridge at ttl tail) (passed_frame q known at ttl ttvn dst tail)
        (unicast_here_has P q known own.mentions own.bridge at ttl tail mine k s h.1) (passed_has P q known at ttl ttvn dst tail h.0 h.1)
    go (Frag ttl number priority dst o seq total) tail w h =
        let at = place_at me came in
        let call = part_of came.now o seq total number tail in
        have_if P (same_mac dst me) (carried_here q known own.mentions own.bridge at (put_together call known.parts)) (passed_fragment q known came.now ttl dst (Frag (ttl - 1) number priority dst o seq total) tail)
        (carried_has P q known own.mentions own.bridge at (put_together call known.parts) mine k s (λ one is. P.joined call known.parts one h.2 parts is))
        (fragment_has P q known came.now ttl number priority dst o seq total tail h.0 h.1 h.2)
    go (Unicast4 ttl ttvn dst src subtype) tail w h =
        each_asking (ActHas P) (asking_none P) (unicast4_acts q me came known ttl ttvn dst src subtype tail) (unicast4_puts q me came known ttl ttvn dst src subtype tail)
    go (Icmp ttl msg dst o uid seq) tail w h =
        let m : IcmpMessage = record { ttl = ttl; kind = msg; dst = dst; orig = o; uid = uid; seq = seq } in
        probe_none P (icmp_acts q known (place_at me came) m) (icmp_puts q known (place_at me came) m)
    go (Utvlv ttl dst src) tail w h =
        let answer = own_answer q me known came.now own.last own.told src (message_in (first_table (containers_of tail))) in
        let unclaim = unclaim_acts (place_at me came) own.bridge (first_roaming (containers_of tail)) in
        have_if P (same_mac dst me) (answer ++ unclaim) (other_containers q known came.now ttl dst src tail)
        (each_appended (ActHas P) answer unclaim (own_has P q me known came.now own src (message_in (first_table (containers_of tail)))) (unclaim_has P (place_at me came) own.bridge (first_roaming (containers_of tail)) mine)) (other_has P q known came.now ttl dst src tail)

-- ---- ticks
-- an event of an alias carries nothing
event_has : (P : Kept) (me : Mac) (number : ℕ) (o : Option ℕ) → ActsHave P (alias_event me number o)
event_has P me number None = tt
event_has P me number (Some earlier) = (record { handed_out = λ moment n vid src dst text is. cc; bridged = λ moment lan vid src dst text is. cc; told = λ me type_no source version text is. cc }, tt)

pub aliases_have : (P : Kept) (me : Mac) (before after : List Version) → ActsHave P (alias_acts me before after)
aliases_have P me before after = have_if P (length after == length before) [] (alias_event me (length before) (last_alias after)) tt (event_has P me (length before) (last_alias after))

pub tick_has : (P : Kept) (q : Queries) (me : Mac) (settings : Settings) (routes : RouteLog) (ms : List Mention) (before : History) (bridge : Bridge) (now index : ℕ) → KeepsOriginators me q → IsWhole me → ActsHave P (tick_acts q me settings routes ms before bridge now index)
unfolding tick_acts
tick_has P q me settings routes ms before bridge now index keeps whole =
    let after = committed (present_table ms now) before in
    let tail = containers_spelling (own_containers settings (announcement after)) in
    let made = cond (is_commit_tick index) (commit_acts q me settings routes index before after) [] in
    let at : Place = record { me = me; now = now } in
    each_appended (ActHas P) (elp_acts q routes index) (made ++ round_acts at bridge index)
    (elps_none P (q.beats routes index).elp (λ head is. keeps.elps routes index head is))
    (each_appended (ActHas P) made (round_acts at bridge index) (have_if P (is_commit_tick index) (commit_acts q me settings routes index before after) []
    (each_appended (ActHas P) (alias_acts me before.commits after.commits) (message_acts (q.beats routes index).ogm tail)
    (aliases_have P me before.commits after.commits)
    (messages_none P me (q.beats routes index).ogm tail (λ head is. keeps.own routes index head whole is))) tt) (round_has P at bridge index whole))
