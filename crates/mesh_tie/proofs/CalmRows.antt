-- The rows that say nothing of tables, a line each.
use Rattle.std.proofs.Common.{◌≡◌, ◌-◌, ℕ, suc, Bool, true, false, cond, ◌||◌, nat_le, List, [], ◌∷◌, ◌++◌, drop, Option, Some, None, refl}
use Rattle.std.specs.List.{AllByRecursion}
use Rattle.std.specs.Option.{unwrap_or}
use Rattle.mesh_base.specs.Address.{is_broadcast, is_group}
use Rattle.mesh_base.specs.declared.address.Mac.{Mac}
use Rattle.mesh_base.specs.declared.client.Key.{Key}
use Rattle.mesh_base.specs.declared.client.Vid.{Vid}
use Rattle.mesh_base.specs.declared.event.Reason.{Reason}
use Rattle.mesh_base.specs.declared.event.Reason.TheVariants.{Alfred as ByAlfred, Fwd}
use Rattle.mesh_base.specs.declared.event.LossReason.TheVariants.{Ttl, NoRoute}
use Rattle.mesh_base.specs.declared.event.LossReason.{LossReason}
use Rattle.mesh_model.specs.declared.act.Act.{Act}
use Rattle.mesh_model.specs.declared.act.Act.TheVariants.{Link}
use Rattle.mesh_model.specs.declared.packet.Head.{Head}
use Rattle.mesh_model.specs.declared.packet.Head.TheVariants.{IvOgm, Bcast, Elp, Ogm2, Unicast, Frag, Unicast4, Icmp, Utvlv}
use Rattle.mesh_model.specs.Acts.ArpRows.{question_acts}
use Rattle.mesh_model.specs.Acts.BridgeRows.{Place, handed_out, out_acts, round_acts, spread_of_broadcast, spread_of_packet, unclaim_acts}
use Rattle.mesh_model.specs.Acts.FactRows.{fact_acts}
use Rattle.mesh_model.specs.Acts.FragmentRows.{carried_here, passed_fragment, unicast_here}
use Rattle.mesh_model.specs.Acts.GroupRows.{addressed, call_acts, flooded, group_acts}
use Rattle.mesh_model.specs.Acts.FrameRows.{arrived, broadcast_acts, broadcast_on, frame_acts, handed_out_if, here_acts, is_present, lost, lost_if, on_route, on_way, passed_frame, readdressed}
use Rattle.mesh_model.specs.Acts.Packing.{sent_over, sent_to, sent_to_all}
use Rattle.mesh_model.specs.Acts.ProbeRows.{IcmpMessage, icmp_head, session_acts}
use Rattle.mesh_model.specs.Acts.Rows.{elp_acts, icmp_acts, message_acts}
use Rattle.mesh_model.specs.Clients.Lans.{Bridge}
use Rattle.mesh_model.specs.Clients.Mentions.{Mention, key_of}
use Rattle.mesh_model.specs.Knowledge.Addressee.{Way, addressee}
use Rattle.mesh_model.specs.Knowledge.Known.{Broadcast, Knowledge, is_new_broadcast, told_at}
use Rattle.mesh_model.specs.Knowledge.PutTogether.{Carried}
use Rattle.mesh_model.specs.Knowledge.Steps.{Coming}
use Rattle.mesh_model.specs.Packets.Ethernet.{all_stations}
use Rattle.mesh_model.specs.Packets.FactMessages.{Primary, fact_message_of, fact_message_spelling}
use Rattle.mesh_model.specs.Packets.Layout.{spelling}
use Rattle.mesh_model.specs.Packets.Payload.{ClientFrame, client_frame_of, payload_spelling}
use Rattle.mesh_model.specs.Routes.Queries.{Queries, is_elp}
use Rattle.mesh_model.specs.Routes.RouteLog.{RouteLog}
use Rattle.mesh_tie.specs.Sources.{KeepsOriginators}
use Rattle.mesh_tie.proofs.ArpActs.{IsAsking, each_asking, puts_packet, puts_told, question_puts, unicast4_acts, unicast4_puts}
use Rattle.mesh_tie.proofs.BridgeActs.{AreBridging, IsBridging, hands_out, out_puts, puts_on_lan, round_puts, unclaim_puts}
use Rattle.mesh_tie.proofs.FactActs.{AreStoring, IsStoring, came_stores, each_storing, sends_announcement, sends_message, tells_fact, tells_none}
use Rattle.mesh_tie.proofs.FactLemmas.{any_facts}
use Rattle.mesh_tie.proofs.EntryLemmas.{each_appended}
use Rattle.mesh_tie.proofs.KindLemmas.{bcast_frame, elp_frame, frag_frame, icmp_frame, unicast4_frame, unicast_frame}
use Rattle.mesh_tie.proofs.ProbeActs.{AreProbing, IsProbing, icmp_puts, puts_message, puts_pinged, puts_traced, session_puts}
use Rattle.mesh_tie.proofs.Sayable.{IsCalm}
use Rattle.mesh_tie.proofs.ServingActs.{IsServing, call_serves, each_serving, group_serves, serves_all, serves_here, serves_one}

-- ---- packets that carry client frames
pub calm_bcast : (ttl seq : ℕ) (orig : Mac) (tail : List ℕ) → IsCalm (sent_to_all (Bcast ttl seq orig) tail)
calm_bcast ttl seq orig tail = bcast_frame (drop 1 (spelling (Bcast ttl seq orig) tail))

pub calm_unicast : (next : Mac) (reason : Option Reason) (ttl ttvn : ℕ) (dst : Mac) (tail : List ℕ) → IsCalm (sent_to next reason (Unicast ttl ttvn dst) tail)
calm_unicast next reason ttl ttvn dst tail = unicast_frame (drop 1 (spelling (Unicast ttl ttvn dst) tail))

-- ---- ELPs
calm_elp : (head : Head) → is_elp head ≡ true → IsCalm (sent_to_all head [])
calm_elp (IvOgm ttl flags seq orig prev tq) is = cc
calm_elp (Bcast ttl seq orig) is = cc
calm_elp (Elp orig seq interval) is = elp_frame (drop 1 (spelling (Elp orig seq interval) []))
calm_elp (Ogm2 ttl flags seq orig throughput) is = cc
calm_elp (Unicast ttl ttvn dst) is = cc
calm_elp (Frag ttl number priority dst orig seq total) is = cc
calm_elp (Unicast4 ttl ttvn dst src subtype) is = cc
calm_elp (Icmp ttl msg dst orig uid seq) is = cc
calm_elp (Utvlv ttl dst src) is = cc

pub calm_elps : (me : Mac) (q : Queries) (routes : RouteLog) (index : ℕ) → KeepsOriginators me q → AllByRecursion IsCalm (elp_acts q routes index)
unfolding message_acts
calm_elps me q routes index keeps = go (q.beats routes index).elp refl
  where
    go : (o : Option Head) → (q.beats routes index).elp ≡ o → AllByRecursion IsCalm (message_acts o [])
    go None is = tt
    go (Some head) is = (calm_elp head (keeps.elps routes index head is), tt)

pub calm_if : (b : Bool) (xs ys : List Act) → AllByRecursion IsCalm xs → AllByRecursion IsCalm ys → AllByRecursion IsCalm (cond b xs ys)
calm_if true xs ys a b = a
calm_if false xs ys a b = b

-- ---- the rows
calm_bridge : (act : Act) → IsBridging act → IsCalm act
calm_bridge _ (puts_on_lan bytes) = tt
calm_bridge _ (hands_out at frame) = λ me n e is. cc

pub calm_bridges : (acts : List Act) → AreBridging acts → AllByRecursion IsCalm acts
calm_bridges [] all = tt
calm_bridges (act ∷ acts) all = (calm_bridge act all.0, calm_bridges acts all.1)

calm_handed : (bridge : Bridge) (at : Place) (orig : Mac) (o : Option ClientFrame) → AllByRecursion IsCalm (handed_out_if bridge at orig o)
calm_handed bridge at orig None = tt
calm_handed bridge at orig (Some frame) = let spread = spread_of_broadcast bridge orig frame in calm_bridges (out_acts bridge at spread frame) (out_puts bridge at spread frame)

pub calm_unclaim : (at : Place) (bridge : Bridge) (o : Option Key) → AllByRecursion IsCalm (unclaim_acts at bridge o)
calm_unclaim at bridge o = calm_bridges (unclaim_acts at bridge o) (unclaim_puts at bridge o)

pub calm_round : (at : Place) (bridge : Bridge) (index : ℕ) → AllByRecursion IsCalm (round_acts at bridge index)
calm_round at bridge index = calm_bridges (round_acts at bridge index) (round_puts at bridge index)

calm_lost : (at : Place) (reason : LossReason) (o : Option ClientFrame) → AllByRecursion IsCalm (lost_if at reason o)
calm_lost at reason None = tt
calm_lost at reason (Some frame) = ((λ me n e is. cc), tt)

pub calm_broadcast : (known : Knowledge) (bridge : Bridge) (at : Place) (ttl : ℕ) (broadcast : Broadcast) (tail : List ℕ) → AllByRecursion IsCalm (broadcast_acts known bridge at ttl broadcast tail)
unfolding broadcast_acts
calm_broadcast known bridge at ttl broadcast tail = calm_if (is_new_broadcast at.me at.now broadcast known.taken) (handed_out_if bridge at broadcast.orig (client_frame_of tail) ++ broadcast_on ttl broadcast tail) []
    (each_appended IsCalm (handed_out_if bridge at broadcast.orig (client_frame_of tail)) (broadcast_on ttl broadcast tail) (calm_handed bridge at broadcast.orig (client_frame_of tail))
    (calm_if (nat_le ttl 1) [] (sent_to_all (Bcast (ttl - 1) broadcast.number broadcast.orig) tail ∷ []) tt (calm_bcast (ttl - 1) broadcast.number broadcast.orig tail, tt))) tt

calm_on_route : (at : Place) (ttl ttvn : ℕ) (dst : Mac) (tail : List ℕ) (next : Option Mac) → AllByRecursion IsCalm (on_route at ttl ttvn dst tail next)
calm_on_route at ttl ttvn dst tail None = calm_lost at NoRoute (client_frame_of tail)
calm_on_route at ttl ttvn dst tail (Some next) = (calm_unicast next (Some Fwd) (ttl - 1) ttvn dst tail, tt)

pub calm_passed : (q : Queries) (known : Knowledge) (at : Place) (ttl ttvn : ℕ) (dst : Mac) (tail : List ℕ) → AllByRecursion IsCalm (passed_frame q known at ttl ttvn dst tail)
unfolding passed_frame
calm_passed q known at ttl ttvn dst tail = calm_if (nat_le ttl 1) (lost_if at Ttl (client_frame_of tail)) (on_route at ttl ttvn dst tail (q.route known.routes at.now dst))
    (calm_lost at Ttl (client_frame_of tail)) (calm_on_route at ttl ttvn dst tail (q.route known.routes at.now dst))

calm_addressed : (q : Queries) (known : Knowledge) (now ttl : ℕ) (way : Way) (tail : List ℕ) → IsCalm (addressed q known now ttl way tail)
calm_addressed q known now ttl way tail = calm_unicast way.next (Some way.reason) ttl (unwrap_or (told_at q known now way.orig) 0) way.orig tail

calm_readdressed : (q : Queries) (known : Knowledge) (at : Place) (ttl : ℕ) (frame : ClientFrame) (tail : List ℕ) (way : Option Way) → AllByRecursion IsCalm (readdressed q known at ttl frame tail way)
calm_readdressed q known at ttl frame tail None = ((λ me n e is. cc), tt)
calm_readdressed q known at ttl frame tail (Some way) = calm_if (nat_le ttl 1) (lost at Ttl frame ∷ []) (addressed q known at.now (ttl - 1) way tail ∷ []) ((λ me n e is. cc), tt) (calm_addressed q known at.now (ttl - 1) way tail, tt)

calm_arrived : (q : Queries) (known : Knowledge) (ms : List Mention) (bridge : Bridge) (at : Place) (ttl : ℕ) (tail : List ℕ) (o : Option ClientFrame) → AllByRecursion IsCalm (arrived q known ms bridge at ttl tail o)
calm_arrived q known ms bridge at ttl tail None = tt
calm_arrived q known ms bridge at ttl tail (Some frame) =
    let out = out_acts bridge at (spread_of_packet frame) frame in
    let way = addressee q known at.now (key_of frame.dst frame.vid) in
    calm_if (is_group frame.dst || is_present ms at.now (key_of frame.dst frame.vid)) out (readdressed q known at ttl frame tail way) (calm_bridges out (out_puts bridge at (spread_of_packet frame) frame)) (calm_readdressed q known at ttl frame tail way)

pub calm_here : (q : Queries) (known : Knowledge) (ms : List Mention) (bridge : Bridge) (at : Place) (ttl : ℕ) (tail : List ℕ) → AllByRecursion IsCalm (here_acts q known ms bridge at ttl tail)
unfolding here_acts
calm_here q known ms bridge at ttl tail = calm_arrived q known ms bridge at ttl tail (client_frame_of tail)

calm_on_way : (q : Queries) (known : Knowledge) (at : Place) (frame : ClientFrame) (way : Option Way) → AllByRecursion IsCalm (on_way q known at frame way)
calm_on_way q known at frame None = ((λ me n e is. cc), tt)
calm_on_way q known at frame (Some way) = (calm_addressed q known at.now 50 way (payload_spelling frame), tt)

-- ---- groups and calls for a gateway
calm_serving : (q : Queries) (known : Knowledge) (at : Place) (frame : ClientFrame) (act : Act) → IsServing (λ mac. Unit {0}) q known at frame act → IsCalm act
calm_serving q known at frame _ (serves_one orig next reason any for) = calm_unicast next (Some reason) 50 (unwrap_or (told_at q known at.now orig) 0) orig (payload_spelling frame)
calm_serving q known at frame _ serves_all = calm_bcast 50 (suc known.sent) at.me (payload_spelling frame)
calm_serving q known at frame _ serves_here = λ me n e is. cc

calm_group : (q : Queries) (known : Knowledge) (at : Place) (frame : ClientFrame) (joined : Bool) → AllByRecursion IsCalm (group_acts q known at frame joined)
calm_group q known at frame joined =
    each_serving (λ mac. Unit {0}) q known at frame IsCalm (calm_serving q known at frame) (group_acts q known at frame joined) (group_serves (λ mac. Unit {0}) q known at frame joined (λ orig has. tt))

pub calm_call : (q : Queries) (known : Knowledge) (at : Place) (frame : ClientFrame) → AllByRecursion IsCalm (call_acts q known at frame)
calm_call q known at frame = each_serving (λ mac. Unit {0}) q known at frame IsCalm (calm_serving q known at frame) (call_acts q known at frame) (call_serves (λ mac. Unit {0}) q known at frame (λ orig is. tt))

-- ---- client frames of clients
pub calm_frame : (q : Queries) (known : Knowledge) (ms : List Mention) (at : Place) (frame : ClientFrame) → AllByRecursion IsCalm (frame_acts q known ms at frame)
unfolding frame_acts
calm_frame q known ms at frame =
    let way = on_way q known at frame (addressee q known at.now (key_of frame.dst frame.vid)) in
    let handed = cond (is_present ms at.now (key_of frame.dst frame.vid)) (handed_out at frame ∷ []) way in
    let group = group_acts q known at frame (is_present ms at.now (key_of frame.dst frame.vid)) in
    calm_if (is_broadcast frame.dst) (flooded known at frame ∷ []) (cond (is_group frame.dst) group handed)
    (calm_bcast 50 (suc known.sent) at.me (payload_spelling frame), tt)
    (calm_if (is_group frame.dst) group handed (calm_group q known at frame (is_present ms at.now (key_of frame.dst frame.vid)))
    (calm_if (is_present ms at.now (key_of frame.dst frame.vid)) (handed_out at frame ∷ []) way ((λ me n e is. cc), tt) (calm_on_way q known at frame (addressee q known at.now (key_of frame.dst frame.vid)))))

-- ---- ping and traceroute
calm_probe : (act : Act) → IsProbing act → IsCalm act
calm_probe _ (puts_message next m) = icmp_frame (drop 1 (spelling (icmp_head m) []))
calm_probe _ (puts_pinged node target seq result) = λ me n e is. cc
calm_probe _ (puts_traced node target result) = λ me n e is. cc

calm_probes : (acts : List Act) → AreProbing acts → AllByRecursion IsCalm acts
calm_probes [] all = tt
calm_probes (act ∷ acts) all = (calm_probe act all.0, calm_probes acts all.1)

pub calm_session : (q : Queries) (known : Knowledge) (at : Place) (target : Mac) (trace : Bool) → AllByRecursion IsCalm (session_acts q known at target trace)
calm_session q known at target trace = calm_probes (session_acts q known at target trace) (session_puts q known at target trace)

pub calm_icmp : (q : Queries) (known : Knowledge) (at : Place) (m : IcmpMessage) → AllByRecursion IsCalm (icmp_acts q known at m)
calm_icmp q known at m = calm_probes (icmp_acts q known at m) (icmp_puts q known at m)

-- ---- the ARP table
calm_asking : (act : Act) → IsAsking act → IsCalm act
calm_asking _ (puts_packet next ttl ttvn dst src subtype payload) = unicast4_frame (drop 1 (spelling (Unicast4 ttl ttvn dst src subtype) payload))
calm_asking _ (puts_told node ip result) = λ me n e is. cc

pub calm_question : (q : Queries) (known : Knowledge) (at : Place) (mac : Mac) (own_ip asked_ip : ℕ) (vid : Vid) → AllByRecursion IsCalm (question_acts q known at mac own_ip asked_ip vid)
calm_question q known at mac own_ip asked_ip vid = each_asking IsCalm calm_asking (question_acts q known at mac own_ip asked_ip vid) (question_puts q known at mac own_ip asked_ip vid)

pub calm_unicast4 : (q : Queries) (me : Mac) (came : Coming) (known : Knowledge) (ttl ttvn : ℕ) (dst src : Mac) (subtype : ℕ) (tail : List ℕ) → AllByRecursion IsCalm (unicast4_acts q me came known ttl ttvn dst src subtype tail)
calm_unicast4 q me came known ttl ttvn dst src subtype tail =
    each_asking IsCalm calm_asking (unicast4_acts q me came known ttl ttvn dst src subtype tail) (unicast4_puts q me came known ttl ttvn dst src subtype tail)

-- ---- the fact store
calm_storing : (me : Mac) (act : Act) → IsStoring (λ mac. Unit {0}) any_facts me act → IsCalm act
calm_storing me _ (sends_message next dst message to has) = calm_unicast next (Some ByAlfred) 50 0 dst (fact_message_spelling dst me message)
calm_storing me _ (sends_announcement number) = calm_bcast 50 number me (fact_message_spelling all_stations me Primary)
calm_storing me _ (tells_fact type_no fact has) = λ me n e is. cc
calm_storing me _ (tells_none type_no result none) = λ me n e is. cc

pub calm_store : (me : Mac) (acts : List Act) → AreStoring (λ mac. Unit {0}) any_facts me acts → AllByRecursion IsCalm acts
calm_store me acts all = each_storing (λ mac. Unit {0}) any_facts me IsCalm (calm_storing me) acts all

-- ---- packets for this node, and fragments
pub calm_unicast_here : (q : Queries) (known : Knowledge) (ms : List Mention) (bridge : Bridge) (at : Place) (ttl : ℕ) (payload : List ℕ) → AllByRecursion IsCalm (unicast_here q known ms bridge at ttl payload)
calm_unicast_here q known ms bridge at ttl payload =
    let told = fact_acts q known at (fact_message_of payload) in
    each_appended IsCalm (here_acts q known ms bridge at ttl payload) told (calm_here q known ms bridge at ttl payload) (calm_store at.me told (came_stores q known at (fact_message_of payload)))

pub calm_carried : (q : Queries) (known : Knowledge) (ms : List Mention) (bridge : Bridge) (at : Place) (o : Option Carried) → AllByRecursion IsCalm (carried_here q known ms bridge at o)
calm_carried q known ms bridge at None = tt
calm_carried q known ms bridge at (Some one) = calm_unicast_here q known ms bridge at one.ttl one.payload

pub calm_frag : (to : Option Mac) (ttl place priority : ℕ) (dst orig : Mac) (seq total : ℕ) (tail : List ℕ) → IsCalm (Link to None (spelling (Frag ttl place priority dst orig seq total) tail))
calm_frag to ttl place priority dst orig seq total tail = frag_frame (drop 1 (spelling (Frag ttl place priority dst orig seq total) tail))

pub calm_fragment : (q : Queries) (known : Knowledge) (now ttl place priority : ℕ) (dst orig : Mac) (seq total : ℕ) (tail : List ℕ) → AllByRecursion IsCalm (passed_fragment q known now ttl dst (Frag (ttl - 1) place priority dst orig seq total) tail)
calm_fragment q known now ttl place priority dst orig seq total tail = calm_if (nat_le ttl 1) [] (sent_over (q.route known.routes now dst) (Frag (ttl - 1) place priority dst orig seq total) tail) tt (go (q.route known.routes now dst))
  where
    go : (next : Option Mac) → AllByRecursion IsCalm (sent_over next (Frag (ttl - 1) place priority dst orig seq total) tail)
    go None = tt
    go (Some to) = (calm_frag (Some to) (ttl - 1) place priority dst orig seq total tail, tt)
