-- What acts send by table: no row does but those of client frames.
use Rattle.std.proofs.Common.{◌≡◌, ◌⊎◌, inl, inr, ◌≤◌, ◌-◌, ◌&&◌, ◌||◌, ◌==◌, ℕ, Bool, true, false, cond, nat_eq, nat_lt, nat_le, List, [], ◌∷◌, ◌++◌, length, filter, slice_get, Option, Some, None, option_map, option_and_then, is_some, IsTrue, flat_map, refl, sym, ap, subst, ◌∙◌}
use Rattle.std.specs.List.{AllByRecursion}
use Rattle.std.specs.Option.{option_or, unwrap_or}
use Rattle.mesh_base.specs.Address.{is_broadcast, is_group}
use Rattle.mesh_base.specs.declared.address.Mac.{Mac}
use Rattle.mesh_base.specs.declared.client.Key.{Key}
use Rattle.mesh_base.specs.declared.client.Vid.{Vid}
use Rattle.mesh_base.specs.declared.event.Event.{Event}
use Rattle.mesh_base.specs.declared.event.Event.TheVariants.{FrameSent}
use Rattle.mesh_base.specs.declared.event.Reason.{Reason}
use Rattle.mesh_base.specs.declared.event.Reason.TheVariants.{Roam, Table, Old}
use Rattle.mesh_base.specs.declared.event.LossReason.TheVariants.{Ttl, NoRoute}
use Rattle.mesh_model.specs.declared.act.Act.{Act}
use Rattle.mesh_model.specs.declared.act.Act.TheVariants.{Link, Lan, Print}
use Rattle.mesh_model.specs.declared.packet.Head.{Head}
use Rattle.mesh_model.specs.declared.packet.Head.TheVariants.{IvOgm, Bcast, Elp, Ogm2, Unicast, Frag, Unicast4, Icmp, Utvlv}
use Rattle.mesh_model.specs.declared.table_outcome.Request.{Request}
use Rattle.mesh_model.specs.Acts.ArpRows.{question_acts}
use Rattle.mesh_model.specs.Acts.BridgeRows.{Place, handed_out, out_acts, round_acts, spread_of_broadcast, spread_of_packet, unclaim_acts}
use Rattle.mesh_model.specs.Acts.GroupRows.{addressed, call_acts, flooded, group_acts}
use Rattle.mesh_model.specs.Acts.FactRows.{fact_acts}
use Rattle.mesh_model.specs.Acts.FragmentRows.{carried_here, passed_fragment, unicast_here}
use Rattle.mesh_model.specs.Acts.FrameRows.{advert_acts, arrived, broadcast_acts, broadcast_on, frame_acts, handed_out_if, here_acts, is_present, lost, lost_if, on_route, on_way, passed_frame, readdressed}
use Rattle.mesh_model.specs.Acts.OwnContainers.{own_containers}
use Rattle.mesh_model.specs.Acts.Packing.{part_containers, request_containers, sent_over, sent_to_all}
use Rattle.mesh_model.specs.Acts.ProbeRows.{IcmpMessage, session_acts}
use Rattle.mesh_model.specs.Acts.Rows.{Own, accepted_acts, alias_acts, alias_event, commit_acts, elp_acts, head_acts, icmp_acts, message_acts, ogm_acts, packet_acts, place_at, taken_acts, tick_acts}
use Rattle.mesh_model.specs.Acts.TableRows.{on_the_way, other_containers, own_answer, part_acts, request_acts, way_reply}
use Rattle.mesh_model.specs.Clients.Lans.{Bridge}
use Rattle.mesh_model.specs.Clients.Mentions.{Mention, key_of}
use Rattle.mesh_model.specs.Clients.Settings.{Settings}
use Rattle.mesh_model.specs.Commits.Aliases.{last_alias}
use Rattle.mesh_model.specs.Commits.Announcements.{announcement, commit_at_root}
use Rattle.mesh_model.specs.Commits.History.{History, commits, committed, is_commit_tick, present_table}
use Rattle.mesh_model.specs.Clients.Log.{Log}
use Rattle.mesh_model.specs.Knowledge.Addressee.{Way, addressee, best_holder, marked_way, table_reason, table_way, way_to}
use Rattle.mesh_model.specs.Knowledge.Known.{Broadcast, Knowledge, is_new_broadcast, known_at, told_at}
use Rattle.mesh_model.specs.Fragments.Assembly.{part_of}
use Rattle.mesh_model.specs.Knowledge.PutTogether.{Carried, put_together}
use Rattle.mesh_model.specs.Knowledge.Steps.{Coming, before_announcement, request_out}
use Rattle.mesh_model.specs.Knowledge.Told.{Message, TableMessage, Asks, Answers, Neither, message_in, message_of, message_with, stamp_told}
use Rattle.mesh_model.specs.Marks.RoamingMarks.{mark_of}
use Rattle.mesh_model.specs.Net.Due.{ticks_in}
use Rattle.mesh_model.specs.Net.Mesh.{SentFrame}
use Rattle.mesh_model.specs.Net.Next.{Has}
use Rattle.mesh_model.specs.Packets.Containers.{containers_of, containers_spelling}
use Rattle.mesh_model.specs.Packets.Contents.{first_roaming, first_table}
use Rattle.mesh_model.specs.Packets.FactMessages.{fact_message_of}
use Rattle.mesh_model.specs.Packets.FirstPacket.{Packet}
use Rattle.mesh_model.specs.Packets.Payload.{ClientFrame, client_frame_of, payload_spelling}
use Rattle.mesh_model.specs.Routes.Addresses.{is_smaller, same_mac}
use Rattle.mesh_model.specs.Routes.BestRoute.{best, better}
use Rattle.mesh_model.specs.Routes.Queries.{Queries}
use Rattle.mesh_model.specs.Routes.RouteLog.{RouteLog}
use Rattle.mesh_model.specs.Tables.Answers.{Reply, own_reply, parts_of_reply}
use Rattle.mesh_model.specs.Tables.Changes.{flags_at}
use Rattle.mesh_model.specs.Tables.Known.{Known, LastTold, TableCalls, agrees, holders_by, is_agreed, known_by, names, nothing, originators_by}
use Rattle.mesh_model.specs.Tables.Versions.{Version}
use Rattle.mesh_laws.specs.Machine.Agreement.{HasNoAlias}
use Rattle.mesh_laws.specs.Machine.Moves.{Reaches}
use Rattle.mesh_laws.specs.Machine.World.{Told, World, commit_numbered, start}
use Rattle.mesh_laws.proofs.DifferenceLemmas.{agrees_by_checksums}
use Rattle.mesh_laws.proofs.MachineLemmas.{agreed_hold_the_told}
use Rattle.mesh_laws.proofs.Schedule.Members.{filter_has}
use Rattle.mesh_tie.specs.ByTable.{IsSentByTable, IsSpelled}
use Rattle.mesh_tie.specs.Originators.{number_at_root}
use Rattle.mesh_tie.specs.Sources.{IsWhole}
use Rattle.mesh_tie.specs.Tie.{IsToldBy, KnowsWhole, NodeIsTied}
use Rattle.mesh_tie.proofs.ArpActs.{IsAsking, each_asking, puts_packet, puts_told, question_puts, unicast4_acts, unicast4_puts}
use Rattle.mesh_tie.proofs.BridgeActs.{AreBridging, IsBridging, hands_out, out_puts, puts_on_lan, round_puts, unclaim_puts}
use Rattle.mesh_tie.proofs.CommitLemmas.{at_root}
use Rattle.mesh_tie.proofs.EntryLemmas.{each_appended, each_flat, each_of_any}
use Rattle.mesh_tie.proofs.FactActs.{IsStoring, Storing, came_stores, each_storing, sends_announcement, sends_message, tells_fact, tells_none}
use Rattle.mesh_tie.proofs.FactLemmas.{any_facts}
use Rattle.mesh_tie.proofs.KnowsLemmas.{addressee_whole}
use Rattle.mesh_tie.proofs.ServingActs.{IsServing, call_serves, each_serving, for_gateway, for_group, group_serves, serves_all, serves_here, serves_one}
use Rattle.mesh_tie.proofs.ProbeActs.{AreProbing, IsProbing, icmp_puts, puts_message, puts_pinged, puts_traced, session_puts}
use Rattle.mesh_tie.proofs.Sayable.{IsNoAlias}

-- ---- acts that send nothing by table, and tell of no alias
abbrev pub IsNoFrame : Event → Type 0
IsNoFrame event = (number moment : ℕ) (from to : Mac) (reason : Option Reason) (bytes : List ℕ) → event ≡ FrameSent number moment from to reason bytes → ⊥

abbrev pub IsPlain : Act → Type 0
IsPlain (Link to reason bytes) = reason ≡ Some Table → ⊥
IsPlain (Lan bytes) = Unit {0}
IsPlain (Print event) = IsNoFrame event × IsNoAlias event

plain_if : (b : Bool) (xs ys : List Act) → AllByRecursion IsPlain xs → AllByRecursion IsPlain ys → AllByRecursion IsPlain (cond b xs ys)
plain_if true xs ys a b = a
plain_if false xs ys a b = b

plain_over : (next : Option Mac) (head : Head) (tail : List ℕ) → AllByRecursion IsPlain (sent_over next head tail)
plain_over None head tail = tt
plain_over (Some to) head tail = ((λ is. cc), tt)

pub plain_message : (o : Option Head) (tail : List ℕ) → AllByRecursion IsPlain (message_acts o tail)
unfolding message_acts
plain_message None tail = tt
plain_message (Some head) tail = ((λ is. cc), tt)

plain_request : (me : Mac) (next : Option Mac) (message : Message) (o : Option Request) → AllByRecursion IsPlain (request_acts me next message o)
plain_request me next message None = tt
plain_request me next message (Some request) = plain_over next (Utvlv 50 message.orig me) (request_containers request (stamp_told message.table))

-- an answer, in however many packets
plain_answer : (next : Option Mac) (orig asker : Mac) (reply : Reply) → AllByRecursion IsPlain (flat_map (part_acts next orig asker) (parts_of_reply reply))
plain_answer next orig asker reply =
    each_flat IsPlain (part_acts next orig asker) (parts_of_reply reply)
    (each_of_any (λ part. AllByRecursion IsPlain (part_acts next orig asker part)) (parts_of_reply reply) (λ part. plain_over next (Utvlv 50 asker orig) (part_containers part)))

pub plain_own : (q : Queries) (me : Mac) (known : Knowledge) (now : ℕ) (own : Own) (asker : Mac) (message : TableMessage) → AllByRecursion IsPlain (own_answer q me known now own.last own.told asker message)
unfolding own_answer
plain_own q me known now own asker (Asks full stamp) = plain_answer (q.route known.routes now asker) me asker (own_reply full stamp.byte own.last own.told)
plain_own q me known now own asker (Answers stamp carried) = tt
plain_own q me known now own asker Neither = tt

pub plain_other : (q : Queries) (known : Knowledge) (now ttl : ℕ) (dst src : Mac) (tail : List ℕ) → AllByRecursion IsPlain (other_containers q known now ttl dst src tail)
unfolding other_containers
plain_other q known now ttl dst src tail = go (way_reply q known now dst (message_in (first_table (containers_of tail))))
  where
    go : (o : Option Reply) → AllByRecursion IsPlain (on_the_way q known now ttl dst src tail o)
    go None = plain_if (nat_le ttl 1) [] (sent_over (q.route known.routes now dst) (Utvlv (ttl - 1) dst src) tail) tt (plain_over (q.route known.routes now dst) (Utvlv (ttl - 1) dst src) tail)
    go (Some reply) = plain_answer (q.route known.routes now src) dst src reply

pub plain_ogm : (q : Queries) (me : Mac) (came : Coming) (head : Head) (message : Message) (tail : List ℕ) (known : Knowledge) → AllByRecursion IsPlain (ogm_acts q me came head message tail known)
unfolding ogm_acts
plain_ogm q me came head message tail known =
    let heard = q.hear known.routes came.now came.from came.throughput head in
    each_appended IsPlain (message_acts heard.forward tail) (cond heard.accepted (accepted_acts q me came head message known) []) (plain_message heard.forward tail)
    (plain_if heard.accepted (accepted_acts q me came head message known) []
    (plain_request me (q.route (before_announcement q came head message.orig known).routes came.now message.orig) message (request_out q (before_announcement q came head message.orig known) came.now message)) tt)

plain_bridge : (act : Act) → IsBridging act → IsPlain act
plain_bridge _ (puts_on_lan bytes) = tt
plain_bridge _ (hands_out at frame) = ((λ number moment from to reason bytes is. cc), (λ me n e is. cc))

pub plain_bridges : (acts : List Act) → AreBridging acts → AllByRecursion IsPlain acts
plain_bridges [] all = tt
plain_bridges (act ∷ acts) all = (plain_bridge act all.0, plain_bridges acts all.1)

plain_handed : (bridge : Bridge) (at : Place) (orig : Mac) (o : Option ClientFrame) → AllByRecursion IsPlain (handed_out_if bridge at orig o)
plain_handed bridge at orig None = tt
plain_handed bridge at orig (Some frame) = let spread = spread_of_broadcast bridge orig frame in plain_bridges (out_acts bridge at spread frame) (out_puts bridge at spread frame)

pub plain_unclaim : (at : Place) (bridge : Bridge) (o : Option Key) → AllByRecursion IsPlain (unclaim_acts at bridge o)
plain_unclaim at bridge o = plain_bridges (unclaim_acts at bridge o) (unclaim_puts at bridge o)

pub plain_round : (at : Place) (bridge : Bridge) (index : ℕ) → AllByRecursion IsPlain (round_acts at bridge index)
plain_round at bridge index = plain_bridges (round_acts at bridge index) (round_puts at bridge index)

plain_lost : (at : Place) (reason : Rattle.mesh_base.specs.declared.event.LossReason.LossReason) (o : Option ClientFrame) → AllByRecursion IsPlain (lost_if at reason o)
plain_lost at why None = tt
plain_lost at why (Some frame) = (((λ number moment from to reason bytes is. cc), (λ me n e is. cc)), tt)

pub plain_broadcast : (known : Knowledge) (bridge : Bridge) (at : Place) (ttl : ℕ) (broadcast : Broadcast) (tail : List ℕ) → AllByRecursion IsPlain (broadcast_acts known bridge at ttl broadcast tail)
unfolding broadcast_acts
plain_broadcast known bridge at ttl broadcast tail = plain_if (is_new_broadcast at.me at.now broadcast known.taken) (handed_out_if bridge at broadcast.orig (client_frame_of tail) ++ broadcast_on ttl broadcast tail) []
    (each_appended IsPlain (handed_out_if bridge at broadcast.orig (client_frame_of tail)) (broadcast_on ttl broadcast tail) (plain_handed bridge at broadcast.orig (client_frame_of tail))
    (plain_if (nat_le ttl 1) [] (sent_to_all (Bcast (ttl - 1) broadcast.number broadcast.orig) tail ∷ []) tt ((λ is. cc), tt))) tt

plain_on_route : (at : Place) (ttl ttvn : ℕ) (dst : Mac) (tail : List ℕ) (next : Option Mac) → AllByRecursion IsPlain (on_route at ttl ttvn dst tail next)
plain_on_route at ttl ttvn dst tail None = plain_lost at NoRoute (client_frame_of tail)
plain_on_route at ttl ttvn dst tail (Some next) = ((λ is. cc), tt)

pub plain_passed : (q : Queries) (known : Knowledge) (at : Place) (ttl ttvn : ℕ) (dst : Mac) (tail : List ℕ) → AllByRecursion IsPlain (passed_frame q known at ttl ttvn dst tail)
unfolding passed_frame
plain_passed q known at ttl ttvn dst tail = plain_if (nat_le ttl 1) (lost_if at Ttl (client_frame_of tail)) (on_route at ttl ttvn dst tail (q.route known.routes at.now dst))
    (plain_lost at Ttl (client_frame_of tail)) (plain_on_route at ttl ttvn dst tail (q.route known.routes at.now dst))

pub plain_fragment : (q : Queries) (known : Knowledge) (now ttl : ℕ) (dst : Mac) (head : Head) (tail : List ℕ) → AllByRecursion IsPlain (passed_fragment q known now ttl dst head tail)
plain_fragment q known now ttl dst head tail = plain_if (nat_le ttl 1) [] (sent_over (q.route known.routes now dst) head tail) tt (plain_over (q.route known.routes now dst) head tail)

pub plain_advert : (me : Mac) (key : Key) (o : Option Way) → AllByRecursion IsPlain (advert_acts me key o)
plain_advert me key None = tt
plain_advert me key (Some way) = ((λ is. cc), tt)

plain_probe : (act : Act) → IsProbing act → IsPlain act
plain_probe _ (puts_message next m) = λ is. cc
plain_probe _ (puts_pinged node target seq result) = ((λ number moment from to reason bytes is. cc), (λ me n e is. cc))
plain_probe _ (puts_traced node target result) = ((λ number moment from to reason bytes is. cc), (λ me n e is. cc))

plain_probes : (acts : List Act) → AreProbing acts → AllByRecursion IsPlain acts
plain_probes [] all = tt
plain_probes (act ∷ acts) all = (plain_probe act all.0, plain_probes acts all.1)

pub plain_session : (q : Queries) (known : Knowledge) (at : Place) (target : Mac) (trace : Bool) → AllByRecursion IsPlain (session_acts q known at target trace)
plain_session q known at target trace = plain_probes (session_acts q known at target trace) (session_puts q known at target trace)

pub plain_icmp : (q : Queries) (known : Knowledge) (at : Place) (m : IcmpMessage) → AllByRecursion IsPlain (icmp_acts q known at m)
plain_icmp q known at m = plain_probes (icmp_acts q known at m) (icmp_puts q known at m)

plain_serving : (q : Queries) (known : Knowledge) (at : Place) (frame : ClientFrame) (act : Act) → IsServing (λ mac. Unit {0}) q known at frame act → IsPlain act
plain_serving q known at frame _ (serves_one orig next _ any for_group) = λ is. cc
plain_serving q known at frame _ (serves_one orig next _ any for_gateway) = λ is. cc
plain_serving q known at frame _ serves_all = λ is. cc
plain_serving q known at frame _ serves_here = ((λ number moment from to reason bytes is. cc), (λ me n e is. cc))

plain_group : (q : Queries) (known : Knowledge) (at : Place) (frame : ClientFrame) (joined : Bool) → AllByRecursion IsPlain (group_acts q known at frame joined)
plain_group q known at frame joined =
    each_serving (λ mac. Unit {0}) q known at frame IsPlain (plain_serving q known at frame) (group_acts q known at frame joined) (group_serves (λ mac. Unit {0}) q known at frame joined (λ orig has. tt))

pub plain_call : (q : Queries) (known : Knowledge) (at : Place) (frame : ClientFrame) → AllByRecursion IsPlain (call_acts q known at frame)
plain_call q known at frame = each_serving (λ mac. Unit {0}) q known at frame IsPlain (plain_serving q known at frame) (call_acts q known at frame) (call_serves (λ mac. Unit {0}) q known at frame (λ orig is. tt))

plain_asking : (act : Act) → IsAsking act → IsPlain act
plain_asking _ (puts_packet next ttl ttvn dst src subtype payload) = λ is. cc
plain_asking _ (puts_told node ip result) = ((λ number moment from to reason bytes is. cc), (λ me n e is. cc))

pub plain_question : (q : Queries) (known : Knowledge) (at : Place) (mac : Mac) (own_ip asked_ip : ℕ) (vid : Vid) → AllByRecursion IsPlain (question_acts q known at mac own_ip asked_ip vid)
plain_question q known at mac own_ip asked_ip vid = each_asking IsPlain plain_asking (question_acts q known at mac own_ip asked_ip vid) (question_puts q known at mac own_ip asked_ip vid)

pub plain_unicast4 : (q : Queries) (me : Mac) (came : Coming) (known : Knowledge) (ttl ttvn : ℕ) (dst src : Mac) (subtype : ℕ) (tail : List ℕ) → AllByRecursion IsPlain (unicast4_acts q me came known ttl ttvn dst src subtype tail)
plain_unicast4 q me came known ttl ttvn dst src subtype tail =
    each_asking IsPlain plain_asking (unicast4_acts q me came known ttl ttvn dst src subtype tail) (unicast4_puts q me came known ttl ttvn dst src subtype tail)

plain_storing : (me : Mac) (act : Act) → IsStoring (λ mac. Unit {0}) any_facts me act → IsPlain act
plain_storing me _ (sends_message next dst message to has) = λ is. cc
plain_storing me _ (sends_announcement number) = λ is. cc
plain_storing me _ (tells_fact type_no fact has) = ((λ number moment from to reason bytes is. cc), (λ me n e is. cc))
plain_storing me _ (tells_none type_no result none) = ((λ number moment from to reason bytes is. cc), (λ me n e is. cc))

pub plain_store : (me : Mac) (acts : List Act) → Storing me acts → AllByRecursion IsPlain acts
plain_store me acts all = each_storing (λ mac. Unit {0}) any_facts me IsPlain (plain_storing me) acts all

-- ---- why something is sent by table
some_one : {X : Type 0} (x y : X) → Some x ≡ Some y → x ≡ y
some_one x y e = cc

best_has : (score : Mac → ℕ) (macs : List Mac) (mac : Mac) → best score macs ≡ Some mac → Has macs mac
best_has score [] mac is = cc
best_has score (k ∷ rest) mac is = go (best score rest) is (λ m e. best_has score rest m e)
  where
    go : (o : Option Mac) → better score k o ≡ Some mac → ((m : Mac) → o ≡ Some m → Has rest m) → Has (k ∷ rest) mac
    go None e more = by (nat_lt 0 (score k)) e
      where
        by : (b : Bool) → cond b (Some k) None ≡ Some mac → Has (k ∷ rest) mac
        by true e = inl (sym (some_one k mac e))
        by false e = cc
    go (Some j) e more = by (nat_lt (score j) (score k) || (nat_eq (score j) (score k) && is_smaller k j)) e
      where
        by : (b : Bool) → cond b (Some k) (Some j) ≡ Some mac → Has (k ∷ rest) mac
        by true e = inl (sym (some_one k mac e))
        by false e = inr (more mac e)

holder_names : (q : Queries) (known : Knowledge) (now : ℕ) (key : Key) (mac : Mac) → best_holder q known now key ≡ Some mac → names key (known_by known.tables mac).held ≡ true
holder_names q known now key mac is =
    let among = best_has (q.metric known.routes now) (filter (q.live known.routes now) (holders_by known.tables key)) mac is in
    let holder = (filter_has (q.live known.routes now) (holders_by known.tables key) mac among).1 in
    (filter_has (λ orig. names key (known_by known.tables orig).held) (originators_by known.tables) mac holder).0

-- a way by table is to an originator whose table agrees and names the client
record IsTableWay (known : Knowledge) (key : Key) (way : Way) : Type 0 where
  agreed : is_agreed (known_by known.tables way.orig) ≡ true
  named : names key (known_by known.tables way.orig).held ≡ true

agreed_reason : (b : Bool) → cond b Table Old ≡ Table → b ≡ true
agreed_reason true is = refl
agreed_reason false is = cc

live_agreed : (live : Bool) (known : Known) → is_agreed (cond live known nothing) ≡ true → is_agreed known ≡ true
live_agreed true known is = is
live_agreed false known is = cc

to_way : (reason : Reason) (mac : Mac) (o : Option Mac) (way : Way) → option_map (λ next. record { orig = mac; next = next; reason = reason }) o ≡ Some way → (way.orig ≡ mac) × (way.reason ≡ reason)
to_way reason mac None way is = cc
to_way reason mac (Some next) way is =
    let same : record { orig = mac; next = next; reason = reason } ≡ way = cc in
    (ap (λ (w : Way). w.orig) (sym same), ap (λ (w : Way). w.reason) (sym same))

by_marks : (q : Queries) (known : Knowledge) (now : ℕ) (o : Option Mac) (way : Way) → option_and_then (way_to q known now Roam) o ≡ Some way → way.reason ≡ Roam
by_marks q known now None way is = cc
by_marks q known now (Some mac) way is = (to_way Roam mac (q.route known.routes now mac) way is).1

by_tables : (q : Queries) (known : Knowledge) (now : ℕ) (key : Key) (o : Option Mac) (way : Way) → best_holder q known now key ≡ o → option_and_then (λ orig. way_to q known now (table_reason q known now orig) orig) o ≡ Some way → way.reason ≡ Table → IsTableWay known key way
by_tables q known now key None way found is reason = cc
by_tables q known now key (Some mac) way found is reason =
    let parts = to_way (table_reason q known now mac) mac (q.route known.routes now mac) way is in
    let agreed : is_agreed (known_by known.tables mac) ≡ true = live_agreed (q.live known.routes now mac) (known_by known.tables mac) (agreed_reason (is_agreed (known_at q known now mac)) (sym parts.1 ∙ reason)) in
    record {
      agreed = subst (λ m. is_agreed (known_by known.tables m) ≡ true) (sym parts.0) agreed;
      named = subst (λ m. names key (known_by known.tables m).held ≡ true) (sym parts.0) (holder_names q known now key mac found);
    }

table_is : (q : Queries) (known : Knowledge) (now : ℕ) (key : Key) (way : Way) → addressee q known now key ≡ Some way → way.reason ≡ Table → IsTableWay known key way
table_is q known now key way is reason = go (marked_way q known now key) refl is
  where
    go : (o : Option Way) → marked_way q known now key ≡ o → option_or o (table_way q known now key) ≡ Some way → IsTableWay known key way
    go None marked e = by_tables q known now key (best_holder q known now key) way refl e reason
    go (Some w) marked e =
        let roam : w.reason ≡ Roam = by_marks q known now (mark_of now known.marks key) w marked in
        let both : Roam ≡ Table = sym roam ∙ ap (λ (x : Way). x.reason) (some_one w way e) ∙ reason in
        absurd (not_roam both)
      where
        not_roam : Roam ≡ Table → ⊥
        not_roam e = cc

-- ---- what an agreed table names
pub record FoundTold (orig : Mac) (log : Log) (frames : List SentFrame) (came : TableCalls) (key : Key) : Type 0 where
  pub last : LastTold
  pub told : (known_by came orig).told ≡ Some last
  pub frame : SentFrame
  pub sent : slice_get frames (last.frame - 1) ≡ Some frame
  pub past : frame.root ≤ ticks_in log
  pub named : IsTrue (names key (Some (commit_at_root orig log frame.root)))

-- where a world is tied, and no two commits are an alias, what agrees is of the told commit
pub record IsClear (orig : Mac) (log : Log) (w : World) : Type 0 where
  pub base : Reaches start w
  pub none : HasNoAlias w.commits
  pub commits : w.commits ≡ commits orig log

pub found_told : (orig : Mac) (log : Log) (frames : List SentFrame) (w : World) (m : ℕ) (came : TableCalls) (key : Key) → IsClear orig log w → NodeIsTied orig log frames w.said (known_by came orig) (w.nodes m)
    → is_agreed (known_by came orig) ≡ true → names key (known_by came orig).held ≡ true → FoundTold orig log frames came key
found_told orig log frames w m came key clear tied agreed named = by_told (known_by came orig).told (known_by came orig).held refl refl agreed named tied.told
  where
    with_both : (last : LastTold) (held : Version) → (known_by came orig).told ≡ Some last → (known_by came orig).held ≡ Some held → agrees (Some last.stamp) (Some held) ≡ true → names key (Some held) ≡ true
        → IsToldBy orig log frames (Some last) (w.nodes m).told → FoundTold orig log frames came key
    with_both last held told holds agreed named t =
        let what : Told = record { number = number_at_root orig log t.0.root; byte = last.stamp.byte; sums = last.stamp.sums } in
        let agree = (agrees_by_checksums last.stamp held).0 agreed in
        let commit = agreed_hold_the_told w clear.base clear.none m what held t.3 (tied.held ∙ holds) agree in
        let both : Some commit.0 ≡ Some (commit_at_root orig log t.0.root) = sym commit.1 ∙ ap (commit_numbered what.number) clear.commits ∙ at_root orig log t.0.root in
        let table = commit.2 ∙ ap (λ (v : Version). v.table) (some_one commit.0 (commit_at_root orig log t.0.root) both) in
        record {
          last = last;
          told = told;
          frame = t.0;
          sent = t.1;
          past = t.2;
          named = ap (λ (es : List Rattle.mesh_base.specs.declared.client.Entry.Entry). is_some (flags_at es key)) (sym table) ∙ named;
        }

    by_told : (told : Option LastTold) (held : Option Version) → (known_by came orig).told ≡ told → (known_by came orig).held ≡ held → agrees (option_map (λ (t : LastTold). t.stamp) told) held ≡ true → names key held ≡ true
        → IsToldBy orig log frames told (w.nodes m).told → FoundTold orig log frames came key
    by_told None held is holds agreed named t = cc
    by_told (Some last) None is holds agreed named t = cc
    by_told (Some last) (Some held) is holds agreed named t = with_both last held is holds agreed named t

-- ---- what acts send by table
abbrev pub ActNames : (Act → TableCalls → Type 0) → Mac → Log → List SentFrame → Act → Type 0
ActNames looks orig log frames (Link to reason bytes) = reason ≡ Some Table → IsSentByTable (looks (Link to reason bytes)) orig log frames bytes
ActNames looks orig log frames (Lan bytes) = Unit {0}
ActNames looks orig log frames (Print event) = IsNoFrame event

plain_act : (looks : Act → TableCalls → Type 0) (orig : Mac) (log : Log) (frames : List SentFrame) (act : Act) → IsPlain act → ActNames looks orig log frames act
plain_act looks orig log frames (Link to reason bytes) plain = λ is. absurd (plain is)
plain_act looks orig log frames (Lan bytes) plain = tt
plain_act looks orig log frames (Print event) plain = plain.0

pub plain_names : (looks : Act → TableCalls → Type 0) (orig : Mac) (log : Log) (frames : List SentFrame) (acts : List Act) → AllByRecursion IsPlain acts → AllByRecursion (ActNames looks orig log frames) acts
plain_names looks orig log frames [] plain = tt
plain_names looks orig log frames (act ∷ acts) plain = (plain_act looks orig log frames act plain.0, plain_names looks orig log frames acts plain.1)

-- a node that knows this when it puts acts
pub record CanName (looks : Act → TableCalls → Type 0) (orig : Mac) (log : Log) (frames : List SentFrame) (known : Knowledge) : Type 0 where
  pub whole : KnowsWhole known
  pub looked : (act : Act) → looks act known.tables
  pub found : (key : Key) → is_agreed (known_by known.tables orig) ≡ true → names key (known_by known.tables orig).held ≡ true → FoundTold orig log frames known.tables key

addressed_names : (looks : Act → TableCalls → Type 0) (orig : Mac) (log : Log) (frames : List SentFrame) (q : Queries) (known : Knowledge) (now ttl : ℕ) (client : ClientFrame) (way : Way) (payload : List ℕ) → CanName looks orig log frames known
    → addressee q known now (key_of client.dst client.vid) ≡ Some way → IsSpelled payload client ⊎ (client_frame_of payload ≡ Some client) → ActNames looks orig log frames (addressed q known now ttl way payload)
addressed_names looks orig log frames q known now ttl client way payload can is carried reason =
    let by = table_is q known now (key_of client.dst client.vid) way is (some_one way.reason Table reason) in
    record {
      ttl = ttl;
      ttvn = unwrap_or (told_at q known now way.orig) 0;
      dst = way.orig;
      payload = payload;
      whole = addressee_whole q known now (key_of client.dst client.vid) can.whole way is;
      bytes_are = refl;
      named = λ same.
          let f = can.found (key_of client.dst client.vid) (subst (λ o. is_agreed (known_by known.tables o) ≡ true) same by.agreed) (subst (λ o. names (key_of client.dst client.vid) (known_by known.tables o).held ≡ true) same by.named) in
          record {
            came = known.tables;
            then = can.looked (addressed q known now ttl way payload);
            names_client = record { client = client; carried = carried; last = f.last; told = f.told; frame = f.frame; sent = f.sent; past = f.past; named = f.named };
          };
    }

pub names_if : (looks : Act → TableCalls → Type 0) (orig : Mac) (log : Log) (frames : List SentFrame) (b : Bool) (xs ys : List Act) → AllByRecursion (ActNames looks orig log frames) xs → AllByRecursion (ActNames looks orig log frames) ys → AllByRecursion (ActNames looks orig log frames) (cond b xs ys)
names_if looks orig log frames true xs ys a b = a
names_if looks orig log frames false xs ys a b = b

-- a tick
names_event : (looks : Act → TableCalls → Type 0) (orig : Mac) (log : Log) (frames : List SentFrame) (me : Mac) (number : ℕ) (o : Option ℕ) → AllByRecursion (ActNames looks orig log frames) (alias_event me number o)
names_event looks orig log frames me n None = tt
names_event looks orig log frames me n (Some earlier) = ((λ number moment from to reason bytes is. cc), tt)

-- events of aliases send nothing
pub names_aliases : (looks : Act → TableCalls → Type 0) (orig : Mac) (log : Log) (frames : List SentFrame) (me : Mac) (before after : List Version) → AllByRecursion (ActNames looks orig log frames) (alias_acts me before after)
names_aliases looks orig log frames me before after = names_if looks orig log frames (length after == length before) [] (alias_event me (length before) (last_alias after)) tt (names_event looks orig log frames me (length before) (last_alias after))

pub names_tick : (looks : Act → TableCalls → Type 0) (orig : Mac) (log : Log) (frames : List SentFrame) (q : Queries) (me : Mac) (settings : Settings) (routes : RouteLog) (ms : List Mention) (before : History) (bridge : Bridge) (now index : ℕ)
    → AllByRecursion (ActNames looks orig log frames) (tick_acts q me settings routes ms before bridge now index)
unfolding tick_acts
names_tick looks orig log frames q me settings routes ms before bridge now index =
    let after = committed (present_table ms now) before in
    let message = message_acts (q.beats routes index).ogm (containers_spelling (own_containers settings (announcement after))) in
    let elps = elp_acts q routes index in
    let made = cond (is_commit_tick index) (commit_acts q me settings routes index before after) [] in
    let at : Place = record { me = me; now = now } in
    each_appended (ActNames looks orig log frames) elps (made ++ round_acts at bridge index)
    (plain_names looks orig log frames elps (plain_message (q.beats routes index).elp []))
    (each_appended (ActNames looks orig log frames) made (round_acts at bridge index)
    (names_if looks orig log frames (is_commit_tick index) (commit_acts q me settings routes index before after) []
    (each_appended (ActNames looks orig log frames) (alias_acts me before.commits after.commits) message
    (names_aliases looks orig log frames me before.commits after.commits)
    (plain_names looks orig log frames message (plain_message (q.beats routes index).ogm (containers_spelling (own_containers settings (announcement after)))))) tt)
    (plain_names looks orig log frames (round_acts at bridge index) (plain_round at bridge index)))

-- a client frame of a line
pub frame_names : (looks : Act → TableCalls → Type 0) (orig : Mac) (log : Log) (frames : List SentFrame) (q : Queries) (known : Knowledge) (ms : List Mention) (at : Place) (client : ClientFrame) → IsWhole client.dst → IsWhole client.src → CanName looks orig log frames known
    → AllByRecursion (ActNames looks orig log frames) (frame_acts q known ms at client)
unfolding frame_acts
frame_names looks orig log frames q known ms at client dst src can =
    let key = key_of client.dst client.vid in
    let sent = on_way q known at client (addressee q known at.now key) in
    let handed = cond (is_present ms at.now key) (handed_out at client ∷ []) sent in
    let group = group_acts q known at client (is_present ms at.now key) in
    names_if looks orig log frames (is_broadcast client.dst) (flooded known at client ∷ []) (cond (is_group client.dst) group handed) ((λ is. cc), tt)
    (names_if looks orig log frames (is_group client.dst) group handed (plain_names looks orig log frames group (plain_group q known at client (is_present ms at.now key)))
    (names_if looks orig log frames (is_present ms at.now key) (handed_out at client ∷ []) sent ((λ number moment from to reason bytes is. cc), tt) (go (addressee q known at.now key) refl)))
  where
    go : (o : Option Way) → addressee q known at.now (key_of client.dst client.vid) ≡ o → AllByRecursion (ActNames looks orig log frames) (on_way q known at client o)
    go None none = ((λ number moment from to reason bytes is. cc), tt)
    go (Some way) is = (addressed_names looks orig log frames q known at.now 50 client way (payload_spelling client) can is (inl (record { is = refl; dst = dst; src = src })), tt)

here_names : (looks : Act → TableCalls → Type 0) (orig : Mac) (log : Log) (frames : List SentFrame) (q : Queries) (known : Knowledge) (ms : List Mention) (bridge : Bridge) (at : Place) (ttl : ℕ) (tail : List ℕ) → CanName looks orig log frames known
    → AllByRecursion (ActNames looks orig log frames) (here_acts q known ms bridge at ttl tail)
unfolding here_acts
here_names looks orig log frames q known ms bridge at ttl tail can = by_frame (client_frame_of tail) refl
  where
    by_way : (client : ClientFrame) → client_frame_of tail ≡ Some client → (o : Option Way) → addressee q known at.now (key_of client.dst client.vid) ≡ o → AllByRecursion (ActNames looks orig log frames) (readdressed q known at ttl client tail o)
    by_way client carried None none = ((λ number moment from to reason bytes is. cc), tt)
    by_way client carried (Some way) is = names_if looks orig log frames (nat_le ttl 1) (lost at Ttl client ∷ []) (addressed q known at.now (ttl - 1) way tail ∷ []) ((λ number moment from to reason bytes is. cc), tt)
        (addressed_names looks orig log frames q known at.now (ttl - 1) client way tail can is (inr carried), tt)

    by_frame : (o : Option ClientFrame) → client_frame_of tail ≡ o → AllByRecursion (ActNames looks orig log frames) (arrived q known ms bridge at ttl tail o)
    by_frame None carried = tt
    by_frame (Some client) carried = names_if looks orig log frames (is_group client.dst || is_present ms at.now (key_of client.dst client.vid)) (out_acts bridge at (spread_of_packet client) client)
        (readdressed q known at ttl client tail (addressee q known at.now (key_of client.dst client.vid)))
        (plain_names looks orig log frames (out_acts bridge at (spread_of_packet client) client) (plain_bridges (out_acts bridge at (spread_of_packet client) client) (out_puts bridge at (spread_of_packet client) client))) (by_way client carried (addressee q known at.now (key_of client.dst client.vid)) refl)

-- a packet for this node, which may be put together here
unicast_here_names : (looks : Act → TableCalls → Type 0) (orig : Mac) (log : Log) (frames : List SentFrame) (q : Queries) (known : Knowledge) (ms : List Mention) (bridge : Bridge) (at : Place) (ttl : ℕ) (payload : List ℕ) → CanName looks orig log frames known
    → AllByRecursion (ActNames looks orig log frames) (unicast_here q known ms bridge at ttl payload)
unicast_here_names looks orig log frames q known ms bridge at ttl payload can =
    let told = fact_acts q known at (fact_message_of payload) in
    each_appended (ActNames looks orig log frames) (here_acts q known ms bridge at ttl payload) told (here_names looks orig log frames q known ms bridge at ttl payload can)
    (plain_names looks orig log frames told (plain_store at.me told (came_stores q known at (fact_message_of payload))))

carried_names : (looks : Act → TableCalls → Type 0) (orig : Mac) (log : Log) (frames : List SentFrame) (q : Queries) (known : Knowledge) (ms : List Mention) (bridge : Bridge) (at : Place) (o : Option Carried) → CanName looks orig log frames known
    → AllByRecursion (ActNames looks orig log frames) (carried_here q known ms bridge at o)
carried_names looks orig log frames q known ms bridge at None can = tt
carried_names looks orig log frames q known ms bridge at (Some one) can = unicast_here_names looks orig log frames q known ms bridge at one.ttl one.payload can

-- a packet
pub packet_names : (looks : Act → TableCalls → Type 0) (orig : Mac) (log : Log) (frames : List SentFrame) (q : Queries) (me : Mac) (own : Own) (came : Coming) (packet : Packet) (known : Knowledge) → CanName looks orig log frames known
    → AllByRecursion (ActNames looks orig log frames) (packet_acts q me own came known packet)
unfolding packet_acts
packet_names looks orig log frames q me own came packet known can = go packet.head packet.tail
  where
    taken : (head : Head) (tail : List ℕ) (o : Option Message) → AllByRecursion IsPlain (taken_acts q me came head o tail known)
    taken head tail None = tt
    taken head tail (Some message) = plain_ogm q me came head message tail known

    plain : (acts : List Act) → AllByRecursion IsPlain acts → AllByRecursion (ActNames looks orig log frames) acts
    plain acts p = plain_names looks orig log frames acts p

    go : (head : Head) (tail : List ℕ) → AllByRecursion (ActNames looks orig log frames) (head_acts q me own came known (message_of (record { head = head; tail = tail })) tail head)
    go (IvOgm ttl flags seq o prev tq) tail = plain (taken_acts q me came (IvOgm ttl flags seq o prev tq) (message_with o (first_table (containers_of tail))) tail known) (taken (IvOgm ttl flags seq o prev tq) tail (message_with o (first_table (containers_of tail))))
    go (Bcast ttl seq o) tail = plain (broadcast_acts known own.bridge (place_at me came) ttl (record { orig = o; number = seq }) tail) (plain_broadcast known own.bridge (place_at me came) ttl (record { orig = o; number = seq }) tail)
    go (Elp o seq interval) tail = tt
    go (Ogm2 ttl flags seq o throughput) tail = plain (taken_acts q me came (Ogm2 ttl flags seq o throughput) (message_with o (first_table (containers_of tail))) tail known) (taken (Ogm2 ttl flags seq o throughput) tail (message_with o (first_table (containers_of tail))))
    go (Unicast ttl ttvn dst) tail =
        let at = place_at me came in
        let passed = passed_frame q known at ttl ttvn dst tail in
        names_if looks orig log frames (same_mac dst me) (unicast_here q known own.mentions own.bridge at ttl tail) passed
        (unicast_here_names looks orig log frames q known own.mentions own.bridge at ttl tail can) (plain passed (plain_passed q known at ttl ttvn dst tail))
    go (Frag ttl number priority dst o seq total) tail =
        let one = put_together (part_of came.now o seq total number tail) known.parts in
        let head = Frag (ttl - 1) number priority dst o seq total in
        let passed = passed_fragment q known came.now ttl dst head tail in
        names_if looks orig log frames (same_mac dst me) (carried_here q known own.mentions own.bridge (place_at me came) one) passed
        (carried_names looks orig log frames q known own.mentions own.bridge (place_at me came) one can) (plain passed (plain_fragment q known came.now ttl dst head tail))
    go (Unicast4 ttl ttvn dst src subtype) tail = plain (unicast4_acts q me came known ttl ttvn dst src subtype tail) (plain_unicast4 q me came known ttl ttvn dst src subtype tail)
    go (Icmp ttl msg dst o uid seq) tail =
        let m : IcmpMessage = record { ttl = ttl; kind = msg; dst = dst; orig = o; uid = uid; seq = seq } in
        plain (icmp_acts q known (place_at me came) m) (plain_icmp q known (place_at me came) m)
    go (Utvlv ttl dst src) tail =
        let answer = own_answer q me known came.now own.last own.told src (message_in (first_table (containers_of tail))) in
        let unclaim = unclaim_acts (place_at me came) own.bridge (first_roaming (containers_of tail)) in
        names_if looks orig log frames (same_mac dst me) (answer ++ unclaim) (other_containers q known came.now ttl dst src tail)
        (plain (answer ++ unclaim) (each_appended IsPlain answer unclaim (plain_own q me known came.now own src (message_in (first_table (containers_of tail)))) (plain_unclaim (place_at me came) own.bridge (first_roaming (containers_of tail)))))
        (plain (other_containers q known came.now ttl dst src tail) (plain_other q known came.now ttl dst src tail))
