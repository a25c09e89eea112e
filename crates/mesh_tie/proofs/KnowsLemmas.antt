-- All addresses that a node may send to are whole.
use Rattle.std.proofs.Common.{◌≡◌, ◌&&◌, ◌||◌, ℕ, Bool, true, false, cond, not, nat_eq, nat_lt, List, [], ◌∷◌, filter, Option, Some, None, option_and_then, option_map, is_none, refl, subst, Ordering, Less, Equal, Greater}
use Rattle.std.specs.List.{AllByRecursion}
use Rattle.std.specs.Option.{option_or}
use Rattle.std.specs.Ordering.{match_ordering}
use Rattle.mesh_base.specs.declared.address.Mac.{Mac}
use Rattle.mesh_base.specs.declared.client.Key.{Key}
use Rattle.mesh_base.specs.declared.event.Reason.{Reason}
use Rattle.mesh_base.specs.declared.event.Reason.TheVariants.{Roam}
use Rattle.mesh_model.specs.declared.packet.Head.{Head}
use Rattle.mesh_model.specs.declared.packet.Head.TheVariants.{IvOgm, Bcast, Elp, Ogm2, Unicast, Frag, Unicast4, Icmp, Utvlv}
use Rattle.mesh_model.specs.declared.roaming_mark.RoamingMark.{RoamingMark}
use Rattle.mesh_model.specs.declared.table_outcome.Request.{Request}
use Rattle.mesh_model.specs.Clients.Log.{Log}
use Rattle.mesh_model.specs.Clients.Present.{same_key}
use Rattle.mesh_model.specs.Knowledge.Addressee.{Way, addressee, best_holder, marked_way, table_reason, table_way, way_to}
use Rattle.mesh_model.specs.Knowledge.FactStore.{after_fact_message}
use Rattle.mesh_model.specs.Knowledge.Known.{Broadcast, Knowledge, agreed_byte, is_new_broadcast, taken_at}
use Rattle.mesh_model.specs.Fragments.Assembly.{part_of}
use Rattle.mesh_model.specs.Knowledge.PutTogether.{fact_carried, put_together, with_part}
use Rattle.mesh_model.specs.Knowledge.Steps.{Coming, advertised, after_announcement, after_answer, after_broadcast, after_containers, after_head, after_message, after_packet, after_reply, after_roaming, after_sighting, after_taken, announced_by, announced_table, asked_by_request, before_announcement, released_under, request_out, sighting_calls, with_announcement, with_head, with_life}
use Rattle.mesh_model.specs.Knowledge.Told.{Message, TableMessage, Asks, Answers, Neither, message_in, message_of, message_with, part_told}
use Rattle.mesh_model.specs.Marks.Calls.{Call, Calls, Marked, Released, Unmarked, Advised, Asked, Forgotten}
use Rattle.mesh_model.specs.Marks.RoamingMarks.{is_ended, is_young, mark_by, mark_of, mark_to, next_mark, target_by}
use Rattle.mesh_model.specs.Packets.ArpMessages.{arp_came}
use Rattle.mesh_model.specs.Packets.Bodies.{TtData}
use Rattle.mesh_model.specs.Packets.Containers.{containers_of}
use Rattle.mesh_model.specs.Packets.Contents.{first_part, first_roaming, first_table}
use Rattle.mesh_model.specs.Packets.FactMessages.{fact_message_of}
use Rattle.mesh_model.specs.Packets.FirstPacket.{Packet}
use Rattle.mesh_model.specs.Probes.OpenProbes.{is_answer}
use Rattle.mesh_model.specs.Routes.Addresses.{insert_mac, is_smaller, mac_order, same_mac}
use Rattle.mesh_model.specs.Routes.BestRoute.{best, better}
use Rattle.mesh_model.specs.Routes.Queries.{Queries}
use Rattle.mesh_model.specs.Tables.Known.{Announced, Answered, Dropped, TableCalls, holders_by, known_by, names, originators_by}
use Rattle.mesh_laws.proofs.StoreLemmas.{message_rest}
use Rattle.mesh_tie.specs.Sources.{HasWholeAddresses, IsWhole}
use Rattle.mesh_tie.specs.Tie.{HasWholeSource, HasWholeTarget, KnowsWhole}
use Rattle.mesh_tie.proofs.PairLemmas.{arp_leaves, rest_leaves}
use Rattle.mesh_tie.proofs.ServesLemmas.{offer_whole}

-- ---- packets
knows_if : (b : Bool) (one other : Knowledge) → KnowsWhole one → KnowsWhole other → KnowsWhole (cond b one other)
knows_if true one other k l = k
knows_if false one other k l = l

released_whole : (target : Mac) (o : Option ℕ) (calls : Calls) → AllByRecursion HasWholeTarget calls → AllByRecursion HasWholeTarget (released_under target o calls)
released_whole target None calls all = all
released_whole target (Some byte) calls all = (tt, all)

asked_whole : (now : ℕ) (orig : Mac) (o : Option Request) (calls : Calls) → AllByRecursion HasWholeTarget calls → AllByRecursion HasWholeTarget (asked_by_request now orig o calls)
asked_whole now orig None calls all = all
asked_whole now orig (Some request) calls all = (tt, all)

with_head_knows : (came : Coming) (head : Head) (known : Knowledge) → KnowsWhole known → KnowsWhole (with_head came head known)
with_head_knows came head known k = record { tables = k.tables; marks = k.marks; services = k.services }

with_life_knows : (orig : Mac) (b : Bool) (known : Knowledge) → KnowsWhole known → KnowsWhole (with_life orig b known)
with_life_knows orig true known k = record { tables = (tt, k.tables); marks = (tt, k.marks); services = k.services }
with_life_knows orig false known k = k

announcement_knows : (came : Coming) (message : Message) (request : Option Request) (known : Knowledge) → IsWhole message.orig → KnowsWhole known → KnowsWhole (with_announcement came message request known)
announcement_knows came message request known whole k = record {
  tables = (whole, k.tables);
  marks = asked_whole came.now message.orig request (released_under message.orig (agreed_byte (known_by (announced_table came message ∷ known.tables) message.orig)) known.marks)
      (released_whole message.orig (agreed_byte (known_by (announced_table came message ∷ known.tables) message.orig)) known.marks k.marks);
  services = k.services;
}

message_knows : (q : Queries) (came : Coming) (head : Head) (message : Message) (known : Knowledge) → IsWhole message.orig → KnowsWhole known → KnowsWhole (after_message q came head message known)
message_knows q came head message known whole k =
    let before : Knowledge = before_announcement q came head message.orig known in
    knows_if (q.hear known.routes came.now came.from came.throughput head).accepted (after_announcement q came message before) (with_head came head known)
    (announcement_knows came message (request_out q before came.now message) before whole (with_life_knows message.orig (q.hear known.routes came.now came.from came.throughput head).began (with_head came head known) (with_head_knows came head known k)))
    (with_head_knows came head known k)

taken_knows : (q : Queries) (came : Coming) (head : Head) (source : Mac) (o : Option TtData) (tail : List ℕ) (known : Knowledge) → IsWhole source → KnowsWhole known → KnowsWhole (after_taken q came head (message_with source o) tail known)
taken_knows q came head source None tail known whole k = k
taken_knows q came head source (Some table) tail known whole k =
    let message : Message = record { orig = source; table = table } in
    let after : Knowledge = after_message q came head message known in
    let knows = message_knows q came head message known whole k in
    record {
      tables = knows.tables;
      marks = knows.marks;
      services = offer_whole (q.hear known.routes came.now came.from came.throughput head).accepted source (containers_of tail) after.services whole knows.services;
    }

answer_knows : (q : Queries) (now : ℕ) (src : Mac) (message : TableMessage) (known : Knowledge) → KnowsWhole known → KnowsWhole (after_answer q now src message known)
answer_knows q now src (Asks full stamp) known k = k
answer_knows q now src (Answers stamp carried) known k =
    let more : Knowledge = record known { tables = Answered src stamp carried ∷ known.tables; marks = released_under src (agreed_byte (known_by (Answered src stamp carried ∷ known.tables) src)) known.marks } in
    knows_if (q.live known.routes now src) more known (record { tables = (tt, k.tables); marks = released_whole src (agreed_byte (known_by (Answered src stamp carried ∷ known.tables) src)) known.marks k.marks; services = k.services }) k
answer_knows q now src Neither known k = k

roaming_knows : (q : Queries) (now : ℕ) (src : Mac) (o : Option Key) (known : Knowledge) → IsWhole src → KnowsWhole known → KnowsWhole (after_roaming q now src o known)
roaming_knows q now src None known whole k = k
roaming_knows q now src (Some key) known whole k = record { tables = k.tables; marks = (whole, k.marks); services = k.services }

pub packet_knows : (q : Queries) (me : Mac) (came : Coming) (packet : Packet) (known : Knowledge) → HasWholeAddresses packet.head → KnowsWhole known → KnowsWhole (after_packet q me came known packet)
packet_knows q me came packet known whole k = go packet.head packet.tail whole
  where
    go : (head : Head) (tail : List ℕ) → HasWholeAddresses head → KnowsWhole (after_head q me came (message_of (record { head = head; tail = tail })) tail head known)
    go (IvOgm ttl flags seq o prev tq) tail whole = taken_knows q came (IvOgm ttl flags seq o prev tq) o (first_table (containers_of tail)) tail known whole.0 k
    go (Bcast ttl seq o) tail whole =
        let broadcast : Broadcast = record { orig = o; number = seq } in
        let taken = after_broadcast me came.now broadcast known in
        let told = announced_by me came.now broadcast tail known in
        (rest_leaves taken (after_fact_message came.now told taken) (message_rest came.now told taken)).knows (knows_if (is_new_broadcast me came.now broadcast known.taken) (record known { taken = taken_at came.now broadcast known.taken ∷ known.taken }) known (record { tables = k.tables; marks = k.marks; services = k.services }) k)
    go (Elp o seq interval) tail whole = with_head_knows came (Elp o seq interval) known k
    go (Ogm2 ttl flags seq o throughput) tail whole = taken_knows q came (Ogm2 ttl flags seq o throughput) o (first_table (containers_of tail)) tail known whole k
    go (Unicast ttl ttvn dst) tail whole =
        let after = after_fact_message came.now (fact_message_of tail) known in
        knows_if (same_mac dst me) after known ((rest_leaves known after (message_rest came.now (fact_message_of tail) known)).knows k) k
    go (Frag ttl number priority dst o seq total) tail whole =
        let call = part_of came.now o seq total number tail in
        let carried = fact_carried (put_together call known.parts) in
        let with = with_part call known in
        let after = after_fact_message call.moment carried with in
        knows_if (same_mac dst me) after known ((rest_leaves with after (message_rest call.moment carried with)).knows (record { tables = k.tables; marks = k.marks; services = k.services })) k
    go (Unicast4 ttl ttvn dst src subtype) tail whole = (arp_leaves (same_mac dst me) came.now (arp_came subtype tail) known).knows k
    go (Icmp ttl msg dst o uid seq) tail whole = knows_if (same_mac dst me && is_answer msg) (after_reply q came.now msg seq known) known (record { tables = k.tables; marks = k.marks; services = k.services }) k
    go (Utvlv ttl dst src) tail whole =
        let answer : Knowledge = after_answer q came.now src (message_in (first_table (containers_of tail))) known in
        let part : Knowledge = after_answer q came.now src (part_told (first_part (containers_of tail))) answer in
        knows_if (same_mac dst me) (after_containers q came.now src tail known) known
        (roaming_knows q came.now src (first_roaming (containers_of tail)) part whole.1
        (answer_knows q came.now src (part_told (first_part (containers_of tail))) answer (answer_knows q came.now src (message_in (first_table (containers_of tail))) known k))) k

-- ---- sightings
sighting_whole : (now : ℕ) (key : Key) (o : Option Way) (calls : Calls) → AllByRecursion HasWholeTarget calls → AllByRecursion HasWholeTarget (sighting_calls now key o calls)
sighting_whole now key None calls all = (tt, all)
sighting_whole now key (Some way) calls all = (tt, (tt, all))

pub sighting_knows : (q : Queries) (me : Mac) (older : Log) (now : ℕ) (key : Key) (known : Knowledge) → KnowsWhole known → KnowsWhole (after_sighting q me older now key known)
sighting_knows q me older now key known k = record { tables = k.tables; marks = sighting_whole now key (advertised q me older known now key) known.marks k.marks; services = k.services }

-- ---- where a node sends
-- an address, where there is one, is whole
abbrev IfWhole : Option Mac → Type 0
IfWhole o = (mac : Mac) → o ≡ Some mac → IsWhole mac

-- the target of a mark, where there is one, is whole
abbrev IfMarked : Option RoamingMark → Type 0
IfMarked o = (mark : RoamingMark) → o ≡ Some mark → IsWhole mark.target

marked_by : (calls : Calls) (key : Key) → AllByRecursion HasWholeTarget calls → IfMarked (mark_by calls key)
marked_by [] key all = λ mark is. cc
marked_by (call ∷ older) key all = go call all.0 (mark_by older key) (marked_by older key all.1)
  where
    go : (call : Call) → HasWholeTarget call → (before : Option RoamingMark) → IfMarked before → IfMarked (next_mark call key before)
    go (Marked now k target told) whole before old = by (same_key k key)
      where
        by : (b : Bool) → IfMarked (cond b (Some (mark_to now target told)) before)
        by true mark is = let same : mark_to now target told ≡ mark = cc in subst (λ (m : RoamingMark). IsWhole m.target) same whole
        by false mark is = old mark is
    go (Released target byte) whole None old = old
    go (Released target byte) whole (Some m) old = by (is_ended target byte m)
      where
        by : (b : Bool) → IfMarked (cond b None (Some m))
        by true mark is = cc
        by false mark is = old mark is
    go (Unmarked k) whole before old = by (same_key k key)
      where
        by : (b : Bool) → IfMarked (cond b None before)
        by true mark is = cc
        by false mark is = old mark is
    go (Advised now k) whole before old = old
    go (Asked now orig) whole before old = old
    go (Forgotten orig) whole before old = old

target_whole : (now : ℕ) (o : Option RoamingMark) → IfMarked o → IfWhole (option_and_then (target_by now) o)
target_whole now None old = λ mac is. cc
target_whole now (Some m) old = by (is_young now m)
  where
    by : (b : Bool) → IfWhole (cond b (Some m.target) None)
    by true mac is = let same : m.target ≡ mac = cc in subst IsWhole same (old m refl)
    by false mac is = cc

each_mac_inserted : (mac : Mac) (macs : List Mac) → IsWhole mac → AllByRecursion IsWhole macs → AllByRecursion IsWhole (insert_mac mac macs)
each_mac_inserted mac [] one all = (one, tt)
each_mac_inserted mac (first ∷ rest) one all = go (mac_order mac first) (each_mac_inserted mac rest one all.1)
  where
    go : (r : Ordering) → AllByRecursion IsWhole (insert_mac mac rest) → AllByRecursion IsWhole (match_ordering r (mac ∷ first ∷ rest) (first ∷ rest) (first ∷ insert_mac mac rest))
    go Less more = (one, all)
    go Equal more = all
    go Greater more = (all.0, more)

each_mac_filtered : (test : Mac → Bool) (macs : List Mac) → AllByRecursion IsWhole macs → AllByRecursion IsWhole (filter test macs)
each_mac_filtered test [] all = tt
each_mac_filtered test (mac ∷ macs) all = go (test mac) (each_mac_filtered test macs all.1)
  where
    go : (b : Bool) → AllByRecursion IsWhole (filter test macs) → AllByRecursion IsWhole (cond b (mac ∷ filter test macs) (filter test macs))
    go true rest = (all.0, rest)
    go false rest = rest

originators_whole : (calls : TableCalls) → AllByRecursion HasWholeSource calls → AllByRecursion IsWhole (originators_by calls)
originators_whole [] all = tt
originators_whole (Announced orig frame stamp changes ∷ older) all = each_mac_inserted orig (originators_by older) all.0 (originators_whole older all.1)
originators_whole (Answered orig stamp carried ∷ older) all = originators_whole older all.1
originators_whole (Dropped orig ∷ older) all = each_mac_filtered (λ other. not (same_mac orig other)) (originators_by older) (originators_whole older all.1)

best_whole : (score : Mac → ℕ) (macs : List Mac) → AllByRecursion IsWhole macs → IfWhole (best score macs)
best_whole score [] all = λ mac is. cc
best_whole score (k ∷ rest) all = go (best score rest) (best_whole score rest all.1)
  where
    go : (o : Option Mac) → IfWhole o → IfWhole (better score k o)
    go None old = by (nat_lt 0 (score k))
      where
        by : (b : Bool) → IfWhole (cond b (Some k) None)
        by true mac is = let same : k ≡ mac = cc in subst IsWhole same all.0
        by false mac is = cc
    go (Some j) old = by (nat_lt (score j) (score k) || (nat_eq (score j) (score k) && is_smaller k j))
      where
        by : (b : Bool) → IfWhole (cond b (Some k) (Some j))
        by true mac is = let same : k ≡ mac = cc in subst IsWhole same all.0
        by false mac is = old mac is

-- a way, where there is one, leads to a whole address
abbrev pub IfWay : Option Way → Type 0
IfWay o = (way : Way) → o ≡ Some way → IsWhole way.orig

way_whole : (q : Queries) (known : Knowledge) (now : ℕ) (reason : Reason) (orig : Mac) → IsWhole orig → IfWay (way_to q known now reason orig)
way_whole q known now reason orig whole = go (q.route known.routes now orig)
  where
    go : (o : Option Mac) → IfWay (option_map (λ next. record { orig = orig; next = next; reason = reason }) o)
    go None way is = cc
    go (Some next) way is = let same : record { orig = orig; next = next; reason = reason } ≡ way = cc in subst (λ (w : Way). IsWhole w.orig) same whole

way_and_then : (f : Mac → Option Way) (o : Option Mac) → IfWhole o → ((mac : Mac) → IsWhole mac → IfWay (f mac)) → IfWay (option_and_then f o)
way_and_then f None old each way is = cc
way_and_then f (Some mac) old each way is = each mac (old mac refl) way is

way_or : (one other : Option Way) → IfWay one → IfWay other → IfWay (option_or one other)
way_or None other a b = b
way_or (Some way) other a b = a

pub addressee_whole : (q : Queries) (known : Knowledge) (now : ℕ) (key : Key) → KnowsWhole known → IfWay (addressee q known now key)
addressee_whole q known now key k = way_or (marked_way q known now key) (table_way q known now key)
    (way_and_then (way_to q known now Roam) (mark_of now known.marks key) (target_whole now (mark_by known.marks key) (marked_by known.marks key k.marks)) (λ mac whole. way_whole q known now Roam mac whole))
    (way_and_then (λ orig. way_to q known now (table_reason q known now orig) orig) (best_holder q known now key)
    (best_whole (q.metric known.routes now) (filter (q.live known.routes now) (holders_by known.tables key)) (each_mac_filtered (q.live known.routes now) (holders_by known.tables key)
    (each_mac_filtered (λ orig. names key (known_by known.tables orig).held) (originators_by known.tables) (originators_whole known.tables k.tables))))
    (λ mac whole. way_whole q known now (table_reason q known now mac) mac whole))

way_if : (b : Bool) (o : Option Way) → IfWay o → IfWay (cond b o None)
way_if true o old = old
way_if false o old = λ way is. cc

pub advertised_whole : (q : Queries) (me : Mac) (older : Log) (known : Knowledge) (now : ℕ) (key : Key) → KnowsWhole known → IfWay (advertised q me older known now key)
advertised_whole q me older known now key k = way_if
    (is_none (Rattle.mesh_model.specs.Clients.Present.present_row (Rattle.mesh_model.specs.Clients.Mentions.mentions me older) now key) && is_none (Rattle.mesh_model.specs.Marks.Advertisements.too_many now known.marks key))
    (addressee q known now key) (addressee_whole q known now key k)
