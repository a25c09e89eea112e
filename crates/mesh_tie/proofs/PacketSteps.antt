-- A packet that comes to a node: its acts are said, and what the node knows then is tied again.
use Rattle.std.proofs.Common.{◌≡◌, inl, inr, ◌≤◌, ◌<◌, ◌-◌, ◌&&◌, ℕ, Bool, true, false, cond, List, ◌∷◌, ◌++◌, length, slice_get, Option, Some, None, refl, sym, ap, subst, ◌∙◌}
use Rattle.std.specs.List.{AllByRecursion}
use Rattle.mesh_base.specs.declared.address.Mac.{Mac}
use Rattle.mesh_base.specs.declared.client.Key.{Key}
use Rattle.mesh_model.specs.declared.act.Act.{Act}
use Rattle.mesh_model.specs.declared.packet.Head.{Head}
use Rattle.mesh_model.specs.declared.packet.Head.TheVariants.{IvOgm, Bcast, Elp, Ogm2, Unicast, Frag, Unicast4, Icmp, Utvlv}
use Rattle.mesh_model.specs.declared.table_change.Change.{Change}
use Rattle.mesh_model.specs.Acts.BridgeRows.{unclaim_acts}
use Rattle.mesh_model.specs.Acts.FragmentRows.{carried_here, passed_fragment, unicast_here}
use Rattle.mesh_model.specs.Acts.FrameRows.{passed_frame}
use Rattle.mesh_model.specs.Acts.ProbeRows.{IcmpMessage}
use Rattle.mesh_model.specs.Acts.Rows.{Own, head_acts, icmp_acts, packet_acts, place_at, taken_acts}
use Rattle.mesh_model.specs.Acts.TableRows.{other_containers, own_answer}
use Rattle.mesh_model.specs.Clients.Log.{Log}
use Rattle.mesh_model.specs.Fragments.Assembly.{PartCall, part_of}
use Rattle.mesh_model.specs.Knowledge.FactStore.{after_fact_message}
use Rattle.mesh_model.specs.Knowledge.Known.{Broadcast, Knowledge, is_new_broadcast, taken_at}
use Rattle.mesh_model.specs.Knowledge.PutTogether.{after_part, fact_carried, put_together, with_part}
use Rattle.mesh_model.specs.Knowledge.Steps.{Coming, after_announcement, after_answer, after_broadcast, after_containers, after_head, after_message, after_packet, after_reply, after_roaming, after_taken, announced_by, before_announcement, with_head, with_life}
use Rattle.mesh_model.specs.Knowledge.Told.{Message, TableMessage, Asks, Answers, Neither, message_changes, message_in, message_of, message_with, part_told, stamp_told}
use Rattle.mesh_model.specs.Net.Mesh.{SentFrame}
use Rattle.mesh_model.specs.Packets.ArpMessages.{arp_came}
use Rattle.mesh_model.specs.Packets.Bodies.{TtData}
use Rattle.mesh_model.specs.Packets.Containers.{containers_of}
use Rattle.mesh_model.specs.Packets.Contents.{first_part, first_roaming, first_table}
use Rattle.mesh_model.specs.Packets.FactMessages.{CameFact, fact_message_of}
use Rattle.mesh_model.specs.Packets.FirstPacket.{Packet}
use Rattle.mesh_model.specs.Probes.OpenProbes.{is_answer}
use Rattle.mesh_model.specs.Routes.Addresses.{same_mac}
use Rattle.mesh_model.specs.Routes.Queries.{Queries}
use Rattle.mesh_model.specs.Tables.Judging.{Carried}
use Rattle.mesh_model.specs.Tables.Known.{Announced, Answered, Dropped, TableCalls, announced, answered, known_by, nothing}
use Rattle.mesh_model.specs.Tables.Versions.{Stamp}
use Rattle.mesh_laws.specs.Machine.World.{Saying, World, WasSaid}
use Rattle.mesh_laws.proofs.MacLemmas.{same_exact}
use Rattle.mesh_laws.proofs.StoreLemmas.{message_rest}
use Rattle.mesh_tie.specs.Sayings.{IsAnnounced, IsAnswered, PacketSays, saying_of}
use Rattle.mesh_tie.specs.Sources.{IsMessageOf, IsWhole, KeepsOriginators}
use Rattle.mesh_tie.proofs.ArpActs.{unicast4_acts}
use Rattle.mesh_tie.proofs.PairLemmas.{arp_leaves, rest_leaves}
use Rattle.mesh_tie.proofs.CalmRows.{calm_broadcast, calm_carried, calm_fragment, calm_icmp, calm_passed, calm_unclaim, calm_unicast4, calm_unicast_here}
use Rattle.mesh_tie.proofs.EntryLemmas.{each_appended}
use Rattle.mesh_tie.proofs.NodeMoves.{Comes, IsBrought, answers_come, forgets, tells}
use Rattle.mesh_tie.proofs.Sayable.{Sayable, calm_row}
use Rattle.mesh_tie.proofs.TableRows.{Holder, IsTaken, Speaker, ogm_row, other_row, own_row}

-- ---- what the node knows then
-- the frame that a packet came in
pub record CameIn (frames : List SentFrame) (root number : ℕ) : Type 0 where
  pub frame : SentFrame
  pub sent : slice_get frames (number - 1) ≡ Some frame
  pub root_is : frame.root ≡ root

-- what is known of an originator after one call more
abbrev Tied : Mac → Log → List SentFrame → World → ℕ → TableCalls → Type 0
Tied orig log frames w m calls = Comes orig log frames w m (known_by calls orig)

dropped : (orig : Mac) (log : Log) (frames : List SentFrame) (w : World) (m : ℕ) (source : Mac) (calls : TableCalls) → Tied orig log frames w m calls → Tied orig log frames w m (Dropped source ∷ calls)
dropped orig log frames w m source calls c = go (same_mac source orig)
  where
    go : (b : Bool) → Comes orig log frames w m (cond b nothing (known_by calls orig))
    go true = forgets orig log frames w m (known_by calls orig) c
    go false = c

announced_call : (orig : Mac) (log : Log) (frames : List SentFrame) (w : World) (m : ℕ) (source : Mac) (number : ℕ) (stamp : Stamp) (changes : List Change) (calls : TableCalls) → Tied orig log frames w m calls
    → (source ≡ orig → IsBrought orig log frames w.said number stamp changes) → Tied orig log frames w m (Announced source number stamp changes ∷ calls)
announced_call orig log frames w m source number stamp changes calls c brought = go (same_mac source orig) refl
  where
    go : (b : Bool) → same_mac source orig ≡ b → Comes orig log frames w m (cond b (announced number stamp changes (known_by calls orig)) (known_by calls orig))
    go true is = tells orig log frames w m (known_by calls orig) number stamp changes c (brought (same_exact source orig is))
    go false is = c

answered_call : (orig : Mac) (log : Log) (frames : List SentFrame) (w : World) (m : ℕ) (source : Mac) (stamp : Stamp) (carried : Carried) (calls : TableCalls) → Tied orig log frames w m calls
    → (source ≡ orig → WasSaid w.said (saying_of stamp carried)) → Tied orig log frames w m (Answered source stamp carried ∷ calls)
answered_call orig log frames w m source stamp carried calls c was = go (same_mac source orig) refl
  where
    go : (b : Bool) → same_mac source orig ≡ b → Comes orig log frames w m (cond b (answered stamp carried (known_by calls orig)) (known_by calls orig))
    go true is = answers_come orig log frames w m (known_by calls orig) stamp carried c (was (same_exact source orig is))
    go false is = c

brought_by : (orig : Mac) (log : Log) (frames : List SentFrame) (said : List Saying) (root number : ℕ) (head : Head) (message : Message) (tail : List ℕ) → CameIn frames root number → IsTaken orig log said root head message tail
    → message.orig ≡ orig → IsBrought orig log frames said number (stamp_told message.table) (message_changes message.table)
brought_by orig log frames said root number head message tail f t same =
    let a = t.says same in
    let table : a.table ≡ message.table = let both : Some a.table ≡ Some message.table = sym a.found ∙ t.found in cc in
    record {
      frame = f.frame;
      sent = f.sent;
      past = subst (λ r. r ≤ Rattle.mesh_model.specs.Net.Due.ticks_in log) (sym f.root_is) a.past;
      was_said = subst (λ r. WasSaid said (Rattle.mesh_tie.specs.Sayings.announcement_by (Rattle.mesh_tie.specs.Originators.number_at_root orig log r) message.table)) (sym f.root_is)
          (subst (λ (x : TtData). WasSaid said (Rattle.mesh_tie.specs.Sayings.announcement_by (Rattle.mesh_tie.specs.Originators.number_at_root orig log root) x)) table a.was_said);
    }

-- an originator message that a node takes
message_comes : (orig : Mac) (log : Log) (frames : List SentFrame) (w : World) (m : ℕ) (q : Queries) (root : ℕ) (came : Coming) (head : Head) (message : Message) (tail : List ℕ) (known : Knowledge)
    → CameIn frames root came.number → IsTaken orig log w.said root head message tail → Tied orig log frames w m known.tables → Tied orig log frames w m (after_message q came head message known).tables
message_comes orig log frames w m q root came head message tail known f t c = go (q.hear known.routes came.now came.from came.throughput head).accepted
  where
    begun : (b : Bool) → Tied orig log frames w m (with_life message.orig b (with_head came head known)).tables
    begun true = dropped orig log frames w m message.orig known.tables c
    begun false = c

    go : (b : Bool) → Tied orig log frames w m (cond b (after_announcement q came message (before_announcement q came head message.orig known)) (with_head came head known)).tables
    go true = announced_call orig log frames w m message.orig came.number (stamp_told message.table) (message_changes message.table) (before_announcement q came head message.orig known).tables
        (begun (q.hear known.routes came.now came.from came.throughput head).began) (brought_by orig log frames w.said root came.number head message tail f t)
    go false = c

taken_comes : (orig : Mac) (log : Log) (frames : List SentFrame) (w : World) (m : ℕ) (q : Queries) (root : ℕ) (came : Coming) (head : Head) (message : Option Message) (tail : List ℕ) (known : Knowledge)
    → CameIn frames root came.number → ((one : Message) → message ≡ Some one → IsTaken orig log w.said root head one tail) → Tied orig log frames w m known.tables → Tied orig log frames w m (after_taken q came head message tail known).tables
taken_comes orig log frames w m q root came head None tail known f t c = c
taken_comes orig log frames w m q root came head (Some message) tail known f t c = message_comes orig log frames w m q root came head message tail known f (t message refl) c

-- containers for a node
answer_comes : (orig : Mac) (log : Log) (frames : List SentFrame) (w : World) (m : ℕ) (q : Queries) (now : ℕ) (src : Mac) (message : TableMessage) (known : Knowledge)
    → (src ≡ orig → (stamp : Stamp) (carried : Carried) → message ≡ Answers stamp carried → WasSaid w.said (saying_of stamp carried)) → Tied orig log frames w m known.tables → Tied orig log frames w m (after_answer q now src message known).tables
answer_comes orig log frames w m q now src (Asks full stamp) known was c = c
answer_comes orig log frames w m q now src (Answers stamp carried) known was c = go (q.live known.routes now src)
  where
    more : Knowledge
    more = record known { tables = Answered src stamp carried ∷ known.tables; marks = (Rattle.mesh_model.specs.Knowledge.Steps.released_under src (Rattle.mesh_model.specs.Knowledge.Known.agreed_byte (known_by (Answered src stamp carried ∷ known.tables) src)) known.marks) }

    go : (b : Bool) → Tied orig log frames w m (cond b more known).tables
    go true = answered_call orig log frames w m src stamp carried known.tables c (λ same. was same stamp carried refl)
    go false = c
answer_comes orig log frames w m q now src Neither known was c = c

roamed_same : (q : Queries) (now : ℕ) (src : Mac) (key : Option Key) (known : Knowledge) → (after_roaming q now src key known).tables ≡ known.tables
roamed_same q now src None known = refl
roamed_same q now src (Some key) known = refl

containers_come : (orig : Mac) (log : Log) (frames : List SentFrame) (w : World) (m : ℕ) (q : Queries) (me : Mac) (now : ℕ) (dst src : Mac) (tail : List ℕ) (known : Knowledge)
    → (src ≡ orig → IsAnswered w.said tail) → Tied orig log frames w m known.tables → Tied orig log frames w m (cond (same_mac dst me) (after_containers q now src tail known) known).tables
containers_come orig log frames w m q me now dst src tail known says c = go (same_mac dst me)
  where
    whole : Knowledge
    whole = after_answer q now src (message_in (first_table (containers_of tail))) known

    part : Knowledge
    part = after_answer q now src (part_told (first_part (containers_of tail))) whole

    go : (b : Bool) → Tied orig log frames w m (cond b (after_containers q now src tail known) known).tables
    go true = subst (Tied orig log frames w m) (sym (roamed_same q now src (first_roaming (containers_of tail)) part))
        (answer_comes orig log frames w m q now src (part_told (first_part (containers_of tail))) whole (λ same stamp carried is. (says same).was_said stamp carried (inr is))
        (answer_comes orig log frames w m q now src (message_in (first_table (containers_of tail))) known (λ same stamp carried is. (says same).was_said stamp carried (inl is)) c))
    go false = c

-- a broadcast
broadcast_same : (me : Mac) (now : ℕ) (broadcast : Broadcast) (known : Knowledge) → (after_broadcast me now broadcast known).tables ≡ known.tables
broadcast_same me now broadcast known = go (is_new_broadcast me now broadcast known.taken)
  where
    go : (b : Bool) → (cond b (record known { taken = taken_at now broadcast known.taken ∷ known.taken }) known).tables ≡ known.tables
    go true = refl
    go false = refl

-- a message of the fact store
fact_same : (now : ℕ) (o : Option CameFact) (known : Knowledge) → (after_fact_message now o known).tables ≡ known.tables
fact_same now o known = (rest_leaves known (after_fact_message now o known) (message_rest now o known)).tables

facts_same : (b : Bool) (now : ℕ) (o : Option CameFact) (known : Knowledge) → (cond b (after_fact_message now o known) known).tables ≡ known.tables
facts_same true now o known = fact_same now o known
facts_same false now o known = refl

-- a fragment
part_same : (b : Bool) (call : PartCall) (known : Knowledge) → (cond b (after_part call known) known).tables ≡ known.tables
part_same true call known = fact_same call.moment (fact_carried (put_together call known.parts)) (with_part call known)
part_same false call known = refl

-- an answer to a probe
reply_same : (q : Queries) (now msg seq : ℕ) (b : Bool) (known : Knowledge) → (cond b (after_reply q now msg seq known) known).tables ≡ known.tables
reply_same q now msg seq true known = refl
reply_same q now msg seq false known = refl

-- ---- the message that a packet is
one_message : (source : Mac) (o : Option TtData) (one : Message) → message_with source o ≡ Some one → (one.orig ≡ source) × (o ≡ Some one.table)
one_message source None one is = cc
one_message source (Some table) one is =
    let same : record { orig = source; table = table } ≡ one = cc in
    (ap (λ (x : Message). x.orig) (sym same), ap (λ (x : Message). Some x.table) same)

message_taken : (orig : Mac) (log : Log) (said : List Saying) (root : ℕ) (head : Head) (source : Mac) (tail : List ℕ) (one : Message) → IsMessageOf source head → length tail < 65536
    → (source ≡ orig → IsAnnounced orig log said root tail) → message_with source (first_table (containers_of tail)) ≡ Some one → IsTaken orig log said root head one tail
message_taken orig log said root head source tail one is small says message =
    let parts = one_message source (first_table (containers_of tail)) one message in
    record {
      message_is = subst (λ s. IsMessageOf s head) (sym parts.0) is;
      found = parts.1;
      small = small;
      says = λ same. says (sym parts.0 ∙ same);
    }

-- ---- a packet
pub packet_comes : (orig : Mac) (log : Log) (frames : List SentFrame) (w : World) (m : ℕ) (q : Queries) (me : Mac) (root : ℕ) (came : Coming) (packet : Packet) (known : Knowledge)
    → CameIn frames root came.number → PacketSays orig log w.said root packet → Tied orig log frames w m known.tables → Tied orig log frames w m (after_packet q me came known packet).tables
packet_comes orig log frames w m q me root came packet known f p c = go packet.head packet.tail p
  where
    go : (head : Head) (tail : List ℕ) → PacketSays orig log w.said root (record { head = head; tail = tail })
        → Tied orig log frames w m (after_head q me came (message_of (record { head = head; tail = tail })) tail head known).tables
    go (IvOgm ttl flags seq o prev tq) tail p = taken_comes orig log frames w m q root came (IvOgm ttl flags seq o prev tq) (message_with o (first_table (containers_of tail))) tail known f
        (λ one is. message_taken orig log w.said root (IvOgm ttl flags seq o prev tq) o tail one (record { word = refl; addresses = p.addresses }) p.says.0 p.says.1 is) c
    go (Bcast ttl seq o) tail p =
        let broadcast : Broadcast = record { orig = o; number = seq } in
        subst (Tied orig log frames w m) (sym (fact_same came.now (announced_by me came.now broadcast tail known) (after_broadcast me came.now broadcast known) ∙ broadcast_same me came.now broadcast known)) c
    go (Elp o seq interval) tail p = c
    go (Ogm2 ttl flags seq o throughput) tail p = taken_comes orig log frames w m q root came (Ogm2 ttl flags seq o throughput) (message_with o (first_table (containers_of tail))) tail known f
        (λ one is. message_taken orig log w.said root (Ogm2 ttl flags seq o throughput) o tail one (record { word = refl; addresses = p.addresses }) p.says.0 p.says.1 is) c
    go (Unicast ttl ttvn dst) tail p = subst (Tied orig log frames w m) (sym (facts_same (same_mac dst me) came.now (fact_message_of tail) known)) c
    go (Frag ttl number priority dst o seq total) tail p =
        let call = part_of came.now o seq total number tail in
        subst (Tied orig log frames w m) (sym (part_same (same_mac dst me) call known)) c
    go (Unicast4 ttl ttvn dst src subtype) tail p = subst (Tied orig log frames w m) (sym (arp_leaves (same_mac dst me) came.now (arp_came subtype tail) known).tables) c
    go (Icmp ttl msg dst o uid seq) tail p = subst (Tied orig log frames w m) (sym (reply_same q came.now msg seq (same_mac dst me && is_answer msg) known)) c
    go (Utvlv ttl dst src) tail p = containers_come orig log frames w m q me came.now dst src tail known p.says c

-- the acts of a packet are said
pub packet_row : (orig : Mac) (log : Log) (w : World) (m : ℕ) (q : Queries) (me : Mac) (own : Own) (root : ℕ) (came : Coming) (packet : Packet) (known : Knowledge)
    → KeepsOriginators me q → IsWhole came.from → Speaker orig w me own → Holder orig w m known → PacketSays orig log w.said root packet
    → AllByRecursion (Sayable orig log root w) (packet_acts q me own came known packet)
unfolding packet_acts
packet_row orig log w m q me own root came packet known keeps from s h p = go packet.head packet.tail p
  where
    taken : (head : Head) (source : Mac) (tail : List ℕ) (o : Option Message) → ((one : Message) → o ≡ Some one → IsTaken orig log w.said root head one tail) → AllByRecursion (Sayable orig log root w) (taken_acts q me came head o tail known)
    taken head source tail None t = tt
    taken head source tail (Some message) t = ogm_row orig log root w q me came head message tail known keeps s.whole from (t message refl)

    either : (b : Bool) (xs ys : List Act) → AllByRecursion (Sayable orig log root w) xs → AllByRecursion (Sayable orig log root w) ys → AllByRecursion (Sayable orig log root w) (cond b xs ys)
    either true xs ys a b = a
    either false xs ys a b = b

    go : (head : Head) (tail : List ℕ) → PacketSays orig log w.said root (record { head = head; tail = tail })
        → AllByRecursion (Sayable orig log root w) (head_acts q me own came known (message_of (record { head = head; tail = tail })) tail head)
    go (IvOgm ttl flags seq o prev tq) tail p = taken (IvOgm ttl flags seq o prev tq) o tail (message_with o (first_table (containers_of tail)))
        (λ one is. message_taken orig log w.said root (IvOgm ttl flags seq o prev tq) o tail one (record { word = refl; addresses = p.addresses }) p.says.0 p.says.1 is)
    go (Bcast ttl seq o) tail p = calm_row orig log root w (Rattle.mesh_model.specs.Acts.FrameRows.broadcast_acts known own.bridge (place_at me came) ttl (record { orig = o; number = seq }) tail) (calm_broadcast known own.bridge (place_at me came) ttl (record { orig = o; number = seq }) tail)
    go (Elp o seq interval) tail p = tt
    go (Ogm2 ttl flags seq o throughput) tail p = taken (Ogm2 ttl flags seq o throughput) o tail (message_with o (first_table (containers_of tail)))
        (λ one is. message_taken orig log w.said root (Ogm2 ttl flags seq o throughput) o tail one (record { word = refl; addresses = p.addresses }) p.says.0 p.says.1 is)
    go (Unicast ttl ttvn dst) tail p =
        let at = place_at me came in
        let here = unicast_here q known own.mentions own.bridge at ttl tail in
        let passed = passed_frame q known at ttl ttvn dst tail in
        either (same_mac dst me) here passed (calm_row orig log root w here (calm_unicast_here q known own.mentions own.bridge at ttl tail))
        (calm_row orig log root w passed (calm_passed q known at ttl ttvn dst tail))
    go (Frag ttl number priority dst o seq total) tail p =
        let at = place_at me came in
        let one = put_together (part_of came.now o seq total number tail) known.parts in
        let here = carried_here q known own.mentions own.bridge at one in
        let passed = passed_fragment q known came.now ttl dst (Frag (ttl - 1) number priority dst o seq total) tail in
        either (same_mac dst me) here passed (calm_row orig log root w here (calm_carried q known own.mentions own.bridge at one))
        (calm_row orig log root w passed (calm_fragment q known came.now ttl number priority dst o seq total tail))
    go (Unicast4 ttl ttvn dst src subtype) tail p = calm_row orig log root w (unicast4_acts q me came known ttl ttvn dst src subtype tail) (calm_unicast4 q me came known ttl ttvn dst src subtype tail)
    go (Icmp ttl msg dst o uid seq) tail p =
        let m : IcmpMessage = record { ttl = ttl; kind = msg; dst = dst; orig = o; uid = uid; seq = seq } in
        calm_row orig log root w (icmp_acts q known (place_at me came) m) (calm_icmp q known (place_at me came) m)
    go (Utvlv ttl dst src) tail p =
        let answer = own_answer q me known came.now own.last own.told src (message_in (first_table (containers_of tail))) in
        let unclaim = unclaim_acts (place_at me came) own.bridge (first_roaming (containers_of tail)) in
        either (same_mac dst me) (answer ++ unclaim) (other_containers q known came.now ttl dst src tail)
        (each_appended (Sayable orig log root w) answer unclaim (own_row orig log root w q me known came.now own src (message_in (first_table (containers_of tail))) s p.addresses.1)
        (calm_row orig log root w unclaim (calm_unclaim (place_at me came) own.bridge (first_roaming (containers_of tail)))))
        (other_row orig log root w m q known came.now ttl dst src tail h p.addresses.0 p.addresses.1 p.says)
