-- Facts are taken of a push once it is whole, at a primary; and of all other inputs a line alone puts
-- one.
use Rattle.std.proofs.Common.{◌≡◌, ◌⊎◌, inl, inr, ℕ, Bool, true, false, cond, List, [], ◌∷◌, ◌++◌, fold, Option, Some, None, option_and_then, option_map, refl, sym, ap, subst, ◌∙◌}
use Rattle.std.proofs.lemmas.Option.{same_Some}
use Rattle.mesh_base.specs.declared.address.Mac.{Mac}
use Rattle.mesh_base.specs.declared.client.Vid.{Vid}
use Rattle.mesh_model.specs.declared.line_form.AlfredMode.{AlfredMode}
use Rattle.mesh_model.specs.declared.line_form.AlfredMode.TheVariants.{Off, Primary as IsPrimary, Secondary}
use Rattle.mesh_model.specs.declared.packet.Head.{Head}
use Rattle.mesh_model.specs.declared.packet.Head.TheVariants.{IvOgm, Bcast, Elp, Ogm2, Unicast, Frag, Unicast4, Icmp, Utvlv}
use Rattle.mesh_model.specs.declared.service.Fact.{Fact}
use Rattle.mesh_model.specs.Clients.Log.{Tick, LinkFrame, LanFrame, Line, LineGiven, Attach, Frame, Gone, Join, Leave, Arp, Dhcp, Sets, Put, Get, Ping, Trace, Reboot, Log}
use Rattle.mesh_model.specs.Clients.Mentions.{key_of, mentions, next_mentions, passed_from_lan}
use Rattle.mesh_model.specs.Clients.Settings.{Setting, Wifi, Gateway, Multicast, ArpTable, FactStore, LongestWhole, Pictures}
use Rattle.mesh_model.specs.Knowledge.FactStore.{after_answering, after_brought, after_closing, after_fact_message, after_push, after_store_message, after_whole_push, announcing, closed_by, if_announces, txn_call, with_fact, with_facts}
use Rattle.mesh_model.specs.Knowledge.Known.{Broadcast, Knowledge, is_new_broadcast, taken_at}
use Rattle.mesh_model.specs.Knowledge.Pairs.{after_asking, after_came, after_question, is_asked, with_ask, with_learned}
use Rattle.mesh_model.specs.Fragments.Assembly.{PartCall, part_of}
use Rattle.mesh_model.specs.Knowledge.PutTogether.{Carried, after_part, fact_carried, put_together, with_part}
use Rattle.mesh_model.specs.Knowledge.Served.{FactRequest}
use Rattle.mesh_model.specs.Knowledge.Steps.{after_broadcast, after_head, after_sighting, announced_by, line_knowledge, table_behind, with_set}
use Rattle.mesh_model.specs.Knowledge.Told.{message_of}
use Rattle.mesh_model.specs.Packets.ArpMessages.{ArpCame, Asks, Puts, Tells}
use Rattle.mesh_model.specs.Packets.FactMessages.{CameFact, FactMessage, HasPart, Primary, Requests, HasEnd, fact_message_of}
use Rattle.mesh_model.specs.Packets.FirstPacket.{Packet}
use Rattle.mesh_model.specs.Packets.LanFrames.{client_frame_in, lan_message_of}
use Rattle.mesh_model.specs.Routes.Addresses.{same_mac}
use Rattle.mesh_model.specs.Routes.Queries.{Queries}
use Rattle.mesh_model.specs.Services.ArpTable.{AskedFor}
use Rattle.mesh_model.specs.Services.Facts.{FactCall, CameFrom}
use Rattle.mesh_model.specs.Services.Transactions.{Brought, APart, AnEnd, TxnCall, made_whole}
use Rattle.mesh_laws.specs.FactLaws.{FactsComeWhole, LinesPutFacts, TakesPush, WholePushIsTaken, facts_with, left_by_line, payload_by, push_message, put_by_line, whole_payload}
use Rattle.mesh_laws.proofs.KeptLemmas.{HasCome, Kept, brings, call_kept, frame_kept, get_kept, has_payload, head_comes, joins, leaves, passed_kept, stores, tick_kept}

-- what came for the facts that are known
abbrev facts_of : Knowledge → List FactCall
facts_of known = known.services.facts

-- that among what is kept
abbrev facts_in : Kept → List FactCall
facts_in kept = kept.facts

-- the facts stay
abbrev Stays : Knowledge → Knowledge → Type 0
Stays known after = facts_of after ≡ facts_of known

either : (b : Bool) (x y known : Knowledge) → Stays known x → Stays known y → Stays known (cond b x y)
either true x y known e f = e
either false x y known e f = f

-- ---- answers and announcements
answering_stays : (call : TxnCall) (known : Knowledge) → Stays known (after_answering call known)
answering_stays call known = go (closed_by call known.services)
  where
    more : Knowledge
    more = record known { services = record known.services { answers = call ∷ known.services.answers } }

    go : (o : Option FactRequest) → Stays known (after_closing o more)
    go None = refl
    go (Some request) = refl

answer_stays : (mode : AlfredMode) (call : TxnCall) (known : Knowledge) → Stays known (after_brought mode false call known)
answer_stays Off call known = refl
answer_stays IsPrimary call known = answering_stays call known
answer_stays Secondary call known = answering_stays call known

primary_stays : (mode : AlfredMode) (now : ℕ) (sender : Mac) (known : Knowledge) → Stays known (after_store_message mode now sender Primary known)
primary_stays Off now sender known = refl
primary_stays IsPrimary now sender known = refl
primary_stays Secondary now sender known = refl

-- what announces a primary leaves the facts
announced_stays : (now : ℕ) (o : Option CameFact) (known : Knowledge) → Stays known (after_fact_message now (option_and_then if_announces o) known)
announced_stays now None known = refl
announced_stays now (Some came) known = go came.message refl
  where
    go : (message : FactMessage) → came.message ≡ message → Stays known (after_fact_message now (announcing came message) known)
    go (HasPart push id number facts) is = refl
    go Primary is = subst (λ m. Stays known (after_store_message known.services.settings.fact_store now came.sender m known)) (sym is) (primary_stays known.services.settings.fact_store now came.sender known)
    go (Requests id type_no) is = refl
    go (HasEnd push id count) is = refl

-- ---- pushes
facts_come : (now : ℕ) (sender : Mac) (facts : List Fact) (known : Knowledge) → facts_of (with_facts now sender facts known) ≡ fold (λ before fact. CameFrom now sender fact ∷ before) (facts_of known) facts
facts_come now sender [] known = refl
facts_come now sender (fact ∷ facts) known = facts_come now sender facts (with_fact (CameFrom now sender fact) known)

-- what a push leads to, where it is whole
abbrev Comes : TxnCall → Knowledge → Knowledge → Option (List Fact) → Type 0
Comes call known after None = Stays known after
Comes call known after (Some facts) = facts_of after ≡ facts_with call facts (facts_of known)

push_comes : (call : TxnCall) (known : Knowledge) → Comes call known (after_push call known) (made_whole call known.services.pushes)
push_comes call known = go (made_whole call known.services.pushes)
  where
    more : Knowledge
    more = record known { services = record known.services { pushes = call ∷ known.services.pushes } }

    go : (o : Option (List Fact)) → Comes call known (after_whole_push call.moment call.sender o more) o
    go None = refl
    go (Some facts) = facts_come call.moment call.sender facts more

-- the facts stay, or all those of a whole push are taken, at a primary
abbrev Takes : Knowledge → Knowledge → TxnCall → Type 0
Takes known after call = Stays known after ⊎ ((facts : List Fact) × (known.services.settings.fact_store ≡ IsPrimary) × (made_whole call known.services.pushes ≡ Some facts) × (facts_of after ≡ facts_with call facts (facts_of known)))

push_takes : (mode : AlfredMode) (call : TxnCall) (known : Knowledge) → known.services.settings.fact_store ≡ mode → Takes known (after_brought mode true call known) call
push_takes Off call known is = inl refl
push_takes Secondary call known is = inl refl
push_takes IsPrimary call known is = go (made_whole call known.services.pushes) refl (push_comes call known)
  where
    go : (o : Option (List Fact)) → made_whole call known.services.pushes ≡ o → Comes call known (after_push call known) o → Takes known (after_push call known) call
    go None none stays = inl stays
    go (Some facts) whole come = inr (facts, is, whole, come)

-- ---- packets
-- what is no payload leaves the facts
arp_stays : (now : ℕ) (came : Option ArpCame) (known : Knowledge) → Stays known (after_came now came known)
arp_stays now None known = refl
arp_stays now (Some (Puts m)) known = refl
arp_stays now (Some (Asks m)) known = refl
arp_stays now (Some (Tells m)) known = refl

bare_stays : (now : ℕ) (head : Head) (tail : List ℕ) (known after : Knowledge) → has_payload head ≡ false → HasCome now head tail known after → Stays known after
bare_stays now head tail known _ bare (leaves after same) = ap facts_in same
bare_stays now head tail known _ bare (brings came) = either known.services.settings.arp_table (after_came now came known) known known (arp_stays now came known) refl
bare_stays now head tail known _ bare (stores told before payload uncut of same) = let never : true ≡ false = sym payload ∙ bare in cc
bare_stays now head tail known _ bare (joins call payload is) = let never : true ≡ false = sym payload ∙ bare in cc

broadcast_stays : (me : Mac) (now : ℕ) (broadcast : Broadcast) (tail : List ℕ) (known : Knowledge) → Stays known (after_fact_message now (announced_by me now broadcast tail known) (after_broadcast me now broadcast known))
broadcast_stays me now broadcast tail known = go (is_new_broadcast me now broadcast known.taken)
  where
    more : Knowledge
    more = record known { taken = taken_at now broadcast known.taken ∷ known.taken }

    go : (b : Bool) → Stays known (after_fact_message now (cond b (option_and_then if_announces (fact_message_of tail)) None) (cond b more known))
    go true = announced_stays now (fact_message_of tail) more
    go false = refl

-- the facts stay, or a packet makes a push whole and they are taken
abbrev StaysOrTakes : Mac → ℕ → Packet → Knowledge → Knowledge → Type 0
StaysOrTakes me now packet known after = Stays known after ⊎ TakesPush me now packet known after

-- the facts stay, or a message of a push makes it whole and they are taken
record TakesBy (payload : List ℕ) (now : ℕ) (known after : Knowledge) : Type 0 where
  call : TxnCall
  facts : List Fact
  at_primary : known.services.settings.fact_store ≡ IsPrimary
  read : fact_message_of payload ≡ Some (record { sender = call.sender; message = push_message call.id call.brought })
  moment_is : call.moment ≡ now
  whole : made_whole call known.services.pushes ≡ Some facts
  taken : facts_of after ≡ facts_with call facts (facts_of known)

-- a payload for this node
here_whole : (now : ℕ) (payload : List ℕ) (known : Knowledge) (o : Option CameFact) → fact_message_of payload ≡ o → Stays known (after_fact_message now o known) ⊎ TakesBy payload now known (after_fact_message now o known)
here_whole now payload known None read = inl refl
here_whole now payload known (Some came) read = go came.message refl
  where
    mode : AlfredMode
    mode = known.services.settings.fact_store

    Does : Knowledge → Type 0
    Does after = Stays known after ⊎ TakesBy payload now known after

    by_push : (id : ℕ) (brought : Brought) → came.message ≡ push_message id brought → Takes known (after_brought mode true (txn_call now came.sender id brought) known) (txn_call now came.sender id brought)
        → Does (after_brought mode true (txn_call now came.sender id brought) known)
    by_push id brought is (inl stays) = inl stays
    by_push id brought is (inr (facts, primary, whole, taken)) = inr (record {
      call = txn_call now came.sender id brought;
      facts = facts;
      at_primary = primary;
      read = read ∙ ap (λ (m : FactMessage). Some (record { sender = came.sender; message = m })) is;
      moment_is = refl;
      whole = whole;
      taken = taken;
    })

    by : (push : Bool) (id : ℕ) (brought : Brought) → (push ≡ true → came.message ≡ push_message id brought) → Does (after_brought mode push (txn_call now came.sender id brought) known)
    by true id brought is = by_push id brought (is refl) (push_takes mode (txn_call now came.sender id brought) known refl)
    by false id brought is = inl (answer_stays mode (txn_call now came.sender id brought) known)

    go : (message : FactMessage) → came.message ≡ message → Does (after_store_message mode now came.sender message known)
    go (HasPart push id number facts) is = by push id (APart number facts) (λ so. is ∙ ap (λ p. HasPart p id number facts) so)
    go Primary is = inl (primary_stays mode now came.sender known)
    go (Requests id type_no) is = inl refl
    go (HasEnd push id count) is = by push id (AnEnd count) (λ so. is ∙ ap (λ p. HasEnd p id count) so)

-- a part more changes nothing of that
with_part_too : (payload : List ℕ) (now : ℕ) (part : PartCall) (known after : Knowledge) → Stays (with_part part known) after ⊎ TakesBy payload now (with_part part known) after → Stays known after ⊎ TakesBy payload now known after
with_part_too payload now part known after (inl stays) = inl stays
with_part_too payload now part known after (inr takes) = inr (record {
  call = takes.call;
  facts = takes.facts;
  at_primary = takes.at_primary;
  read = takes.read;
  moment_is = takes.moment_is;
  whole = takes.whole;
  taken = takes.taken;
})

module _ (me : Mac) (now : ℕ) (packet : Packet) (known : Knowledge) where
  -- so it is of what a packet brings
  by_packet : (payload : List ℕ) (after : Knowledge) → payload_by me now known.parts packet.tail packet.head ≡ Some payload → Stays known after ⊎ TakesBy payload now known after → StaysOrTakes me now packet known after
  by_packet payload after brought (inl stays) = inl stays
  by_packet payload after brought (inr takes) = inr (record {
    call = takes.call;
    facts = takes.facts;
    makes_whole = record {
      at_primary = takes.at_primary;
      brings = record { payload = payload; brought = brought; read = takes.read; moment_is = takes.moment_is };
      whole = takes.whole;
    };
    taken = takes.taken;
  })

  unicast_whole : (ttl ttvn : ℕ) (dst : Mac) → packet.head ≡ Unicast ttl ttvn dst → StaysOrTakes me now packet known (cond (same_mac dst me) (after_fact_message now (fact_message_of packet.tail) known) known)
  unicast_whole ttl ttvn dst head = go (same_mac dst me) refl
    where
      go : (b : Bool) → same_mac dst me ≡ b → StaysOrTakes me now packet known (cond b (after_fact_message now (fact_message_of packet.tail) known) known)
      go true for_me = by_packet packet.tail (after_fact_message now (fact_message_of packet.tail) known) (ap (payload_by me now known.parts packet.tail) head ∙ ap (λ b. cond b (Some packet.tail) None) for_me)
          (here_whole now packet.tail known (fact_message_of packet.tail) refl)
      go false other = inl refl

  fragment_whole : (ttl number priority : ℕ) (dst orig : Mac) (seq total : ℕ) → packet.head ≡ Frag ttl number priority dst orig seq total
      → StaysOrTakes me now packet known (cond (same_mac dst me) (after_part (part_of now orig seq total number packet.tail) known) known)
  fragment_whole ttl number priority dst orig seq total head = go (same_mac dst me) refl
    where
      call : PartCall
      call = part_of now orig seq total number packet.tail

      by : (carried : Option Carried) → put_together call known.parts ≡ carried → same_mac dst me ≡ true → StaysOrTakes me now packet known (after_fact_message now (fact_carried carried) (with_part call known))
      by None none for_me = inl refl
      by (Some carried) whole for_me = by_packet carried.payload (after_fact_message now (fact_message_of carried.payload) (with_part call known))
          (ap (payload_by me now known.parts packet.tail) head ∙ ap (λ b. cond b (whole_payload call known.parts) None) for_me ∙ ap (option_map (λ (one : Carried). one.payload)) whole)
          (with_part_too carried.payload now call known (after_fact_message now (fact_message_of carried.payload) (with_part call known))
          (here_whole now carried.payload (with_part call known) (fact_message_of carried.payload) refl))

      go : (b : Bool) → same_mac dst me ≡ b → StaysOrTakes me now packet known (cond b (after_part call known) known)
      go true for_me = by (put_together call known.parts) refl for_me
      go false other = inl refl

pub facts_come_whole : FactsComeWhole
facts_come_whole q me came known packet = go packet.head refl
  where
    bare : (head : Head) → has_payload head ≡ false → StaysOrTakes me came.now packet known (after_head q me came (message_of packet) packet.tail head known)
    bare head none = inl (bare_stays came.now head packet.tail known (after_head q me came (message_of packet) packet.tail head known) none (head_comes q me came (message_of packet) packet.tail head known))

    go : (head : Head) → packet.head ≡ head → StaysOrTakes me came.now packet known (after_head q me came (message_of packet) packet.tail head known)
    go (IvOgm ttl flags seq orig prev tq) is = bare (IvOgm ttl flags seq orig prev tq) refl
    go (Bcast ttl seq orig) is = inl (broadcast_stays me came.now (record { orig = orig; number = seq }) packet.tail known)
    go (Elp orig seq interval) is = bare (Elp orig seq interval) refl
    go (Ogm2 ttl flags seq orig throughput) is = bare (Ogm2 ttl flags seq orig throughput) refl
    go (Unicast ttl ttvn dst) is = unicast_whole me came.now packet known ttl ttvn dst is
    go (Frag ttl number priority dst orig seq total) is = fragment_whole me came.now packet known ttl number priority dst orig seq total is
    go (Unicast4 ttl ttvn dst src subtype) is = bare (Unicast4 ttl ttvn dst src subtype) refl
    go (Icmp ttl msg dst orig uid seq) is = bare (Icmp ttl msg dst orig uid seq) refl
    go (Utvlv ttl dst src) is = bare (Utvlv ttl dst src) refl

-- ---- a push that is made whole
-- its message at a primary
brought_taken : (now : ℕ) (call : TxnCall) (known : Knowledge) (facts : List Fact) (mode : AlfredMode) → mode ≡ IsPrimary → call.moment ≡ now → made_whole call known.services.pushes ≡ Some facts
    → facts_of (after_store_message mode now call.sender (push_message call.id call.brought) known) ≡ facts_with call facts (facts_of known)
brought_taken now call known facts mode primary at whole =
    subst (λ m. facts_of (after_store_message m now call.sender (push_message call.id call.brought) known) ≡ facts_with call facts (facts_of known)) (sym primary) (go call.brought refl)
  where
    pushed : facts_of (after_push call known) ≡ facts_with call facts (facts_of known)
    pushed = subst (Comes call known (after_push call known)) whole (push_comes call known)

    same_call : (brought : Brought) → call.brought ≡ brought → txn_call now call.sender call.id brought ≡ call
    same_call brought is = ap (λ t. txn_call t call.sender call.id brought) (sym at) ∙ ap (λ b. txn_call call.moment call.sender call.id b) (sym is)

    by : (brought : Brought) → call.brought ≡ brought → facts_of (after_push (txn_call now call.sender call.id brought) known) ≡ facts_with call facts (facts_of known)
    by brought is = subst (λ c. facts_of (after_push c known) ≡ facts_with call facts (facts_of known)) (sym (same_call brought is)) pushed

    go : (brought : Brought) → call.brought ≡ brought → facts_of (after_store_message IsPrimary now call.sender (push_message call.id brought) known) ≡ facts_with call facts (facts_of known)
    go (APart number some) is = by (APart number some) is
    go (AnEnd count) is = by (AnEnd count) is

-- where a payload is read as such a message, its facts are taken
read_taken : (now : ℕ) (call : TxnCall) (known : Knowledge) (facts : List Fact) (o : Option CameFact) → o ≡ Some (record { sender = call.sender; message = push_message call.id call.brought })
    → known.services.settings.fact_store ≡ IsPrimary → call.moment ≡ now → made_whole call known.services.pushes ≡ Some facts → facts_of (after_fact_message now o known) ≡ facts_with call facts (facts_of known)
read_taken now call known facts o read primary at whole =
    subst (λ o. facts_of (after_fact_message now o known) ≡ facts_with call facts (facts_of known)) (sym read)
    (brought_taken now call known facts known.services.settings.fact_store primary at whole)

pub whole_push_is_taken : WholePushIsTaken
whole_push_is_taken q me came known packet call facts makes = go packet.head makes.brings.brought
  where
    Taken : Knowledge → Type 0
    Taken after = facts_of after ≡ facts_with call facts (facts_of known)

    reads : (payload : List ℕ) → Some payload ≡ Some makes.brings.payload → fact_message_of payload ≡ Some (record { sender = call.sender; message = push_message call.id call.brought })
    reads payload is = ap fact_message_of (same_Some payload makes.brings.payload is) ∙ makes.brings.read

    direct : (b : Bool) → cond b (Some packet.tail) None ≡ Some makes.brings.payload → Taken (cond b (after_fact_message came.now (fact_message_of packet.tail) known) known)
    direct true is = read_taken came.now call known facts (fact_message_of packet.tail) (reads packet.tail is) makes.at_primary makes.brings.moment_is makes.whole
    direct false is = cc

    joined : (part : PartCall) → (carried : Option Carried) → option_map (λ (one : Carried). one.payload) carried ≡ Some makes.brings.payload → Taken (after_fact_message came.now (fact_carried carried) (with_part part known))
    joined part None is = cc
    joined part (Some carried) is = read_taken came.now call (with_part part known) facts (fact_message_of carried.payload) (reads carried.payload is) makes.at_primary makes.brings.moment_is makes.whole

    part_taken : (b : Bool) (part : PartCall) → part.moment ≡ came.now → cond b (whole_payload part known.parts) None ≡ Some makes.brings.payload → Taken (cond b (after_fact_message came.now (fact_carried (put_together part known.parts)) (with_part part known)) known)
    part_taken true part at is = joined part (put_together part known.parts) is
    part_taken false part at is = cc

    go : (head : Head) → payload_by me came.now known.parts packet.tail head ≡ Some makes.brings.payload → Taken (after_head q me came (message_of packet) packet.tail head known)
    go (IvOgm ttl flags seq orig prev tq) is = cc
    go (Bcast ttl seq orig) is = cc
    go (Elp orig seq interval) is = cc
    go (Ogm2 ttl flags seq orig throughput) is = cc
    go (Unicast ttl ttvn dst) is = direct (same_mac dst me) is
    go (Frag ttl number priority dst orig seq total) is = part_taken (same_mac dst me) (part_of came.now orig seq total number packet.tail) refl is
    go (Unicast4 ttl ttvn dst src subtype) is = cc
    go (Icmp ttl msg dst orig uid seq) is = cc
    go (Utvlv ttl dst src) is = cc

-- ---- other inputs
question_stays : (q : Queries) (me : Mac) (now : ℕ) (mac : Mac) (own_ip asked_ip : ℕ) (vid : Vid) (known : Knowledge) → Stays known (after_question q me now mac own_ip asked_ip vid known)
question_stays q me now mac own_ip asked_ip vid known =
    let learned = with_learned now own_ip vid mac known in
    either known.services.settings.arp_table (after_asking q me now asked_ip vid learned) known known
    (either (is_asked q me learned now asked_ip vid) (with_ask (AskedFor asked_ip vid) learned) learned known refl refl) refl

set_stays : (setting : Setting) (known : Knowledge) → Stays known (with_set setting known)
set_stays (Wifi on) known = refl
set_stays (Gateway part) known = refl
set_stays (Multicast flags) known = refl
set_stays (ArpTable on) known = refl
set_stays (FactStore mode) known = refl
set_stays (Pictures on) known = refl
set_stays (LongestWhole size) known = refl

line_puts : (q : Queries) (me : Mac) (older : Log) (known : Knowledge) (now : ℕ) (line : LineGiven) → facts_of (line_knowledge q me older known now line) ≡ put_by_line me now line ++ left_by_line line (facts_of known)
line_puts q me older known now (Attach lan gateways) = refl
line_puts q me older known now (Frame src dst vid text) = ap facts_in (frame_kept q now (key_of dst vid) (after_sighting q me older now (key_of src vid) known))
line_puts q me older known now (Gone key) = refl
line_puts q me older known now (Join key) = refl
line_puts q me older known now (Leave key) = refl
line_puts q me older known now (Arp mac own_ip asked_ip vid) = question_stays q me now mac own_ip asked_ip vid (after_sighting q me older now (key_of mac vid) known)
line_puts q me older known now (Dhcp key text) = ap facts_in (call_kept q now (after_sighting q me older now key known))
line_puts q me older known now (Sets setting) = set_stays setting known
line_puts q me older known now (Put type_no version text) = refl
line_puts q me older known now (Get type_no) = ap facts_in (get_kept q now type_no known.services.settings.fact_store known)
line_puts q me older known now (Ping target) = refl
line_puts q me older known now (Trace target) = refl
line_puts q me older known now Reboot = refl

pub lines_put_facts : LinesPutFacts
lines_put_facts q me older known now (Tick index) = ap facts_in (tick_kept q me now index (table_behind me older now index) known)
lines_put_facts q me older known now (LinkFrame number from throughput bytes) = tt
lines_put_facts q me older known now (LanFrame bytes) = ap facts_in (passed_kept q me older known now
    (next_mentions me older (mentions me older) now (LanFrame bytes))
    (passed_from_lan me older now (client_frame_in (lan_message_of bytes))))
lines_put_facts q me older known now (Line line) = line_puts q me older known now line
