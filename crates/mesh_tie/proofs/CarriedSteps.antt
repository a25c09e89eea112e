-- What a step of a mesh sends, puts and hands out carries payloads that came, or that a line begins.
use Rattle.std.specs.List.{AllByRecursion}
use Rattle.std.proofs.Common.{Bool, cond, ◌&&◌, ◌++◌, Option, Some, None, Result, Ok, Err, length, ◌∙◌, ap, ◌≡◌, ◌≤◌, ◌⊎◌, inl, inr, ℕ, suc, arith, true, false, List, [], ◌∷◌, slice_get, refl, sym, subst, map}
use Rattle.std.specs.List.{AllByRecursion}
use Rattle.mesh_base.specs.declared.address.Mac.{Mac}
use Rattle.mesh_base.specs.declared.client.Vid.{Vid}
use Rattle.mesh_base.specs.declared.client.Entry.{Entry}
use Rattle.mesh_base.specs.declared.event.Event.{Event}
use Rattle.mesh_model.specs.declared.act.Act.{Act}
use Rattle.mesh_model.specs.declared.act.Act.TheVariants.{Lan, Link, Print}
use Rattle.mesh_model.specs.declared.link_frame.NoPacket.{NoPacket}
use Rattle.mesh_model.specs.declared.packet.Head.{Head}
use Rattle.mesh_model.specs.declared.packet.Head.TheVariants.{IvOgm, Bcast, Elp, Ogm2, Unicast, Frag, Unicast4, Icmp, Utvlv}
use Rattle.mesh_model.specs.declared.service.Fact.{Fact}
use Rattle.mesh_model.specs.Acts.BridgeRows.{Place}
use Rattle.mesh_model.specs.Acts.Choosing.{acts_of, asking_acts, call_frame, calling_acts, claimed_first, client_acts, cutter_by, from_lan_acts, on_from_lan, sighting_acts, whole_acts}
use Rattle.mesh_model.specs.Acts.Cuts.{fragment_act}
use Rattle.mesh_model.specs.Acts.FactRows.{fact_round_acts, get_acts}
use Rattle.mesh_model.specs.Acts.FrameRows.{frame_acts}
use Rattle.mesh_model.specs.Acts.Rows.{Own, own_by, packet_acts, packets_acts, tick_acts}
use Rattle.mesh_model.specs.Clients.Lans.{bridge}
use Rattle.mesh_model.specs.Clients.Log.{Given, LogEntry, Tick, LinkFrame, LanFrame, Line, LineGiven, Attach, Frame, Gone, Join, Leave, Arp, Dhcp, Sets, Put, Get, Ping, Trace, Reboot, Log}
use Rattle.mesh_model.specs.Clients.Mentions.{Mention, key_of, mentions, next_mentions, passed_from_lan}
use Rattle.mesh_model.specs.Clients.Settings.{Settings}
use Rattle.mesh_model.specs.Commits.History.{history, is_commit_tick, restarted}
use Rattle.mesh_model.specs.Fragments.Assembly.{PartCall, part_of}
use Rattle.mesh_model.specs.Fragments.Cutting.{Reach, reach_of, reach_of_front, reach_of_head}
use Rattle.mesh_model.specs.Knowledge.Known.{Knowledge}
use Rattle.mesh_model.specs.Knowledge.Offers.{choice_by}
use Rattle.mesh_model.specs.Knowledge.FactStore.{after_get}
use Rattle.mesh_model.specs.Knowledge.Pairs.{after_asking, after_came, after_question, is_asked, with_ask, with_learned}
use Rattle.mesh_model.specs.Knowledge.PutTogether.{Carried, fact_carried, put_together, with_part}
use Rattle.mesh_model.specs.Knowledge.Steps.{Coming, advertised, after_call, after_frame, after_packet, after_packets, after_passed, after_sighting, before_round, before_telling, knowledge, line_knowledge, next_knowledge, stays_on_lan, table_behind}
use Rattle.mesh_model.specs.Knowledge.OwnPictures.{puts_picture, takes_part}
use Rattle.mesh_model.specs.Knowledge.Pictured.{picture_by}
use Rattle.mesh_model.specs.Knowledge.Told.{message_of}
use Rattle.mesh_model.specs.Net.Due.{ticks_in}
use Rattle.mesh_model.specs.Net.Inputs.{entry_of, noting}
use Rattle.mesh_model.specs.Net.Limits.{scenario_setup}
use Rattle.mesh_model.specs.Net.Mesh.{NodeLog, SentFrame, LanPut, Mesh}
use Rattle.mesh_model.specs.Net.Lans.{with_events}
use Rattle.mesh_model.specs.Net.Sending.{put_event}
use Rattle.mesh_model.specs.Packets.LanFrames.{client_frame_in, lan_message_of}
use Rattle.mesh_model.specs.Net.Next.{Has}
use Rattle.mesh_model.specs.Packets.FactMessages.{CameFact, fact_message_of}
use Rattle.mesh_model.specs.Routes.RouteLog.{OwnTick, is_round}
use Rattle.mesh_model.specs.Services.Facts.{FactCall, fact_of_call}
use Rattle.mesh_model.specs.Services.Facts.{WasPut as PutNow}
use Rattle.mesh_model.specs.Services.Pictures.{own_picture, picture_fact}
use Rattle.mesh_model.specs.Packets.ArpMessages.{ArpCame, Asks, Puts, Tells as TellsPair}
use Rattle.mesh_model.specs.Packets.FirstPacket.{Front, Packet, first_packet}
use Rattle.mesh_model.specs.Packets.LinkFrame.{LinkFrame as FrameOfPackets, frame_from, link_frame}
use Rattle.mesh_model.specs.Packets.Payload.{ClientFrame, client_frame_of, payload_spelling}
use Rattle.mesh_model.specs.Routes.Queries.{Queries}
use Rattle.mesh_model.specs.Scenario.AlfredForms.{least_fact_type}
use Rattle.mesh_model.specs.Services.ArpTable.{AskedFor}
use Rattle.mesh_laws.specs.CutLaws.{IsPutForCut, cuts_made, cuts_of_log}
use Rattle.mesh_laws.proofs.FrameLemmas.{link_frame-first}
use Rattle.mesh_laws.proofs.Schedule.Members.{get_either, get_last, has_either, has_right, one_some}
use Rattle.mesh_laws.proofs.KeptLemmas.{HasCome, brings, call_kept, frame_kept, get_kept, has_payload, head_comes, head_part, joins, kept_of, leaves, passed_kept, round_kept, stores, tick_kept}
use Rattle.mesh_laws.proofs.KeptLemmas.{Kept as StoreKept}
use Rattle.mesh_laws.proofs.StoreLemmas.{Rest, message_rest}
use Rattle.mesh_tie.specs.Carried.{IsKept, IsPutFact, IsReadOf, PutCarries, UnlessStored, WasGiven, WasPictured, WasPut, frame_of_line, on_lan, to_node}
use Rattle.mesh_tie.specs.Sources.{HasWholeAddresses, IsWhole, KeepsOriginators}
use Rattle.mesh_tie.specs.Steps.{Steps, TellsClient, bridged_event, frame_comes, lan_comes, lan_joins, line_gives, link_joins, node_joins, node_ticks, put_comes, put_reaches, time_passes, with_lan_frame, routes_told, with_told}
use Rattle.mesh_tie.specs.Tie.{IsOrderly, KnowsWhole, known_at_node}
use Rattle.mesh_tie.specs.TieLaws.{AllKeep}
use Rattle.mesh_tie.proofs.CarriedHeads.{HeadHas, IsPart, Kept, Tells, ActHas, ActsHave, FrameHas, PacketHas, frag_has}
use Rattle.mesh_tie.proofs.CarriedLans.{claimed_has}
use Rattle.mesh_tie.proofs.CarriedRows.{advert_has, aliases_have, call_has, frame_has, have_if, packet_has, question_none, session_has, stores_have, taken_came, tick_has}
use Rattle.mesh_tie.proofs.CutActs.{IsFragmentOf, cut_each, fragment_is}
use Rattle.mesh_tie.proofs.CutPieces.{IsPartOf, joined_carries, place_small}
use Rattle.mesh_tie.proofs.EtherReading.{dst_whole, src_whole}
use Rattle.mesh_tie.proofs.FactActs.{Came, fact_round_puts, get_puts}
use Rattle.mesh_tie.proofs.FactLemmas.{Holds, MessageHas, Stores}
use Rattle.mesh_tie.proofs.FactReading.{AreFromWhole, frame_no_message, message_back, message_no_frame}
use Rattle.mesh_tie.proofs.FactSteps.{line_stored, packet_stored, same_stores}
use Rattle.mesh_tie.proofs.EntryLemmas.{each_appended}
use Rattle.mesh_tie.proofs.KnowsLemmas.{packet_knows, sighting_knows}
use Rattle.mesh_tie.proofs.AddressLemmas.{heads_whole}
use Rattle.mesh_tie.proofs.LanSteps.{lan_read, passed_came}
use Rattle.mesh_tie.proofs.NodeLists.{Renewed, another, got_front, got_noted, itself, renewed}
use Rattle.mesh_tie.proofs.SentLemmas.{HasGiven, IsOfActs, given_is}
use Rattle.mesh_model.specs.Net.Watching.{route_event}
use Rattle.mesh_model.specs.declared.route_line.RouteLine.{RouteLine}

-- ---- one input
-- a payload has its property
payload_has : (P : Kept) (now : ℕ) (head : Head) (tail : List ℕ) → has_payload head ≡ true → head_part now head tail ≡ None → HeadHas P tail head → P.carried tail
payload_has P now (IvOgm ttl flags seq orig prev tq) tail is uncut h = cc
payload_has P now (Bcast ttl seq orig) tail is uncut h = h.1
payload_has P now (Elp orig seq interval) tail is uncut h = cc
payload_has P now (Ogm2 ttl flags seq orig throughput) tail is uncut h = cc
payload_has P now (Unicast ttl ttvn dst) tail is uncut h = h.1
payload_has P now (Frag ttl number priority dst orig seq total) tail is uncut h = cc
payload_has P now (Unicast4 ttl ttvn dst src subtype) tail is uncut h = cc
payload_has P now (Icmp ttl msg dst orig uid seq) tail is uncut h = cc
payload_has P now (Utvlv ttl dst src) tail is uncut h = cc

-- so has a part
part_has : (P : Kept) (now : ℕ) (head : Head) (tail : List ℕ) (call : PartCall) → head_part now head tail ≡ Some call → HeadHas P tail head → IsPart P call
part_has P now (IvOgm ttl flags seq orig prev tq) tail call is h = cc
part_has P now (Bcast ttl seq orig) tail call is h = cc
part_has P now (Elp orig seq interval) tail call is h = cc
part_has P now (Ogm2 ttl flags seq orig throughput) tail call is h = cc
part_has P now (Unicast ttl ttvn dst) tail call is h = cc
part_has P now (Frag ttl number priority dst orig seq total) tail call is h = let same : part_of now orig seq total number tail ≡ call = cc in subst (IsPart P) same h.2
part_has P now (Unicast4 ttl ttvn dst src subtype) tail call is h = cc
part_has P now (Icmp ttl msg dst orig uid seq) tail call is h = cc
part_has P now (Utvlv ttl dst src) tail call is h = cc

-- the parts that a node knows have it
abbrev pub PartsHave : Kept → List PartCall → Type 0
PartsHave P parts = AllByRecursion (IsPart P) parts

-- a message of the store that is put together
carried_came : (P : Kept) (call : PartCall) (older : List PartCall) → IsPart P call → PartsHave P older → (came : CameFact) → fact_carried (put_together call older) ≡ Some came → Came IsWhole P.facts came
carried_came P call older p all came is = go (put_together call older) refl is
  where
    go : (o : Option Carried) → put_together call older ≡ o → fact_carried o ≡ Some came → Came IsWhole P.facts came
    go None joined e = cc
    go (Some one) joined e = taken_came P one.payload (P.joined call older one p all joined) came e

-- what a node keeps of the fact store after a packet
packet_keeps : (P : Kept) (q : Queries) (me : Mac) (came : Coming) (packet : Packet) (known : Knowledge) → PartsHave P known.parts → PacketHas P packet → Stores IsWhole P.facts (kept_of known) → Stores IsWhole P.facts (kept_of (after_packet q me came known packet))
packet_keeps P q me came packet known parts has s =
    packet_stored IsWhole P.facts came.now packet.head packet.tail known (after_packet q me came known packet) (head_comes q me came (message_of packet) packet.tail packet.head known)
    (λ payload uncut. taken_came P packet.tail (payload_has P came.now packet.head packet.tail payload uncut has))
    (λ call is. carried_came P call known.parts (part_has P came.now packet.head packet.tail call is has) parts) s

-- the parts that it knows then
pub came_parts : (now : ℕ) (came : Option ArpCame) (known : Knowledge) → (after_came now came known).parts ≡ known.parts
came_parts now None known = refl
came_parts now (Some (Puts m)) known = refl
came_parts now (Some (Asks m)) known = refl
came_parts now (Some (TellsPair m)) known = refl

come_parts : (P : Kept) (now : ℕ) (head : Head) (tail : List ℕ) (known after : Knowledge) → HasCome now head tail known after → HeadHas P tail head → PartsHave P known.parts → PartsHave P after.parts
come_parts P now head tail known _ (leaves after same) h parts = subst (λ (k : StoreKept). PartsHave P k.parts) (sym same) parts
come_parts P now head tail known _ (brings came) h parts = go known.services.settings.arp_table
  where
    go : (b : Bool) → PartsHave P (cond b (after_came now came known) known).parts
    go true = subst (PartsHave P) (sym (came_parts now came known)) parts
    go false = parts
come_parts P now head tail known _ (stores told before payload uncut of same) h parts =
    subst (PartsHave P) (sym (ap (λ (r : Rest). r.parts) (message_rest now told before) ∙ ap (λ (k : StoreKept). k.parts) same)) parts
come_parts P now head tail known _ (joins call payload is) h parts =
    subst (PartsHave P) (sym (ap (λ (r : Rest). r.parts) (message_rest call.moment (fact_carried (put_together call known.parts)) (with_part call known)))) (part_has P now head tail call is h, parts)

packet_parts : (P : Kept) (q : Queries) (me : Mac) (came : Coming) (packet : Packet) (known : Knowledge) → PacketHas P packet → PartsHave P known.parts → PartsHave P (after_packet q me came known packet).parts
packet_parts P q me came packet known has parts =
    come_parts P came.now packet.head packet.tail known (after_packet q me came known packet) (head_comes q me came (message_of packet) packet.tail packet.head known) has parts

packets_have : (P : Kept) (q : Queries) (me : Mac) (own : Own) (came : Coming) (packets : List Packet) (known : Knowledge) → KeepsOriginators me q → IsWhole me → IsWhole came.from → KnowsWhole known → Stores IsWhole P.facts (kept_of known) → PartsHave P known.parts
    → ((packet : Packet) → Has packets packet → HasWholeAddresses packet.head × PacketHas P packet) → ActsHave P (packets_acts q me own came known packets)
unfolding packets_acts
packets_have P q me own came [] known keeps mine from k s parts each = tt
packets_have P q me own came (packet ∷ rest) known keeps mine from k s parts each =
    let one = each packet (inl refl) in
    let after = after_packet q me came known packet in
    each_appended (ActHas P) (packet_acts q me own came known packet) (packets_acts q me own came after rest)
    (packet_has P q me own came packet known keeps mine from k s parts one.0 one.1)
    (packets_have P q me own came rest after keeps mine from (packet_knows q me came packet known one.0 k) (packet_keeps P q me came packet known parts one.1 s) (packet_parts P q me came packet known one.1 parts) (λ p has. each p (inr has)))

packets_keep : (P : Kept) (q : Queries) (me : Mac) (came : Coming) (packets : List Packet) (known : Knowledge) → PartsHave P known.parts → Stores IsWhole P.facts (kept_of known) → ((packet : Packet) → Has packets packet → PacketHas P packet) → Stores IsWhole P.facts (kept_of (after_packets q me came known packets))
packets_keep P q me came [] known parts s each = s
packets_keep P q me came (packet ∷ rest) known parts s each =
    let has = each packet (inl refl) in
    packets_keep P q me came rest (after_packet q me came known packet) (packet_parts P q me came packet known has parts) (packet_keeps P q me came packet known parts has s) (λ p among. each p (inr among))

packets_parts : (P : Kept) (q : Queries) (me : Mac) (came : Coming) (packets : List Packet) (known : Knowledge) → PartsHave P known.parts → ((packet : Packet) → Has packets packet → PacketHas P packet) → PartsHave P (after_packets q me came known packets).parts
packets_parts P q me came [] known parts each = parts
packets_parts P q me came (packet ∷ rest) known parts each =
    packets_parts P q me came rest (after_packet q me came known packet) (packet_parts P q me came packet known (each packet (inl refl)) parts) (λ p has. each p (inr has))

-- a line leaves the parts as they were, or, where it reboots the node, none
question_parts : (q : Queries) (me : Mac) (now : ℕ) (mac : Mac) (own_ip asked_ip : ℕ) (vid : Vid) (known : Knowledge) → (after_question q me now mac own_ip asked_ip vid known).parts ≡ known.parts
question_parts q me now mac own_ip asked_ip vid known = go known.services.settings.arp_table
  where
    learned : Knowledge
    learned = with_learned now own_ip vid mac known

    by : (b : Bool) → (cond b (with_ask (AskedFor asked_ip vid) learned) learned).parts ≡ known.parts
    by true = refl
    by false = refl

    go : (b : Bool) → (cond b (after_asking q me now asked_ip vid learned) known).parts ≡ known.parts
    go true = by (is_asked q me learned now asked_ip vid)
    go false = refl

kept_parts : (P : Kept) (before after : Knowledge) → kept_of after ≡ kept_of before → PartsHave P before.parts → PartsHave P after.parts
kept_parts P before after same parts = subst (λ (k : StoreKept). PartsHave P k.parts) (sym same) parts

line_parts : (P : Kept) (q : Queries) (me : Mac) (older : Log) (known : Knowledge) (now : ℕ) (line : LineGiven) → PartsHave P known.parts → PartsHave P (line_knowledge q me older known now line).parts
line_parts P q me older known now (Attach lan gateways) parts = parts
line_parts P q me older known now (Frame src dst vid text) parts =
    let seen = after_sighting q me older now (key_of src vid) known in
    kept_parts P seen (after_frame q now (key_of dst vid) seen) (frame_kept q now (key_of dst vid) seen) parts
line_parts P q me older known now (Gone key) parts = parts
line_parts P q me older known now (Join key) parts = parts
line_parts P q me older known now (Leave key) parts = parts
line_parts P q me older known now (Arp mac own_ip asked_ip vid) parts = subst (PartsHave P) (sym (question_parts q me now mac own_ip asked_ip vid (after_sighting q me older now (key_of mac vid) known))) parts
line_parts P q me older known now (Dhcp key text) parts =
    let seen = after_sighting q me older now key known in
    kept_parts P seen (after_call q now seen) (call_kept q now seen) parts
line_parts P q me older known now (Sets setting) parts = parts
line_parts P q me older known now (Put type_no version text) parts = parts
line_parts P q me older known now (Get type_no) parts = kept_parts P known (after_get q now type_no known.services.settings.fact_store known) (get_kept q now type_no known.services.settings.fact_store known) parts
line_parts P q me older known now (Ping target) parts = parts
line_parts P q me older known now (Trace target) parts = parts
line_parts P q me older known now Reboot parts = tt

-- the client frame of a line is given, and is carried as it is spelled
abbrev Begins : Kept → LineGiven → Type 0
Begins P line = (frame : ClientFrame) → frame_of_line line ≡ Some frame → P.given frame × P.carried (payload_spelling frame)

-- the type that a line asks for may be asked for
abbrev AsksFor : Kept → LineGiven → Type 0
AsksFor P line = (type_no : ℕ) → line ≡ Get type_no → P.facts.asked type_no

line_has : (P : Kept) (q : Queries) (me : Mac) (mine : Log) (now : ℕ) (line : LineGiven) → Begins P line → AsksFor P line → IsWhole me → KnowsWhole (knowledge q me mine) → Stores IsWhole P.facts (kept_of (knowledge q me mine)) → ActsHave P (whole_acts q me mine now (Line line))
line_has P q me mine now (Attach lan gateways) begin ask whole k s = tt
line_has P q me mine now (Frame src dst vid text) begin ask whole k s =
    let frame : ClientFrame = record { dst = dst; src = src; vid = vid; text = text } in
    let key = key_of src vid in
    let known = knowledge q me mine in
    let ms = next_mentions me mine (mentions me mine) now (Line (Frame src dst vid text)) in
    let begun = begin frame refl in
    each_appended (ActHas P) (sighting_acts q me mine now key) (client_acts q me mine now frame) (advert_has P me key (advertised q me mine known now key))
    (frame_has P q (after_sighting q me mine now key known) ms (record { me = me; now = now }) frame whole (sighting_knows q me mine now key known k) (inl begun.0) begun.1)
line_has P q me mine now (Gone key) begin ask whole k s = tt
line_has P q me mine now (Join key) begin ask whole k s = tt
line_has P q me mine now (Leave key) begin ask whole k s = tt
line_has P q me mine now (Arp mac own_ip asked_ip vid) begin ask whole k s =
    let key = key_of mac vid in
    let known = after_sighting q me mine now key (knowledge q me mine) in
    each_appended (ActHas P) (sighting_acts q me mine now key) (asking_acts q me mine now mac own_ip asked_ip vid) (advert_has P me key (advertised q me mine (knowledge q me mine) now key))
    (question_none P q known (record { me = me; now = now }) mac own_ip asked_ip vid)
line_has P q me mine now (Dhcp key text) begin ask whole k s =
    let known = knowledge q me mine in
    let frame = call_frame key text in
    let begun = begin frame refl in
    each_appended (ActHas P) (sighting_acts q me mine now key) (calling_acts q me mine now key text) (advert_has P me key (advertised q me mine known now key))
    (call_has P q (after_sighting q me mine now key known) (record { me = me; now = now }) frame whole (sighting_knows q me mine now key known k) (inl begun.0) begun.1)
line_has P q me mine now (Sets setting) begin ask whole k s = tt
line_has P q me mine now (Put type_no version text) begin ask whole k s = tt
line_has P q me mine now (Get type_no) begin ask whole k s =
    let at : Place = record { me = me; now = now } in
    stores_have P me (get_acts q (knowledge q me mine) at type_no) whole (get_puts IsWhole P.facts q (knowledge q me mine) at type_no (ask type_no refl) s)
line_has P q me mine now (Ping target) begin ask whole k s = session_has P q (knowledge q me mine) (record { me = me; now = now }) target false
line_has P q me mine now (Trace target) begin ask whole k s = session_has P q (knowledge q me mine) (record { me = me; now = now }) target true
line_has P q me mine now Reboot begin ask whole k s = let old = history me mine in aliases_have P me old.commits (restarted old).commits

lan_has : (P : Kept) (q : Queries) (me : Mac) (mine : Log) (now : ℕ) (bytes : List ℕ) → PutCarries P.carried bytes → IsWhole me → KnowsWhole (knowledge q me mine) → ActsHave P (whole_acts q me mine now (LanFrame bytes))
lan_has P q me mine now bytes carries whole k =
    each_appended (ActHas P) (claimed_first me mine now came) (from_lan_acts q me mine now ms (passed_from_lan me mine now came)) (claimed_has P me mine now came whole)
    (go (passed_from_lan me mine now came) (λ frame is. passed_came me mine now came frame is))
  where
    came : Option ClientFrame
    came = client_frame_in (lan_message_of bytes)

    ms : List Mention
    ms = next_mentions me mine (mentions me mine) now (LanFrame bytes)

    go : (o : Option ClientFrame) → ((frame : ClientFrame) → o ≡ Some frame → client_frame_in (lan_message_of bytes) ≡ Some frame) → ActsHave P (from_lan_acts q me mine now ms o)
    go None from = tt
    go (Some frame) from =
        let key = key_of frame.src frame.vid in
        let at : Place = record { me = me; now = now } in
        let known = after_sighting q me mine now key (knowledge q me mine) in
        let p = carries frame (from frame refl) in
        let read = lan_read bytes frame (from frame refl) in
        let on = frame_acts q known ms at frame in
        each_appended (ActHas P) (sighting_acts q me mine now key) (on_from_lan q me mine now known ms frame) (advert_has P me key (advertised q me mine (knowledge q me mine) now key))
        (have_if P (stays_on_lan q ms (bridge mine).lan now (key_of frame.dst frame.vid) known) [] on tt
        (frame_has P q known ms at frame whole (sighting_knows q me mine now key (knowledge q me mine) k) (inr (bytes, p, read)) (P.read_on bytes frame p read)))

-- ---- one step
-- what is kept holds of all that was sent, put and handed out
pub record HasKept (queries : Mac → Queries) (P : Kept) (mesh : Mesh) : Type 0 where
  pub frames : (place : ℕ) (frame : SentFrame) → slice_get mesh.frames place ≡ Some frame → FrameHas P frame.bytes
  pub puts : (place : ℕ) (put : LanPut) → slice_get mesh.puts place ≡ Some put → PutCarries P.carried put.bytes
  pub events : (event : Event) → Has mesh.events event → Tells P event
  pub knows : (place : ℕ) (node : NodeLog) → slice_get mesh.nodes place ≡ Some node → Stores IsWhole P.facts (kept_of (known_at_node queries node))
  pub parts : (place : ℕ) (node : NodeLog) → slice_get mesh.nodes place ≡ Some node → (newer log : Log) → node.log ≡ newer ++ log → PartsHave P (knowledge (queries node.mac) node.mac log).parts

-- an act among others
link_has : (P : Kept) (acts : List Act) (act : Act) → ActsHave P acts → Has acts act → ActHas P act
link_has P [] act all has = absurd has
link_has P (first ∷ rest) act all (inl is) = subst (ActHas P) (sym is) all.0
link_has P (first ∷ rest) act all (inr has) = link_has P rest act all.1 has

given_keep : (P : Kept) (queries : Mac → Queries) (mesh after : Mesh) (place now root : ℕ) (node : NodeLog) (given : Given) → HasGiven (scenario_setup queries) place now root node given mesh after
    → slice_get mesh.nodes place ≡ Some node → HasKept queries P mesh → Stores IsWhole P.facts (kept_of (next_knowledge (queries node.mac) node.mac node.log (known_at_node queries node) now given))
    → PartsHave P (next_knowledge (queries node.mac) node.mac node.log (known_at_node queries node) now given).parts → ActsHave P (acts_of (queries node.mac) node.mac node.log now given) → HasKept queries P after
given_keep P queries mesh after place now root node given has found old kept parts acts = record {
  frames = λ at frame got. sent at frame (get_either mesh.frames has.more at frame (subst (λ fs. slice_get fs at ≡ Some frame) has.frames got));
  puts = λ at put got. was_put at put (get_either mesh.puts has.more_puts at put (subst (λ ps. slice_get ps at ≡ Some put) has.puts got));
  events = λ event among. told event (has_either mesh.events has.more_events event (subst (λ es. Has es event) has.events among));
  knows = λ at n got. stored at n (renewed place entry mesh.nodes at n (subst (λ ns. slice_get ns at ≡ Some n) has.nodes got));
  parts = λ at n got newer log split. noted at n (renewed place entry mesh.nodes at n (subst (λ ns. slice_get ns at ≡ Some n) has.nodes got)) newer log split;
}
  where
    entry : LogEntry
    entry = entry_of (scenario_setup queries) node now given

    stored : (at : ℕ) (n : NodeLog) → Renewed place entry mesh.nodes at n → Stores IsWhole P.facts (kept_of (known_at_node queries n))
    stored at n (another d got) = old.knows at n got
    stored at n (itself before same got noted) =
        let one : node ≡ before = one_some node before (sym found ∙ ap (slice_get mesh.nodes) same ∙ got) in
        subst (λ (x : NodeLog). Stores IsWhole P.facts (kept_of (known_at_node queries x))) (ap (noting entry) one ∙ sym noted) kept

    front : (log : Log) → (newer : Log) → entry ∷ node.log ≡ newer ++ log → PartsHave P (knowledge (queries node.mac) node.mac log).parts
    front log [] is = subst (λ l. PartsHave P (knowledge (queries node.mac) node.mac l).parts) is parts
    front log (first ∷ more) is = old.parts place node found more log (let same : node.log ≡ more ++ log = cc in same)

    noted : (at : ℕ) (n : NodeLog) → Renewed place entry mesh.nodes at n → (newer log : Log) → n.log ≡ newer ++ log → PartsHave P (knowledge (queries n.mac) n.mac log).parts
    noted at n (another d got) newer log split = old.parts at n got newer log split
    noted at n (itself before same got is) newer log split =
        let one : node ≡ before = one_some node before (sym found ∙ ap (slice_get mesh.nodes) same ∙ got) in
        let after_is : noting entry node ≡ n = ap (noting entry) one ∙ sym is in
        subst (λ (x : NodeLog). PartsHave P (knowledge (queries x.mac) x.mac log).parts) after_is (front log newer (ap (λ (x : NodeLog). x.log) after_is ∙ split))

    made : List Act
    made = (entry_of (scenario_setup queries) node now given).acts

    sent : (at : ℕ) (frame : SentFrame) → (slice_get mesh.frames at ≡ Some frame) ⊎ Has has.more frame → FrameHas P frame.bytes
    sent at frame (inl before) = old.frames at frame before
    sent at frame (inr new) = let f = has.made frame new in link_has P made (Link f.to f.reason frame.bytes) acts f.act

    was_put : (at : ℕ) (put : LanPut) → (slice_get mesh.puts at ≡ Some put) ⊎ Has has.more_puts put → PutCarries P.carried put.bytes
    was_put at put (inl before) = old.puts at put before
    was_put at put (inr new) = link_has P made (Lan put.bytes) acts (has.put put new).act

    by_act : (event : Event) → IsOfActs made node.mac now event → Tells P event
    by_act event (inl print) = link_has P made (Print event) acts print
    by_act event (inr (inl s)) = let sending = s.is in record { handed_out = λ moment n vid src dst text is. cc; bridged = λ moment lan vid src dst text is. cc; told = λ me type_no source version text is. cc }
    by_act event (inr (inr s)) = let sending = s.is in record { handed_out = λ moment n vid src dst text is. cc; bridged = λ moment lan vid src dst text is. cc; told = λ me type_no source version text is. cc }

    told : (event : Event) → Has mesh.events event ⊎ Has has.more_events event → Tells P event
    told event (inl before) = old.events event before
    told event (inr new) = by_act event (has.came event new)

-- what is kept of a payload, unless it is a message of facts; and its facts, where it is one
pub record Payload (F : Holds) (P : List ℕ → Type 0) (payload : List ℕ) : Type 0 where
  pub has : UnlessStored P payload
  pub facts : (came : CameFact) → fact_message_of payload ≡ Some came → MessageHas F came.message

-- a message of facts is no client frame
pub kept_of_frame : (F : Holds) (P : List ℕ → Type 0) (payload : List ℕ) (one : ClientFrame) → Payload F P payload → client_frame_of payload ≡ Some one → P payload
kept_of_frame F P payload one p is = go p.has
  where
    go : UnlessStored P payload → P payload
    go (inl has) = has
    go (inr m) = absurd (message_no_frame m.dst m.src m.message one m.whole_dst m.whole_src (ap client_frame_of (sym m.spelled) ∙ is))

-- a client frame is no message of facts
pub kept_frame : (F : Holds) (P : List ℕ → Type 0) (frame : ClientFrame) → IsWhole frame.dst → IsWhole frame.src → P (payload_spelling frame) → Payload F P (payload_spelling frame)
kept_frame F P frame whole also p = record { has = inl p; facts = λ came is. absurd (frame_no_message frame came whole also is) }

-- a fact that was put, from a whole address
abbrev pub IsPut : (Mac → Queries) → Mesh → Fact → Type 0
IsPut queries mesh fact = IsPutFact queries mesh fact × IsWhole fact.source

-- so each fact is that a node has; one that answers a question, and the question, is of a type that lines
-- may ask for
abbrev pub put_facts : (Mac → Queries) → Mesh → Holds
put_facts queries mesh = record {
  pushed = IsPut queries mesh;
  answered = λ fact. IsPut queries mesh fact × (least_fact_type ≤ fact.type_no);
  asked = λ type_no. least_fact_type ≤ type_no;
  answers = λ fact has asked. (has, asked);
}

pub put_whole : (queries : Mac → Queries) (mesh : Mesh) → AreFromWhole (put_facts queries mesh)
put_whole queries mesh true fact has = has.1
put_whole queries mesh false fact has = has.0.1

-- what is kept in a mesh
abbrev pub kept_in : (queries : Mac → Queries) (P : Mesh → List ℕ → Type 0) → IsKept queries P → (mesh : Mesh) → IsOrderly queries mesh → Kept
kept_in queries P kept mesh o = record {
  carried = Payload (put_facts queries mesh) (P mesh);
  given = WasGiven mesh;
  facts = put_facts queries mesh;
  part = IsPartOf queries mesh (Payload (put_facts queries mesh) (P mesh));
  read_on = λ payload frame c read. kept_frame (put_facts queries mesh) (P mesh) frame (dst_whole payload frame read) (src_whole payload frame read) (kept.read_on mesh payload frame (kept_of_frame (put_facts queries mesh) (P mesh) payload frame c read) read);
  told = λ dst src message whole also has. record {
    has = inr (record { dst = dst; src = src; message = message; whole_dst = whole; whole_src = also; spelled = refl });
    facts = λ came is. message_back (put_facts queries mesh) (put_whole queries mesh) dst src message came whole also has is;
  };
  taken = λ tail came c is. c.facts came is;
  fits = λ orig seq total place tail p.
      let small = place_small p.of.cut place tail p.can p.of.piece in
      let seq_is = p.of.number_is in
      let low = p.low in
      let total_is = p.of.length_is in
      let short = p.can.told in
      record {
        whole = subst IsWhole p.of.was_cut.address (o.whole p.of.was_cut.place p.of.was_cut.node p.of.was_cut.found);
        few = omega (arith, small);
        small = omega (arith, seq_is, low);
        short = omega (arith, total_is, short);
      };
  joined = joined_carries queries mesh o (Payload (put_facts queries mesh) (P mesh));
}

-- ---- fragments of an input
-- what a packet for one node carries, by what its frame carries
unicast_reach : (P : Kept) (head : Head) (tail : List ℕ) (reach : Reach) → reach_of_head head ≡ Some reach → HeadHas P tail head → IsWhole reach.dst × P.carried tail
unicast_reach P (IvOgm ttl flags seq orig prev tq) tail reach is h = cc
unicast_reach P (Bcast ttl seq orig) tail reach is h = cc
unicast_reach P (Elp orig seq interval) tail reach is h = cc
unicast_reach P (Ogm2 ttl flags seq orig throughput) tail reach is h = cc
unicast_reach P (Unicast ttl ttvn dst) tail reach is h = let same : record { ttl = ttl; dst = dst } ≡ reach = cc in subst (λ (r : Reach). IsWhole r.dst × P.carried tail) same h
unicast_reach P (Frag ttl number priority dst orig seq total) tail reach is h = cc
unicast_reach P (Unicast4 ttl ttvn dst src subtype) tail reach is h = cc
unicast_reach P (Icmp ttl msg dst orig uid seq) tail reach is h = cc
unicast_reach P (Utvlv ttl dst src) tail reach is h = cc

front_among : (bytes : List ℕ) (front : Front) → first_packet bytes ≡ Ok front → Has (link_frame bytes).packets front.packet
front_among bytes front first =
    subst (λ ps. Has ps front.packet) (sym (ap (λ (f : FrameOfPackets). f.packets) (link_frame-first bytes) ∙ ap (λ r. (frame_from link_frame r).packets) first)) (inl refl)

front_carries : (P : Kept) (bytes : List ℕ) → FrameHas P bytes → (front : Front) → first_packet bytes ≡ Ok front → (reach : Reach) → reach_of_head front.packet.head ≡ Some reach → IsWhole reach.dst × P.carried front.packet.tail
front_carries P bytes has front first reach is = unicast_reach P front.packet.head front.packet.tail reach is (has front.packet (front_among bytes front first))

dst_of : (P : Kept) (bytes : List ℕ) (reach : Reach) → FrameHas P bytes → reach_of bytes ≡ Some reach → IsWhole reach.dst
dst_of P bytes reach has is = go (first_packet bytes) refl is
  where
    go : (r : Result Front NoPacket) → first_packet bytes ≡ r → reach_of_front r ≡ Some reach → IsWhole reach.dst
    go (Err cause) first e = cc
    go (Ok front) first e = (front_carries P bytes has front first reach e).0

-- a fragment that is put is a piece of a cut that is in the log then
piece_has : (queries : Mac → Queries) (P : Mesh → List ℕ → Type 0) (kept : IsKept queries P) (mesh after : Mesh) (o : IsOrderly queries after) (place now root : ℕ) (node : NodeLog) (given : Given) → HasGiven (scenario_setup queries) place now root node given mesh after
    → slice_get mesh.nodes place ≡ Some node → ActsHave (kept_in queries P kept after o) (whole_acts (queries node.mac) node.mac node.log now given)
    → (act : Act) → IsPutForCut (cutter_by (queries node.mac) node.mac node.log) (whole_acts (queries node.mac) node.mac node.log now given) act → ActHas (kept_in queries P kept after o) act
piece_has queries P kept mesh after o place now root node given has found acts act put =
    subst (ActHas K) (sym put.is) (subst (λ (x : Head × List ℕ). ActHas K (fragment_act put.to x)) (sym f.is)
    (frag_has K put.to f.reach.ttl f.place 0 f.reach.dst put.cut.me put.cut.number (length put.cut.packet) put.fragment.1 (dst_of K put.cut.packet f.reach carried f.reach_is) (omega arith) part))
  where
    K : Kept
    K = kept_in queries P kept after o

    whole : List Act
    whole = whole_acts (queries node.mac) node.mac node.log now given

    entry : LogEntry
    entry = entry_of (scenario_setup queries) node now given

    f : IsFragmentOf put.cut put.fragment
    f = fragment_is put.cut put.fragment put.is_of_cut

    carried : FrameHas K put.cut.packet
    carried = link_has K whole (Link put.to put.reason put.cut.packet) acts put.whole

    part : IsPartOf queries after (Payload (put_facts queries after) (P after)) put.cut.me put.cut.number (length put.cut.packet) f.place put.fragment.1
    part = record {
      of = record {
        cut = put.cut;
        was_cut = record {
          place = place;
          node = noting entry node;
          found = ap (λ ns. slice_get ns place) has.nodes ∙ got_noted mesh.nodes place node entry found;
          address = sym put.own;
          made = has_right (cuts_of_log (queries node.mac) node.mac node.log) (cuts_made (cutter_by (queries node.mac) node.mac node.log) whole) put.cut put.made;
        };
        number_is = refl;
        length_is = refl;
        piece = f.piece;
      };
      can = put.can_be_made;
      low = put.few;
      own = refl;
      carries = λ front first reach goes. (front_carries K put.cut.packet carried front first reach goes).1;
    }

-- so what is put has its property, once long packets are cut
cut_has : (queries : Mac → Queries) (P : Mesh → List ℕ → Type 0) (kept : IsKept queries P) (mesh after : Mesh) (o : IsOrderly queries after) (place now root : ℕ) (node : NodeLog) (given : Given) → HasGiven (scenario_setup queries) place now root node given mesh after
    → slice_get mesh.nodes place ≡ Some node → ActsHave (kept_in queries P kept after o) (whole_acts (queries node.mac) node.mac node.log now given) → ActsHave (kept_in queries P kept after o) (acts_of (queries node.mac) node.mac node.log now given)
cut_has queries P kept mesh after o place now root node given has found acts =
    cut_each (ActHas (kept_in queries P kept after o)) (cutter_by (queries node.mac) node.mac node.log) (whole_acts (queries node.mac) node.mac node.log now given) acts
    (piece_has queries P kept mesh after o place now root node given has found acts)

-- a line tells its client frame
line_tells : (line : LineGiven) (frame : ClientFrame) → TellsClient line → frame_of_line line ≡ Some frame → TellsClient (Frame frame.src frame.dst frame.vid frame.text)
line_tells (Attach lan gateways) frame of is = cc
line_tells (Frame src dst vid text) frame of is = let same : record { dst = dst; src = src; vid = vid; text = text } ≡ frame = cc in subst (λ (f : ClientFrame). TellsClient (Frame f.src f.dst f.vid f.text)) same of
line_tells (Gone key) frame of is = cc
line_tells (Join key) frame of is = cc
line_tells (Leave key) frame of is = cc
line_tells (Arp mac own_ip asked_ip vid) frame of is = cc
line_tells (Dhcp key text) frame of is = let same : call_frame key text ≡ frame = cc in subst (λ (f : ClientFrame). TellsClient (Frame f.src f.dst f.vid f.text)) same (of, refl)
line_tells (Sets setting) frame of is = cc
line_tells (Put type_no version text) frame of is = cc
line_tells (Get type_no) frame of is = cc
line_tells (Ping target) frame of is = cc
line_tells (Trace target) frame of is = cc
line_tells Reboot frame of is = cc

-- the client frame of a line, behind the line's step
line_begins : (queries : Mac → Queries) (P : Mesh → List ℕ → Type 0) (mesh after : Mesh) (o : IsOrderly queries after) (place now : ℕ) (node : NodeLog) (line : LineGiven) → (kept : IsKept queries P) → slice_get mesh.nodes place ≡ Some node → TellsClient line
    → HasGiven (scenario_setup queries) place now 0 node (Line line) mesh after → Begins (kept_in queries P kept after o) line
line_begins queries P mesh after o place now node line kept found of has frame is =
    let entry = entry_of (scenario_setup queries) node now (Line line) in
    let given : WasGiven after frame = to_node place (noting entry node) entry line
    (ap (λ ns. slice_get ns place) has.nodes ∙ got_noted mesh.nodes place node entry found) (inl refl) refl is (line_tells line frame of is) in
    let tells = line_tells line frame of is in
    (given, kept_frame (put_facts queries after) (P after) frame tells.1 tells.0.fits.address (kept.begun after frame given))

at_end : {X : Type 0} (xs : List X) (x : X) → slice_get (xs ++ x ∷ []) (length xs) ≡ Some x
at_end [] x = refl
at_end (first ∷ rest) x = at_end rest x

-- one more event
more_told : (P : Kept) (events : List Event) (new : Event) → ((event : Event) → Has events event → Tells P event) → Tells P new → (event : Event) → Has (events ++ new ∷ []) event → Tells P event
more_told P events new old tells event has = go (has_either events (new ∷ []) event has)
  where
    go : Has events event ⊎ Has (new ∷ []) event → Tells P event
    go (inl before) = old event before
    go (inr (inl is)) = subst (Tells P) (sym is) tells
    go (inr (inr none)) = absurd none

-- events of lines of routes tell nothing of what is carried
routes_tell : (P : Kept) (events : List Event) (lines : List RouteLine) → ((event : Event) → Has events event → Tells P event) → (event : Event) → Has (events ++ map route_event lines) event → Tells P event
routes_tell P events lines old event has = go (has_either events (map route_event lines) event has)
  where
    one : (lines : List RouteLine) → Has (map route_event lines) event → Tells P event
    one [] new = absurd new
    one (line ∷ rest) (inl is) = subst (Tells P) (sym is) (record { handed_out = λ moment n vid src dst text e. cc; bridged = λ moment lan vid src dst text e. cc; told = λ me type_no source version text e. cc })
    one (line ∷ rest) (inr new) = one rest new

    go : Has events event ⊎ Has (map route_event lines) event → Tells P event
    go (inl before) = old event before
    go (inr new) = one lines new

put_keeps : (queries : Mac → Queries) (P : Kept) (mesh : Mesh) (put : LanPut) → HasKept queries P mesh → PutCarries P.carried put.bytes → HasKept queries P (with_lan_frame put mesh)
put_keeps queries P mesh put old carries = record {
  knows = old.knows;
  parts = old.parts;
  frames = old.frames;
  puts = λ at other got. go at other (get_last mesh.puts put at other got);
  events = more_told P mesh.events (put_event mesh put) old.events (record { handed_out = λ moment n vid src dst text is. cc; bridged = λ moment lan vid src dst text is. cc; told = λ me type_no source version text is. cc });
}
  where
    go : (at : ℕ) (other : LanPut) → (slice_get mesh.puts at ≡ Some other) ⊎ (other ≡ put) → PutCarries P.carried other.bytes
    go at other (inl before) = old.puts at other before
    go at other (inr same) = subst (λ (p : LanPut). PutCarries P.carried p.bytes) (sym same) carries

bridged_tells : (P : Kept) (now : ℕ) (put : LanPut) (frame : ClientFrame) → P.carried put.bytes → client_frame_of put.bytes ≡ Some frame → Tells P (bridged_event now put frame)
bridged_tells P now put frame p read = record {
  handed_out = λ moment n vid src dst text is. cc;
  told = λ me type_no source version text is. cc;
  bridged = λ moment lan vid src dst text is.
      let same : ◌≡◌ {A = ClientFrame} (record { dst = frame.dst; src = frame.src; vid = frame.vid; text = frame.text }) (record { dst = dst; src = src; vid = vid; text = text }) = cc in
      subst (IsReadOf P.carried) same (put.bytes, p, read);
}

-- the fact that a line puts, behind the line's step
put_by : (queries : Mac → Queries) (mesh after : Mesh) (place now : ℕ) (node : NodeLog) (line : LineGiven) → slice_get mesh.nodes place ≡ Some node → HasGiven (scenario_setup queries) place now 0 node (Line line) mesh after
    → TellsClient line → (type_no version : ℕ) (bytes : List ℕ) → line ≡ Put type_no version bytes → WasPut after (record { source = node.mac; type_no = type_no; version = version; bytes = bytes })
put_by queries mesh after place now node line found has of type_no version bytes is =
    let entry = entry_of (scenario_setup queries) node now (Line line) in
    record {
      place = place;
      node = noting entry node;
      entry = entry;
      found = ap (λ ns. slice_get ns place) has.nodes ∙ got_noted mesh.nodes place node entry found;
      noted = inl refl;
      given_is = ap Line is;
      source_is = refl;
      type_is = subst TellsClient is of;
    }

before_stored : (D : Mac → Type 0) (F : Holds) (q : Queries) (now index : ℕ) (known : Knowledge) → Stores D F (kept_of known) → Stores D F (kept_of (before_round q now index known))
before_stored D F q now index known s = go (is_commit_tick index)
  where
    ticked : Knowledge
    ticked = record known { routes = OwnTick now index ∷ known.routes }

    go : (b : Bool) → Stores D F (kept_of (cond b (record ticked { services = record ticked.services { choice = choice_by known.services.settings.gateway q ticked now } }) ticked))
    go true = s
    go false = s

lan_parts : (P : Kept) (q : Queries) (me : Mac) (mine : Log) (known : Knowledge) (now : ℕ) (bytes : List ℕ) → PartsHave P known.parts → PartsHave P (next_knowledge q me mine known now (LanFrame bytes)).parts
lan_parts P q me mine known now bytes parts =
    let ms = next_mentions me mine (mentions me mine) now (LanFrame bytes) in
    let passed = passed_from_lan me mine now (client_frame_in (lan_message_of bytes)) in
    kept_parts P known (after_passed q me mine known now ms passed) (passed_kept q me mine known now ms passed) parts

-- what is put before others
put_before : (F : Fact → Type 0) (puts : Bool) (call : FactCall) (calls : List FactCall) → (puts ≡ true → F (fact_of_call call))
    → AllByRecursion (λ (one : FactCall). F (fact_of_call one)) calls → AllByRecursion (λ (one : FactCall). F (fact_of_call one)) (cond puts (call ∷ []) [] ++ calls)
put_before F true call calls has all = (has refl, all)
put_before F false call calls has all = all

-- what is kept before facts are told, with the picture that is put
telling_stored : (D : Mac → Type 0) (F : Holds) (q : Queries) (me : Mac) (now index : ℕ) (table : List Entry) (known : Knowledge)
    → (puts_picture (before_round q now index known).services.settings index ≡ true → F.pushed (picture_fact me (own_picture q (before_round q now index known).routes now table)))
    → Stores D F (kept_of known) → Stores D F (kept_of (before_telling q me now index table known))
telling_stored D F q me now index table known has s =
    let before = before_round q now index known in
    let t = before_stored D F q now index known s in
    record {
      primaries = t.primaries;
      facts = put_before F.pushed (puts_picture before.services.settings index) (PutNow now (picture_fact me (own_picture q before.routes now table))) before.services.facts has t.facts;
      pushes = t.pushes;
      answers = t.answers;
    }

-- the picture that a node puts at its tick, behind the tick's step
pictured : (queries : Mac → Queries) (mesh after : Mesh) (place now : ℕ) (node : NodeLog) (index : ℕ) → slice_get mesh.nodes place ≡ Some node
    → HasGiven (scenario_setup queries) place now index node (Tick index) mesh after → (settings : Settings) → puts_picture settings index ≡ true
    → WasPictured queries after (picture_fact node.mac (picture_by (queries node.mac) node.mac node.log now index))
pictured queries mesh after place now node index found has settings puts =
    let entry = entry_of (scenario_setup queries) node now (Tick index) in
    record {
      place = place;
      node = noting entry node;
      newer = [];
      entry = entry;
      older = node.log;
      index = index;
      found = ap (λ ns. slice_get ns place) has.nodes ∙ got_noted mesh.nodes place node entry found;
      log_is = refl;
      given_is = refl;
      round = first_true (is_round index) (settings.pictures && takes_part settings.fact_store) puts;
      fact_is = refl;
    }
  where
    first_true : (b c : Bool) → (b && c) ≡ true → b ≡ true
    first_true true c is = refl
    first_true false c is = cc

lan_stored : (F : Holds) (q : Queries) (me : Mac) (mine : Log) (known : Knowledge) (now : ℕ) (bytes : List ℕ) → Stores IsWhole F (kept_of known)
    → Stores IsWhole F (kept_of (next_knowledge q me mine known now (LanFrame bytes)))
lan_stored F q me mine known now bytes s =
    let ms = next_mentions me mine (mentions me mine) now (LanFrame bytes) in
    let passed = passed_from_lan me mine now (client_frame_in (lan_message_of bytes)) in
    same_stores IsWhole F known (after_passed q me mine known now ms passed) (passed_kept q me mine known now ms passed) s

pub step_keeps : (queries : Mac → Queries) (P : Mesh → List ℕ → Type 0) (mesh after : Mesh) → (kept : IsKept queries P) → AllKeep queries → IsOrderly queries mesh → (late : IsOrderly queries after) → Steps queries mesh after
    → HasKept queries (kept_in queries P kept after late) mesh → HasKept queries (kept_in queries P kept after late) after
step_keeps queries P mesh _ kept keep o late (node_joins _ new empty whole fresh) old = record { frames = old.frames; puts = old.puts; events = old.events; knows = λ at n got. joined at n (got_front mesh.nodes new at n got); parts = λ at n got. fresh_parts at n (got_front mesh.nodes new at n got) }
  where
    holds : NodeLog → Type 0
    holds n = Stores IsWhole (put_facts queries (record mesh { nodes = mesh.nodes ++ new ∷ [] })) (kept_of (known_at_node queries n))

    joined : (at : ℕ) (n : NodeLog) → (slice_get mesh.nodes at ≡ Some n) ⊎ ((n ≡ new) × (slice_get mesh.nodes at ≡ None)) → holds n
    joined at n (inl before) = old.knows at n before
    joined at n (inr is) = subst (λ l. Stores IsWhole (put_facts queries (record mesh { nodes = mesh.nodes ++ new ∷ [] })) (kept_of (knowledge (queries n.mac) n.mac l))) (sym (ap (λ (x : NodeLog). x.log) is.0 ∙ empty)) (record { primaries = tt; facts = tt; pushes = tt; answers = tt })

    no_log : (newer log : Log) → [] ≡ newer ++ log → log ≡ []
    no_log [] log is = sym is
    no_log (entry ∷ newer) log is = cc

    fresh_parts : (at : ℕ) (n : NodeLog) → (slice_get mesh.nodes at ≡ Some n) ⊎ ((n ≡ new) × (slice_get mesh.nodes at ≡ None)) → (newer log : Log) → n.log ≡ newer ++ log
        → PartsHave (kept_in queries P kept (record mesh { nodes = mesh.nodes ++ new ∷ [] }) late) (knowledge (queries n.mac) n.mac log).parts
    fresh_parts at n (inl before) = old.parts at n before
    fresh_parts at n (inr is) = λ newer log split. subst (λ l. PartsHave (kept_in queries P kept (record mesh { nodes = mesh.nodes ++ new ∷ [] }) late) (knowledge (queries n.mac) n.mac l).parts)
        (sym (no_log newer log (sym (ap (λ (x : NodeLog). x.log) is.0 ∙ empty) ∙ split))) tt
step_keeps queries P mesh _ kept keep o late (link_joins _ link) old = record { frames = old.frames; puts = old.puts; events = old.events; knows = old.knows; parts = old.parts }
step_keeps queries P mesh after kept keep o late (line_gives _ _ place now node line found may of is) old =
    let has = given_is (scenario_setup queries) place now 0 node (Line line) mesh after found is in
    given_keep (kept_in queries P kept after late) queries mesh after place now 0 node (Line line) has found old
    (line_stored IsWhole (put_facts queries after) (queries node.mac) node.mac node.log (known_at_node queries node) now line (λ type_no version bytes put. (inl (put_by queries mesh after place now node line found has of type_no version bytes put), o.whole place node found)) (old.knows place node found))
    (line_parts (kept_in queries P kept after late) (queries node.mac) node.mac node.log (known_at_node queries node) now line (old.parts place node found [] node.log refl))
    (cut_has queries P kept mesh after late place now 0 node (Line line) has found
    (line_has (kept_in queries P kept after late) (queries node.mac) node.mac node.log now line (line_begins queries P mesh after late place now node line kept found of has) (λ type_no is. subst TellsClient is of) (o.whole place node found) (o.knows place node found) (old.knows place node found)))
step_keeps queries P mesh after kept keep o late (node_ticks _ _ place now node found may is) old =
    let q : Queries = queries node.mac in
    let index = suc (ticks_in node.log) in
    let known = known_at_node queries node in
    let table = table_behind node.mac node.log now index in
    let before = before_telling q node.mac now index table known in
    let at : Place = record { me = node.mac; now = now } in
    let told = fact_round_acts q before at index in
    let ticks = tick_acts q node.mac known.services.settings known.routes (mentions node.mac node.log) (history node.mac node.log) (bridge node.log) now index in
    let has = given_is (scenario_setup queries) place now index node (Tick index) mesh after found is in
    let stored : Stores IsWhole (put_facts queries after) (kept_of before) =
    telling_stored IsWhole (put_facts queries after) q node.mac now index table known
    (λ puts. (inr (pictured queries mesh after place now node index found has (before_round q now index known).services.settings puts), o.whole place node found))
    (old.knows place node found) in
    given_keep (kept_in queries P kept after late) queries mesh after place now index node (Tick index) has found old
    (subst (Stores IsWhole (put_facts queries after)) (sym (round_kept q now index before)) stored)
    (subst (PartsHave (kept_in queries P kept after late)) (sym (ap (λ (k : StoreKept). k.parts) (tick_kept q node.mac now index table known))) (old.parts place node found [] node.log refl))
    (cut_has queries P kept mesh after late place now index node (Tick index) has found
    (each_appended (ActHas (kept_in queries P kept after late)) ticks told
    (tick_has (kept_in queries P kept after late) q node.mac known.services.settings known.routes (mentions node.mac node.log) (history node.mac node.log) (bridge node.log) now index (keep node.mac) (o.whole place node found))
    (stores_have (kept_in queries P kept after late) node.mac told (o.whole place node found) (fact_round_puts IsWhole (put_facts queries after) q before at index stored))))
step_keeps queries P mesh after kept keep o late (frame_comes _ _ place now number throughput from node frame found may sent whole is) old =
    let came : Coming = record { now = now; from = from; throughput = throughput; number = suc number } in
    let given = LinkFrame (suc number) from throughput frame.bytes in
    let has = given_is (scenario_setup queries) place now frame.root node given mesh after found is in
    let parts = old.parts place node found [] node.log refl in
    given_keep (kept_in queries P kept after late) queries mesh after place now frame.root node given has found old
    (packets_keep (kept_in queries P kept after late) (queries node.mac) node.mac came (link_frame frame.bytes).packets (known_at_node queries node) parts (old.knows place node found) (λ packet among. old.frames number frame sent packet among))
    (packets_parts (kept_in queries P kept after late) (queries node.mac) node.mac came (link_frame frame.bytes).packets (known_at_node queries node) parts (λ packet among. old.frames number frame sent packet among))
    (cut_has queries P kept mesh after late place now frame.root node given has found
    (packets_have (kept_in queries P kept after late) (queries node.mac) node.mac (own_by node.mac node.log) came (link_frame frame.bytes).packets (known_at_node queries node) (keep node.mac) (o.whole place node found) whole (o.knows place node found) (old.knows place node found) parts
    (λ packet among. (heads_whole frame.bytes packet among, old.frames number frame sent packet among))))
step_keeps queries P mesh _ kept keep o late (lan_joins _ lan) old = record { frames = old.frames; puts = old.puts; events = old.events; knows = old.knows; parts = old.parts }
step_keeps queries P mesh _ kept keep o late (put_comes _ put frame by is tells) old = put_keeps queries (kept_in queries P kept (with_lan_frame put mesh) late) mesh put old (own kept)
  where
    own : (kept : IsKept queries P) → PutCarries (kept_in queries P kept (with_lan_frame put mesh) late).carried put.bytes
    own kept other e = subst (Payload (put_facts queries (with_lan_frame put mesh)) (P (with_lan_frame put mesh))) (sym is) (kept_frame (put_facts queries (with_lan_frame put mesh)) (P (with_lan_frame put mesh)) frame tells.1 tells.0.fits.address (kept.begun (with_lan_frame put mesh) frame (on_lan (length mesh.puts) put (at_end mesh.puts put) by is tells)))
step_keeps queries P mesh _ kept keep o late (put_reaches _ number now put frame found carries) old = record {
  frames = old.frames;
  knows = old.knows;
  parts = old.parts;
  puts = old.puts;
  events = more_told (kept_in queries P kept (with_events (bridged_event now put frame ∷ []) mesh) late) mesh.events (bridged_event now put frame) old.events
      (bridged_tells (kept_in queries P kept (with_events (bridged_event now put frame ∷ []) mesh) late) now put frame (old.puts number put found frame carries) (lan_read put.bytes frame carries));
}
step_keeps queries P mesh after kept keep o late (lan_comes _ _ place now number node put found may among is) old =
    let has = given_is (scenario_setup queries) place now 0 node (LanFrame put.bytes) mesh after found is in
    given_keep (kept_in queries P kept after late) queries mesh after place now 0 node (LanFrame put.bytes) has found old
    (lan_stored (put_facts queries after) (queries node.mac) node.mac node.log (known_at_node queries node) now put.bytes (old.knows place node found))
    (lan_parts (kept_in queries P kept after late) (queries node.mac) node.mac node.log (known_at_node queries node) now put.bytes (old.parts place node found [] node.log refl))
    (cut_has queries P kept mesh after late place now 0 node (LanFrame put.bytes) has found
    (lan_has (kept_in queries P kept after late) (queries node.mac) node.mac node.log now put.bytes (old.puts number put among) (o.whole place node found) (o.knows place node found)))
step_keeps queries P mesh _ kept keep o late (time_passes _ happening) old = record { frames = old.frames; puts = old.puts; events = old.events; knows = old.knows; parts = old.parts }
step_keeps queries P mesh _ kept keep o late (routes_told _ lines watch) old = record {
  frames = old.frames;
  puts = old.puts;
  events = routes_tell (kept_in queries P kept (with_told lines watch mesh) late) mesh.events lines old.events;
  knows = old.knows;
  parts = old.parts;
}
