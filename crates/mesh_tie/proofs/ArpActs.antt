-- What the rows of the distributed ARP table put: packets of the table, with their sender, and events
-- of their own.
use Rattle.std.proofs.Common.{ℕ, ◌-◌, Bool, true, false, cond, nat_le, List, [], ◌∷◌, Option, Some, None}
use Rattle.std.specs.List.{AllByRecursion}
use Rattle.mesh_base.specs.declared.address.Mac.{Mac}
use Rattle.mesh_base.specs.declared.client.Vid.{Vid}
use Rattle.mesh_base.specs.declared.event.ArpResult.{ArpResult}
use Rattle.mesh_base.specs.declared.event.ArpResult.TheVariants.{Off, Unknown, Cached, Found}
use Rattle.mesh_base.specs.declared.event.Event.TheVariants.{Arp}
use Rattle.mesh_model.specs.declared.act.Act.{Act}
use Rattle.mesh_model.specs.declared.act.Act.TheVariants.{Print}
use Rattle.mesh_model.specs.declared.packet.Head.TheVariants.{Unicast4}
use Rattle.mesh_model.specs.Acts.ArpRows.{answer_to, answered_acts, arp_here, arp_told, asked_acts, came_acts, known_or_asked, learned_acts, message_of_client, pair_acts, passed_unicast4, question_acts, table_packet, table_packets}
use Rattle.mesh_model.specs.Acts.BridgeRows.{Place}
use Rattle.mesh_model.specs.Acts.Packing.{sent_over, sent_to}
use Rattle.mesh_model.specs.Acts.Rows.{place_at}
use Rattle.mesh_model.specs.Knowledge.Known.{Knowledge}
use Rattle.mesh_model.specs.Knowledge.Pairs.{known_address, pair_keepers, with_learned}
use Rattle.mesh_model.specs.Knowledge.Steps.{Coming}
use Rattle.mesh_model.specs.Packets.ArpMessages.{ArpCame, ArpMessage, Asks, Puts, Tells, arp_came, arp_reply, arp_request, arp_spelling}
use Rattle.mesh_model.specs.Packets.Ethernet.{all_stations}
use Rattle.mesh_model.specs.Packets.Numbers.{cache_reply_subtype, dht_get_subtype, dht_put_subtype, first_ttl}
use Rattle.mesh_model.specs.Routes.Addresses.{same_mac}
use Rattle.mesh_model.specs.Routes.Queries.{Queries}
use Rattle.mesh_model.specs.Services.ArpTable.{is_awaited}
use Rattle.mesh_tie.proofs.EntryLemmas.{each_appended}

-- an act of the ARP table
pub data IsAsking : Act → Type 0 where
  puts_packet : (next : Mac) (ttl ttvn : ℕ) (dst src : Mac) (subtype : ℕ) (payload : List ℕ) → IsAsking (sent_to next None (Unicast4 ttl ttvn dst src subtype) payload)
  puts_told : (node : Mac) (ip : ℕ) (result : ArpResult) → IsAsking (Print (Arp node ip result))

abbrev pub AreAsking : List Act → Type 0
AreAsking acts = AllByRecursion IsAsking acts

-- what holds of each such act holds of all of them
pub each_asking : (R : Act → Type 0) → ((act : Act) → IsAsking act → R act) → (acts : List Act) → AreAsking acts → AllByRecursion R acts
each_asking R one [] all = tt
each_asking R one (act ∷ acts) all = (one act all.0, each_asking R one acts all.1)

asking_if : (b : Bool) (xs ys : List Act) → AreAsking xs → AreAsking ys → AreAsking (cond b xs ys)
asking_if true xs ys a b = a
asking_if false xs ys a b = b

asking_over : (next : Option Mac) (ttl ttvn : ℕ) (dst src : Mac) (subtype : ℕ) (payload : List ℕ) → AreAsking (sent_over next (Unicast4 ttl ttvn dst src subtype) payload)
asking_over None ttl ttvn dst src subtype payload = tt
asking_over (Some next) ttl ttvn dst src subtype payload = (puts_packet next ttl ttvn dst src subtype payload, tt)

packet_puts : (q : Queries) (known : Knowledge) (at : Place) (subtype : ℕ) (dst : Mac) (payload : List ℕ) → AreAsking (table_packet q known at subtype dst payload)
packet_puts q known at subtype dst payload = asking_over (q.route known.routes at.now dst) first_ttl 0 dst at.me subtype payload

packets_puts : (q : Queries) (known : Knowledge) (at : Place) (subtype : ℕ) (m : ArpMessage) (nodes : List Mac) → AreAsking (table_packets q known at subtype m nodes)
packets_puts q known at subtype m [] = tt
packets_puts q known at subtype m (node ∷ rest) =
    let payload = arp_spelling all_stations m.sender m in
    each_appended IsAsking (table_packet q known at subtype node payload) (table_packets q known at subtype m rest) (packet_puts q known at subtype node payload) (packets_puts q known at subtype m rest)

-- ---- questions
told_puts : (at : Place) (ip : ℕ) (result : ArpResult) → AreAsking (arp_told at ip result)
told_puts at ip result = (puts_told at.me ip result, tt)

asked_puts : (q : Queries) (known : Knowledge) (at : Place) (mac : Mac) (own_ip asked_ip : ℕ) (vid : Vid) (nodes : List Mac) → AreAsking (asked_acts q known at mac own_ip asked_ip vid nodes)
asked_puts q known at mac own_ip asked_ip vid [] = told_puts at asked_ip Unknown
asked_puts q known at mac own_ip asked_ip vid (node ∷ rest) = packets_puts q known at dht_get_subtype (message_of_client arp_request mac own_ip asked_ip vid) (node ∷ rest)

known_puts : (q : Queries) (known : Knowledge) (at : Place) (mac : Mac) (own_ip asked_ip : ℕ) (vid : Vid) (o : Option Mac) → AreAsking (known_or_asked q known at mac own_ip asked_ip vid o)
known_puts q known at mac own_ip asked_ip vid None = asked_puts q known at mac own_ip asked_ip vid (pair_keepers q at.me known at.now asked_ip vid)
known_puts q known at mac own_ip asked_ip vid (Some found) = told_puts at asked_ip (Cached found)

learned_puts : (q : Queries) (known : Knowledge) (at : Place) (mac : Mac) (own_ip asked_ip : ℕ) (vid : Vid) → AreAsking (learned_acts q known at mac own_ip asked_ip vid)
learned_puts q known at mac own_ip asked_ip vid =
    let o = known_address known at.now asked_ip vid in
    each_appended IsAsking (pair_acts q known at mac own_ip vid) (known_or_asked q known at mac own_ip asked_ip vid o)
    (packets_puts q known at dht_put_subtype (message_of_client arp_reply mac own_ip 0 vid) (pair_keepers q at.me known at.now own_ip vid))
    (known_puts q known at mac own_ip asked_ip vid o)

pub question_puts : (q : Queries) (known : Knowledge) (at : Place) (mac : Mac) (own_ip asked_ip : ℕ) (vid : Vid) → AreAsking (question_acts q known at mac own_ip asked_ip vid)
unfolding question_acts
question_puts q known at mac own_ip asked_ip vid =
    let learned = with_learned at.now own_ip vid mac known in
    asking_if known.services.settings.arp_table (learned_acts q learned at mac own_ip asked_ip vid) (arp_told at asked_ip Off) (learned_puts q learned at mac own_ip asked_ip vid) (told_puts at asked_ip Off)

-- ---- packets
answered_puts : (q : Queries) (known : Knowledge) (at : Place) (src : Mac) (m : ArpMessage) (o : Option Mac) → AreAsking (answered_acts q known at src m o)
answered_puts q known at src m None = tt
answered_puts q known at src m (Some found) = packet_puts q known at cache_reply_subtype src (arp_spelling m.sender found (answer_to m found))

came_puts : (q : Queries) (known : Knowledge) (at : Place) (src : Mac) (came : Option ArpCame) → AreAsking (came_acts q known at src came)
came_puts q known at src None = tt
came_puts q known at src (Some (Puts m)) = tt
came_puts q known at src (Some (Asks m)) = answered_puts q known at src m (known_address known at.now m.target_ip m.vid)
came_puts q known at src (Some (Tells m)) =
    asking_if (is_awaited known.services.asks m.sender_ip m.vid) (arp_told at m.sender_ip (Found m.sender)) [] (told_puts at m.sender_ip (Found m.sender)) tt

arp_here_puts : (q : Queries) (known : Knowledge) (at : Place) (src : Mac) (came : Option ArpCame) → AreAsking (arp_here q known at src came)
unfolding arp_here
arp_here_puts q known at src came = asking_if known.services.settings.arp_table (came_acts q known at src came) [] (came_puts q known at src came) tt

passed_puts : (q : Queries) (known : Knowledge) (now ttl ttvn : ℕ) (dst src : Mac) (subtype : ℕ) (tail : List ℕ) → AreAsking (passed_unicast4 q known now ttl ttvn dst src subtype tail)
unfolding passed_unicast4
passed_puts q known now ttl ttvn dst src subtype tail =
    let next = q.route known.routes now dst in
    asking_if (nat_le ttl 1) [] (sent_over next (Unicast4 (ttl - 1) ttvn dst src subtype) tail) tt (asking_over next (ttl - 1) ttvn dst src subtype tail)

-- the acts of a packet with its sender, for this node or for another
abbrev pub unicast4_acts : Queries → Mac → Coming → Knowledge → ℕ → ℕ → Mac → Mac → ℕ → List ℕ → List Act
unicast4_acts q me came known ttl ttvn dst src subtype tail =
    cond (same_mac dst me) (arp_here q known (place_at me came) src (arp_came subtype tail)) (passed_unicast4 q known came.now ttl ttvn dst src subtype tail)

pub unicast4_puts : (q : Queries) (me : Mac) (came : Coming) (known : Knowledge) (ttl ttvn : ℕ) (dst src : Mac) (subtype : ℕ) (tail : List ℕ) → AreAsking (unicast4_acts q me came known ttl ttvn dst src subtype tail)
unicast4_puts q me came known ttl ttvn dst src subtype tail =
    let here = place_at me came in
    let brought = arp_came subtype tail in
    asking_if (same_mac dst me) (arp_here q known here src brought) (passed_unicast4 q known came.now ttl ttvn dst src subtype tail)
    (arp_here_puts q known here src brought) (passed_puts q known came.now ttl ttvn dst src subtype tail)
