-- The rows of the distributed ARP table: what a node puts for the question of a client, for a
-- packet of the table that came to it, and for one that is for another node. A question puts its
-- pair at the other nodes that keep it; it is answered by what the node knows, or asked of the
-- others that keep the pair. A question that came is answered where the pair is known; an answer
-- that came is printed where one is awaited. The main words are `question_acts`, `arp_here` and
-- `passed_unicast4`.
use Rattle.std.specs.Prelude.{ℕ, ◌-◌, nat_le, List, [], ◌∷◌, ◌++◌, flat_map, replicate, Option, Some, None, if◌then◌else◌}
use Rattle.mesh_base.specs.declared.address.Mac.{Mac}
use Rattle.mesh_base.specs.declared.client.Vid.{Vid}
use Rattle.mesh_base.specs.declared.event.ArpResult.{ArpResult}
use Rattle.mesh_base.specs.declared.event.ArpResult.TheVariants.{Off, Unknown, Cached, Found}
use Rattle.mesh_base.specs.declared.event.Event.TheVariants.{Arp}
use Rattle.mesh_model.specs.declared.act.Act.{Act}
use Rattle.mesh_model.specs.declared.act.Act.TheVariants.{Print}
use Rattle.mesh_model.specs.declared.packet.Head.TheVariants.{Unicast4}
use Rattle.mesh_model.specs.Acts.BridgeRows.{Place}
use Rattle.mesh_model.specs.Acts.Packing.{sent_over}
use Rattle.mesh_model.specs.Knowledge.Known.{Knowledge}
use Rattle.mesh_model.specs.Knowledge.Pairs.{known_address, pair_keepers, with_learned}
use Rattle.mesh_model.specs.Packets.ArpMessages.{ArpCame, Puts, Asks, Tells, ArpMessage, arp_reply, arp_request, arp_spelling}
use Rattle.mesh_model.specs.Packets.Ethernet.{all_stations}
use Rattle.mesh_model.specs.Packets.Numbers.{cache_reply_subtype, dht_get_subtype, dht_put_subtype, first_ttl}
use Rattle.mesh_model.specs.Routes.Queries.{Queries}
use Rattle.mesh_model.specs.Services.ArpTable.{is_awaited}

-- ---- messages

-- the address of no station
abbrev pub no_station : Mac
no_station = record { 0 = replicate 6 0 }

-- a message of a client that has an IP address
abbrev pub message_of_client : ℕ → Mac → ℕ → ℕ → Vid → ArpMessage
message_of_client operation mac own_ip asked_ip vid = record {
  vid = vid;
  operation = operation;
  sender = mac;
  sender_ip = own_ip;
  target = no_station;
  target_ip = asked_ip;
}

-- the answer to a question whose pair has this address
abbrev pub answer_to : ArpMessage → Mac → ArpMessage
answer_to m found = record {
  vid = m.vid;
  operation = arp_reply;
  sender = found;
  sender_ip = m.target_ip;
  target = m.sender;
  target_ip = m.sender_ip;
}

-- a packet of the table to a node, where a route leads there
abbrev pub table_packet : Queries → Knowledge → Place → ℕ → Mac → List ℕ → List Act
table_packet q known at subtype dst payload = sent_over (q.route known.routes at.now dst)
    (Unicast4 first_ttl 0 dst at.me subtype) payload

-- the message of a client to some nodes
abbrev pub table_packets : Queries → Knowledge → Place → ℕ → ArpMessage → List Mac → List Act
table_packets q known at subtype m nodes = flat_map (λ (dst : Mac).
    table_packet q known at subtype dst (arp_spelling all_stations m.sender m)) nodes

-- ---- questions

-- what came of a question is printed
abbrev pub arp_told : Place → ℕ → ArpResult → List Act
arp_told at ip result = Print (Arp at.me ip result) ∷ []

-- a client puts its pair at the other nodes that keep it
abbrev pub pair_acts : Queries → Knowledge → Place → Mac → ℕ → Vid → List Act
pair_acts q known at mac own_ip vid = table_packets q known at dht_put_subtype
    (message_of_client arp_reply mac own_ip 0 vid)
    (pair_keepers q at.me known at.now own_ip vid)

-- a pair is asked of nodes; it isn't known where there is none
abbrev pub asked_acts : Queries → Knowledge → Place → Mac → ℕ → ℕ → Vid → List Mac → List Act
asked_acts q known at mac own_ip asked_ip vid [] = arp_told at asked_ip Unknown
asked_acts q known at mac own_ip asked_ip vid (node ∷ rest) =
    table_packets q known at dht_get_subtype
    (message_of_client arp_request mac own_ip asked_ip vid) (node ∷ rest)

-- a question by what the node knows of its pair
abbrev pub known_or_asked : Queries → Knowledge → Place → Mac → ℕ → ℕ → Vid → Option Mac → List Act
known_or_asked q known at mac own_ip asked_ip vid (Some found) =
    arp_told at asked_ip (Cached found)
known_or_asked q known at mac own_ip asked_ip vid None =
    asked_acts q known at mac own_ip asked_ip vid
    (pair_keepers q at.me known at.now asked_ip vid)

-- a question, by what is known with the pair that is learned from it
abbrev pub learned_acts : Queries → Knowledge → Place → Mac → ℕ → ℕ → Vid → List Act
learned_acts q known at mac own_ip asked_ip vid = pair_acts q known at mac own_ip vid
    ++ known_or_asked q known at mac own_ip asked_ip vid (known_address known at.now asked_ip vid)

-- the question of a client that has one IP address for another, by what is known before it
unfoldable pub question_acts : Queries → Knowledge → Place → Mac → ℕ → ℕ → Vid → List Act
question_acts q known at mac own_ip asked_ip vid = if known.services.settings.arp_table
    then learned_acts q (with_learned at.now own_ip vid mac known) at mac own_ip asked_ip vid
    else arp_told at asked_ip Off

-- ---- packets

-- the answer to a question that came from a node, where the pair is known
abbrev pub answered_acts : Queries → Knowledge → Place → Mac → ArpMessage → Option Mac → List Act
answered_acts q known at src m None = []
answered_acts q known at src m (Some found) = table_packet q known at cache_reply_subtype src
    (arp_spelling m.sender found (answer_to m found))

-- an answer that came, where one is awaited
abbrev pub found_acts : Knowledge → Place → ArpMessage → List Act
found_acts known at m = if is_awaited known.services.asks m.sender_ip m.vid
    then arp_told at m.sender_ip (Found m.sender) else []

-- what a packet of the table brought
abbrev pub came_acts : Queries → Knowledge → Place → Mac → Option ArpCame → List Act
came_acts q known at src None = []
came_acts q known at src (Some (Puts m)) = []
came_acts q known at src (Some (Asks m)) =
    answered_acts q known at src m (known_address known at.now m.target_ip m.vid)
came_acts q known at src (Some (Tells m)) = found_acts known at m

-- a packet of the table from a node to this one, which may take no part
unfoldable pub arp_here : Queries → Knowledge → Place → Mac → Option ArpCame → List Act
arp_here q known at src came =
    if known.services.settings.arp_table then came_acts q known at src came else []

-- a packet with its sender for another node, which goes on while hops are left and a route leads
-- there
unfoldable pub passed_unicast4 :
    Queries → Knowledge → ℕ → ℕ → ℕ → Mac → Mac → ℕ → List ℕ → List Act
passed_unicast4 q known now ttl ttvn dst src subtype tail = if nat_le ttl 1 then []
    else sent_over (q.route known.routes now dst) (Unicast4 (ttl - 1) ttvn dst src subtype) tail
