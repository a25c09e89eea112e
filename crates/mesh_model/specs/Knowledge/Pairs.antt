-- What a node knows of the distributed ARP table. Those that keep a pair are its candidates among
-- the node itself and the live originators that take part, to which a route leads. A line's
-- question is learned from, and sent to the others that keep the pair where the node doesn't know
-- it; a pair that is put or told is learned. The main words are `pair_keepers`, `after_question`
-- and `after_arp`.
use Rattle.std.specs.Prelude.{ℕ, ◌&&◌, nat_lt, Bool, false, not, List, ◌∷◌, filter, length, Option, Some, None, is_none, if◌then◌else◌}
use Rattle.std.specs.Option.{option_map_or}
use Rattle.mesh_base.specs.declared.address.Mac.{Mac}
use Rattle.mesh_base.specs.declared.client.Vid.{Vid}
use Rattle.mesh_model.specs.Knowledge.Known.{Knowledge}
use Rattle.mesh_model.specs.Knowledge.Offers.{has_route, live_offering}
use Rattle.mesh_model.specs.Knowledge.Served.{Offer, offer_of}
use Rattle.mesh_model.specs.Packets.ArpMessages.{ArpCame, Puts, Asks, Tells}
use Rattle.mesh_model.specs.Routes.Addresses.{same_mac}
use Rattle.mesh_model.specs.Routes.Queries.{Queries}
use Rattle.mesh_model.specs.Services.ArpTable.{PairCall, AskedFor, ToldOf, candidates_of, pair_address}

-- ---- who keeps a pair

-- whether an originator takes part in the table
abbrev pub takes_part : Knowledge → Mac → Bool
takes_part known orig =
    option_map_or (λ (offer : Offer). offer.arp_table) (offer_of known.services.offers orig) false

-- the nodes among which those are that keep a pair
abbrev pub pair_nodes : Queries → Mac → Knowledge → ℕ → List Mac
pair_nodes q me known now = me
    ∷ filter (λ orig. has_route q known now orig && takes_part known orig)
    (live_offering q known now)

-- the other nodes that keep a pair, the nearest first
abbrev pub pair_keepers : Queries → Mac → Knowledge → ℕ → ℕ → Vid → List Mac
pair_keepers q me known now ip vid = filter (λ mac. not (same_mac mac me))
    (candidates_of ip vid (pair_nodes q me known now))

-- ---- what is learned

-- what is known once a pair was learned
abbrev pub with_learned : ℕ → ℕ → Vid → Mac → Knowledge → Knowledge
with_learned now ip vid mac known = record known {
  services = record known.services {
    learned = record { moment = now; ip = ip; vid = vid; mac = mac } ∷ known.services.learned;
  };
}

-- what is known once a pair was asked for or told
abbrev pub with_ask : PairCall → Knowledge → Knowledge
with_ask call known = record known {
  services = record known.services { asks = call ∷ known.services.asks };
}

-- what a node knows of a pair
abbrev pub known_address : Knowledge → ℕ → ℕ → Vid → Option Mac
known_address known now ip vid = pair_address known.services.learned now ip vid

-- whether other nodes are asked for a pair: it isn't known, and others keep it
abbrev pub is_asked : Queries → Mac → Knowledge → ℕ → ℕ → Vid → Bool
is_asked q me known now ip vid = is_none (known_address known now ip vid)
    && nat_lt 0 (length (pair_keepers q me known now ip vid))

-- what is known after a question for a pair, of which other nodes may be asked
abbrev pub after_asking : Queries → Mac → ℕ → ℕ → Vid → Knowledge → Knowledge
after_asking q me now ip vid known =
    if is_asked q me known now ip vid then with_ask (AskedFor ip vid) known else known

-- what is known after the question of a client that has one IP address for another
abbrev pub after_question : Queries → Mac → ℕ → Mac → ℕ → ℕ → Vid → Knowledge → Knowledge
after_question q me now mac own_ip asked_ip vid known = if known.services.settings.arp_table
    then after_asking q me now asked_ip vid (with_learned now own_ip vid mac known) else known

-- what is known after a packet of the table, where it brings something
abbrev pub after_came : ℕ → Option ArpCame → Knowledge → Knowledge
after_came now None known = known
after_came now (Some (Puts m)) known = with_learned now m.sender_ip m.vid m.sender known
after_came now (Some (Asks m)) known = known
after_came now (Some (Tells m)) known = with_ask (ToldOf m.sender_ip m.vid)
    (with_learned now m.sender_ip m.vid m.sender known)

-- the same at a node that may take no part
abbrev pub after_arp : ℕ → Option ArpCame → Knowledge → Knowledge
after_arp now came known =
    if known.services.settings.arp_table then after_came now came known else known
