-- How what is kept of offers stands for all that originators offered: the addresses are in order,
-- and beside each is what it offered last. The main word is `OffersStand`.
use Rattle.std.specs.Prelude.{◌≡◌, List, option_map}
use Rattle.std.specs.Map.{keys_of, lookup}
use Rattle.mesh_base.specs.declared.address.Mac.{Mac}
use Rattle.mesh_model.specs.Knowledge.Offers.{offering}
use Rattle.mesh_model.specs.Knowledge.Served.{Offer, Offered, offer_of}
use Rattle.mesh_model.specs.Packets.Bodies.{Bandwidth}
use Rattle.mesh_model.specs.Routes.Addresses.{same_mac}
use Rattle.mesh_serv.specs.declared.offers.Bandwidth as kept_bandwidth
use Rattle.mesh_serv.specs.declared.offers.Offer as kept_offer

-- throughputs, as the definitions see them
abbrev pub bandwidth : kept_bandwidth.Bandwidth → Bandwidth
bandwidth speeds = record { download = speeds.download; upload = speeds.upload }

-- an offer, as the definitions see it
abbrev pub offered : kept_offer.Offer → Offer
offered offer = record {
  gateway = option_map bandwidth offer.gateway;
  arp_table = offer.arp_table;
  multicast = offer.multicast;
}

-- what is kept is that of what was offered
pub record OffersStand (kept : List (Mac × kept_offer.Offer)) (offers : List Offered) : Type 0 where
  -- the addresses are those that offered something, in order
  pub addresses : keys_of kept ≡ offering offers
  -- beside each is what it offered last
  pub last : (orig : Mac) →
      option_map offered (lookup (same_mac orig) kept) ≡ offer_of offers orig
