-- What a node keeps for services: its settings, what each originator offered last, the gateway that
-- it chose, the pairs of the ARP table that it learned and asked for, and what it keeps of the fact
-- store. An originator message that is accepted tells by its containers what its originator offers:
-- the throughputs of a gateway, a part in the ARP table, and multicast flags. A setting of the part
-- as a gateway gives up the choice. The main words are `Services` and `offer_of`.
use Rattle.std.specs.Prelude.{ℕ, Bool, List, [], ◌∷◌, find, Option, None, option_map, if◌then◌else◌}
use Rattle.mesh_base.specs.declared.address.Mac.{Mac}
use Rattle.mesh_model.specs.Clients.Settings.{Setting, Wifi, Gateway, Multicast, ArpTable, FactStore, Pictures, LongestWhole, Settings, first_settings, set_to}
use Rattle.mesh_model.specs.Packets.Bodies.{Bandwidth}
use Rattle.mesh_model.specs.Packets.Containers.{Container}
use Rattle.mesh_model.specs.Packets.Contents.{first_gateway, first_multicast, has_dat}
use Rattle.mesh_model.specs.Routes.Addresses.{same_mac}
use Rattle.mesh_model.specs.Services.ArpTable.{Learned, PairCall}
use Rattle.mesh_model.specs.Services.Facts.{FactCall}
use Rattle.mesh_model.specs.Services.Transactions.{TxnCall}

-- what an originator offers: the throughputs of a gateway, where it is one; whether it takes part
-- in the ARP table; and its multicast flags, where it tells any
pub record Offer : Type 0 where
  pub gateway : Option Bandwidth
  pub arp_table : Bool
  pub multicast : Option ℕ

-- what an originator offered by a message that was accepted
pub record Offered : Type 0 where
  pub orig : Mac
  pub offer : Offer

-- a primary announced itself at a moment
pub record PrimaryCall : Type 0 where
  pub moment : ℕ
  pub primary : Mac

-- an open request for the facts of a type, under an id, to a primary
pub record FactRequest : Type 0 where
  pub id : ℕ
  pub primary : Mac
  pub type_no : ℕ

-- the settings; what was offered; the gateway that was chosen, if any; the pairs that were learned,
-- and those that were asked for; the primaries that announced themselves; the facts that were put or
-- came; the messages of pushes and of answers; the requests that are open; and how many ids were
-- taken. Lists are newest first
pub record Services : Type 0 where
  pub settings : Settings
  pub offers : List Offered
  pub choice : Option Mac
  pub learned : List Learned
  pub asks : List PairCall
  pub primaries : List PrimaryCall
  pub facts : List FactCall
  pub pushes : List TxnCall
  pub answers : List TxnCall
  pub requests : List FactRequest
  pub ids : ℕ

-- before anything was set or came
abbrev pub no_services : Services
no_services = record {
  settings = first_settings;
  offers = [];
  choice = None;
  learned = [];
  asks = [];
  primaries = [];
  facts = [];
  pushes = [];
  answers = [];
  requests = [];
  ids = 0;
}

-- what the containers of an originator message offer
abbrev pub offer_in : List Container → Offer
offer_in containers = record {
  gateway = first_gateway containers;
  arp_table = has_dat containers;
  multicast = first_multicast containers;
}

-- what an originator offered last
abbrev pub offer_of : List Offered → Mac → Option Offer
offer_of offers orig = option_map (λ (last : Offered). last.offer)
    (find (λ (one : Offered). same_mac one.orig orig) offers)

-- services after a message of an originator with these containers, where it is accepted
abbrev pub with_offer : Bool → Mac → List Container → Services → Services
with_offer accepted orig containers before = if accepted then record before {
  offers = record { orig = orig; offer = offer_in containers } ∷ before.offers;
} else before

-- services with a setting
abbrev pub with_setting : Setting → Services → Services
with_setting setting before = record before { settings = set_to setting before.settings }

-- services after a setting
abbrev pub after_set : Setting → Services → Services
after_set (Wifi on) before = with_setting (Wifi on) before
after_set (Gateway part) before = record (with_setting (Gateway part) before) { choice = None }
after_set (Multicast flags) before = with_setting (Multicast flags) before
after_set (ArpTable on) before = with_setting (ArpTable on) before
after_set (FactStore mode) before = with_setting (FactStore mode) before
after_set (Pictures on) before = with_setting (Pictures on) before
after_set (LongestWhole size) before = with_setting (LongestWhole size) before
