-- The containers of a node's own originator message, in the order of their types: that of a
-- gateway, where the node is one; that of the distributed ARP table, where the node takes part in
-- it; the translation table that announces the last commit; and the multicast flags, where any is
-- set. The main word is `own_containers`.
use Rattle.std.specs.Prelude.{ℕ, ◌==◌, Bool, List, [], ◌∷◌, ◌++◌, if◌then◌else◌}
use Rattle.mesh_model.specs.Acts.Packing.{table_container}
use Rattle.mesh_model.specs.Clients.Settings.{GatewayPart, NoPart, Serves, Chooses, Settings}
use Rattle.mesh_model.specs.Packets.Bodies.{Bandwidth, TtData}
use Rattle.mesh_model.specs.Packets.BodySpellings.{gateway_spelling, multicast_spelling}
use Rattle.mesh_model.specs.Packets.Containers.{Container}
use Rattle.mesh_model.specs.Packets.Numbers.{dat_tvlv, gateway_tvlv, multicast_tvlv, multicast_version, tvlv_version}

-- the container of a node that takes part in the distributed ARP table
abbrev pub arp_table_container : Container
arp_table_container = record { kind = dat_tvlv; version = tvlv_version; body = [] }

-- the container of a gateway with these throughputs
abbrev pub gateway_container : Bandwidth → Container
gateway_container offered =
    record { kind = gateway_tvlv; version = tvlv_version; body = gateway_spelling offered }

-- the container of multicast flags
abbrev pub multicast_container : ℕ → Container
multicast_container flags = record {
  kind = multicast_tvlv;
  version = multicast_version;
  body = multicast_spelling flags;
}

-- the container of a gateway, where a node with this part is one
abbrev pub gateway_part : GatewayPart → List Container
gateway_part NoPart = []
gateway_part (Serves offered) = gateway_container offered ∷ []
gateway_part (Chooses policy) = []

-- the container of the ARP table, where a node takes part in it
abbrev pub arp_table_part : Bool → List Container
arp_table_part on = if on then arp_table_container ∷ [] else []

-- the container of multicast flags, where any is set
abbrev pub multicast_part : ℕ → List Container
multicast_part flags = if flags == 0 then [] else multicast_container flags ∷ []

-- the containers of a node's originator message with these settings and this announcement
abbrev pub own_containers : Settings → TtData → List Container
own_containers settings announcement =
    gateway_part settings.gateway ++ arp_table_part settings.arp_table
    ++ table_container announcement ∷ multicast_part settings.multicast
