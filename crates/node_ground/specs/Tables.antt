-- What one container tells a node: a translation table or a part of one, a client that roamed, or a
-- part of an offer. No public clause cites this module.
use Rattle.std.specs.Option.{option_or}
use Rattle.std.specs.Prelude.{ℕ, ◌||◌, Option, None, if◌then◌else◌}
use Rattle.mesh_base.specs.declared.client.Key.{Key}
use Rattle.mesh_model.specs.Knowledge.Served.{Offer}
use Rattle.mesh_model.specs.Packets.Bodies.{Bandwidth, TtData, TtPart, gateway_of_body, multicast_of_body, part_of_body, roaming_of_body}
use Rattle.mesh_model.specs.Packets.Containers.{Container}
use Rattle.mesh_model.specs.Packets.Contents.{table_of_body, is_of}
use Rattle.mesh_model.specs.Packets.Numbers.{dat_tvlv, gateway_tvlv, multicast_tvlv, multicast_version, roaming_tvlv, tt_part_version, tt_tvlv, tvlv_version}

-- the translation table that a container is, where it can be read
abbrev pub table_in : Container → Option TtData
table_in container =
    if is_of tt_tvlv tvlv_version container then table_of_body container.body else None

-- the part of a translation table that a container is, where it can be read
abbrev pub part_in : Container → Option TtPart
part_in container =
    if is_of tt_tvlv tt_part_version container then part_of_body container.body else None

-- the client that a container advertises, where it is an advertisement that can be read
abbrev pub client_in : Container → Option Key
client_in container =
    if is_of roaming_tvlv tvlv_version container then roaming_of_body container.body else None

-- the throughputs that a container tells, where it is a gateway's that can be read
abbrev pub gateway_in : Container → Option Bandwidth
gateway_in container = if is_of gateway_tvlv tvlv_version container
    then gateway_of_body container.body else None

-- the multicast flags that a container tells, where it has some that can be read
abbrev pub multicast_in : Container → Option ℕ
multicast_in container = if is_of multicast_tvlv multicast_version container
    then multicast_of_body container.body else None

-- what is offered by containers that offer this and one more
abbrev pub with_container : Offer → Container → Offer
with_container before container = record {
  gateway = option_or before.gateway (gateway_in container);
  arp_table = before.arp_table || is_of dat_tvlv tvlv_version container;
  multicast = option_or before.multicast (multicast_in container);
}
