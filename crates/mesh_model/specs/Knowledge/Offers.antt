-- Who serves a node at a moment. An originator is looked at while it is live. The gateways are
-- those that offer throughputs; those to which a route leads can be chosen. A group's frame goes to
-- those to which a route leads and whose held tables name the group or whose flags want it. Rows
-- are in the order of addresses. The main words are `gateway_rows`, `group_rows` and `receivers`.
use Rattle.std.specs.Prelude.{if◌then◌else◌, ℕ, ◌&&◌, ◌||◌, Bool, false, List, filter, filter_map, map, Option, None, is_some, option_map, option_and_then}
use Rattle.std.specs.Option.{option_map_or}
use Rattle.mesh_base.specs.Ordered.{in_order}
use Rattle.mesh_base.specs.declared.address.Mac.{Mac}
use Rattle.mesh_base.specs.declared.client.Key.{Key}
use Rattle.mesh_base.specs.declared.event.Reason.TheVariants.{Gw}
use Rattle.mesh_model.specs.declared.service.GroupRow.{GroupRow}
use Rattle.mesh_model.specs.declared.service.GwRow.{GwRow}
use Rattle.mesh_model.specs.Clients.Settings.{GatewayPart, NoPart, Serves, Chooses}
use Rattle.mesh_model.specs.Commits.History.{is_commit_tick}
use Rattle.mesh_model.specs.Knowledge.Addressee.{Way, way_to}
use Rattle.mesh_model.specs.Knowledge.Known.{Knowledge, known_at}
use Rattle.mesh_model.specs.Knowledge.Served.{Offer, Offered, offer_of}
use Rattle.mesh_model.specs.Packets.Bodies.{Bandwidth}
use Rattle.mesh_model.specs.Routes.Addresses.{mac_order}
use Rattle.mesh_model.specs.Routes.Queries.{Queries}
use Rattle.mesh_model.specs.Services.Gateways.{chosen_gateway}
use Rattle.mesh_model.specs.Services.Groups.{is_wanted}
use Rattle.mesh_model.specs.Tables.Known.{names}

-- the originators that offered something, by address
abbrev pub offering : List Offered → List Mac
offering offers = in_order mac_order (map (λ (one : Offered). one.orig) offers)

-- the live ones of them at a moment
abbrev pub live_offering : Queries → Knowledge → ℕ → List Mac
live_offering q known now = filter (q.live known.routes now) (offering known.services.offers)

-- whether a route leads to an originator
abbrev pub has_route : Queries → Knowledge → ℕ → Mac → Bool
has_route q known now orig = is_some (q.route known.routes now orig)

-- ---- gateways

-- the row of a gateway with these throughputs
abbrev pub gateway_row : Queries → Knowledge → ℕ → Mac → Bandwidth → GwRow
gateway_row q known now orig offered = record {
  orig = orig;
  down = offered.download;
  up = offered.upload;
  metric = q.metric known.routes now orig;
}

-- the row of an originator, where it is a gateway
abbrev pub row_of_gateway : Queries → Knowledge → ℕ → Mac → Option GwRow
row_of_gateway q known now orig = option_map (gateway_row q known now orig)
    (option_and_then (λ (offer : Offer). offer.gateway) (offer_of known.services.offers orig))

-- the gateways at a moment
abbrev pub gateway_rows : Queries → Knowledge → ℕ → List GwRow
gateway_rows q known now = filter_map (row_of_gateway q known now) (live_offering q known now)

-- those of them that can be chosen
abbrev pub choosable_rows : Queries → Knowledge → ℕ → List GwRow
choosable_rows q known now =
    filter (λ (row : GwRow). has_route q known now row.orig) (gateway_rows q known now)

-- the gateway that a node with this part chooses at a moment, if any
abbrev pub choice_by : GatewayPart → Queries → Knowledge → ℕ → Option Mac
choice_by NoPart q known now = None
choice_by (Serves offered) q known now = None
choice_by (Chooses policy) q known now =
    chosen_gateway policy known.services.choice (choosable_rows q known now)

-- what is known after a tick of an index, at which a gateway is chosen where a commit is looked for
abbrev pub after_choice : Queries → ℕ → ℕ → Knowledge → Knowledge
after_choice q now index known = if is_commit_tick index then record known {
  services = record known.services {
    choice = choice_by known.services.settings.gateway q known now;
  };
} else known

-- the way to the chosen gateway, where a route leads to it
abbrev pub gateway_way : Queries → Knowledge → ℕ → Option Way
gateway_way q known now =
    option_and_then (way_to q known now Gw) known.services.choice

-- ---- groups

-- the row of an originator, where it tells multicast flags
abbrev pub row_of_groups : Knowledge → Mac → Option GroupRow
row_of_groups known orig = option_map (λ flags. record { orig = orig; flags = flags })
    (option_and_then (λ (offer : Offer). offer.multicast) (offer_of known.services.offers orig))

-- the originators that tell multicast flags, at a moment
abbrev pub group_rows : Queries → Knowledge → ℕ → List GroupRow
group_rows q known now = filter_map (row_of_groups known) (live_offering q known now)

-- whether the flags of an originator want a group
abbrev pub wants_group : Knowledge → Mac → Mac → Bool
wants_group known group orig = option_map_or
    (λ (row : GroupRow). is_wanted group row.flags) (row_of_groups known orig) false

-- whether an originator receives the frames of a group at a moment
abbrev pub is_receiver : Queries → Knowledge → ℕ → Key → Mac → Bool
is_receiver q known now key orig = has_route q known now orig
    && (names key (known_at q known now orig).held || wants_group known key.mac orig)

-- the originators that receive the frames of a group at a moment
abbrev pub receivers : Queries → Knowledge → ℕ → Key → List Mac
receivers q known now key =
    filter (is_receiver q known now key) (live_offering q known now)
