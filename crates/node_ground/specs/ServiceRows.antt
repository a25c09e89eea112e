-- What a node makes of one originator by what it offered last, if anything. No public clause cites
-- this module.
use Rattle.std.specs.Prelude.{ℕ, ◌&&◌, ◌||◌, Bool, Option, Some, None, option_map, option_and_then, false, if◌then◌else◌}
use Rattle.std.specs.Option.{option_map_or}
use Rattle.mesh_base.specs.declared.address.Mac.{Mac}
use Rattle.mesh_base.specs.declared.client.Key.{Key}
use Rattle.mesh_model.specs.declared.service.GroupRow.{GroupRow}
use Rattle.mesh_model.specs.declared.service.GwRow.{GwRow}
use Rattle.mesh_model.specs.Knowledge.Known.{Knowledge}
use Rattle.mesh_model.specs.Knowledge.Offers.{gateway_row, has_route}
use Rattle.mesh_model.specs.Knowledge.Served.{Offer}
use Rattle.mesh_model.specs.Routes.Queries.{Queries}
use Rattle.mesh_model.specs.Services.Groups.{is_wanted}
use Rattle.mesh_model.specs.Tables.Known.{known_by, names}

-- the row of an originator, where it is live and a gateway
abbrev pub gateway_of : Queries → Knowledge → ℕ → Mac → Option Offer → Option GwRow
gateway_of q known now orig offer = if q.live known.routes now orig
    then option_map (gateway_row q known now orig)
    (option_and_then (λ (o : Offer). o.gateway) offer) else None

-- the row of an originator, where it can be chosen
abbrev pub choosable_of : Queries → Knowledge → ℕ → Mac → Option Offer → Option GwRow
choosable_of q known now orig offer =
    if has_route q known now orig then gateway_of q known now orig offer else None

-- the row of an originator, where it is live and tells multicast flags
abbrev pub group_of : Queries → Knowledge → ℕ → Mac → Option Offer → Option GroupRow
group_of q known now orig offer = if q.live known.routes now orig
    then option_map (λ flags. record { orig = orig; flags = flags })
    (option_and_then (λ (o : Offer). o.multicast) offer) else None

-- whether the flags that an originator tells, if any, want a group
abbrev pub wants_by : Mac → Option Offer → Bool
wants_by group offer = option_map_or (λ flags. is_wanted group flags)
    (option_and_then (λ (o : Offer). o.multicast) offer) false

-- an originator, where it is live and receives the frames of a group
abbrev pub receiver_of : Queries → Knowledge → ℕ → Key → Mac → Option Offer → Option Mac
receiver_of q known now key orig offer = if q.live known.routes now orig
    then (if has_route q known now orig
    && (names key (known_by known.tables orig).held || wants_by key.mac offer)
    then Some orig else None) else None
