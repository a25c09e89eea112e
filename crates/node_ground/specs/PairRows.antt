-- Which originators may keep pairs of the distributed ARP table, by what each offered last, if
-- anything, and which of a pair's candidates are other nodes. No public clause cites this module.
use Rattle.std.specs.Prelude.{ℕ, ◌&&◌, Option, Some, None, option_and_then, false, if◌then◌else◌}
use Rattle.std.specs.Option.{option_map_or}
use Rattle.mesh_base.specs.declared.address.Mac.{Mac}
use Rattle.mesh_model.specs.Knowledge.Known.{Knowledge}
use Rattle.mesh_model.specs.Knowledge.Offers.{has_route}
use Rattle.mesh_model.specs.Knowledge.Served.{Offer}
use Rattle.mesh_model.specs.Routes.Addresses.{same_mac}
use Rattle.mesh_model.specs.Routes.Queries.{Queries}

-- an originator, where it is live, a route leads to it, and it takes part in the table
abbrev pub keeper_of : Queries → Knowledge → ℕ → Mac → Option Offer → Option Mac
keeper_of q known now orig offer = if q.live known.routes now orig
    then (if has_route q known now orig && option_map_or (λ (o : Offer). o.arp_table) offer false
    then Some orig else None) else None

-- a node, where it is another than this one
abbrev pub unless_me : Mac → Mac → Option Mac
unless_me me node = if same_mac node me then None else Some node

-- the node that a candidate is, if any, where it is another than this one
abbrev pub other_than : Mac → Option Mac → Option Mac
other_than me candidate = option_and_then (unless_me me) candidate
