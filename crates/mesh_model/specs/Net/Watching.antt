-- The watch of routes. Where the routes of a mesh are watched, each happening ends with lines of the
-- nodes that took it: the receiver of a link frame, all gateways of the LAN of a LAN frame in the
-- order of the nodes, or the node that ticked. Of such a node a line is told for each originator,
-- by address, whose next node isn't the one that the last line told of this node and originator;
-- before a first line there is none. So a route that ended by silence is told at the node's next
-- happening. The main word is `lines_told`.
use Rattle.std.specs.Prelude.{ℕ, ◌++◌, Bool, true, false, List, [], ◌∷◌, filter, filter_map, find, map, reverse, slice_get, Option, Some, None, is_some, option_and_then, option_map, if◌then◌else◌}
use Rattle.std.specs.Option.{option_map_or}
use Rattle.mesh_base.specs.Ordered.{in_order}
use Rattle.mesh_base.specs.declared.address.Mac.{Mac}
use Rattle.mesh_base.specs.declared.event.Event.{Event}
use Rattle.mesh_base.specs.declared.event.Event.TheVariants.{Route}
use Rattle.mesh_model.specs.declared.happening.Class.{Class}
use Rattle.mesh_model.specs.declared.happening.Class.TheVariants.{LinkDelivery, LanDelivery, NodeTick}
use Rattle.mesh_model.specs.declared.happening.Happening.{Happening}
use Rattle.mesh_model.specs.declared.route.OrigRow.{OrigRow}
use Rattle.mesh_model.specs.declared.route_line.RouteLine.{RouteLine}
use Rattle.mesh_model.specs.Loops.Routes.{next_of}
use Rattle.mesh_model.specs.Net.Lans.{gateways_at}
use Rattle.mesh_model.specs.Net.Mesh.{NodeLog, NetLink, SentFrame, LanPut, Mesh, Setup}
use Rattle.mesh_model.specs.Routes.Addresses.{mac_order, same_mac}

-- ---- the routes of one node

-- whether a row is that of an originator
abbrev pub is_row_of : Mac → OrigRow → Bool
is_row_of orig row = same_mac row.orig orig

-- the next node on the way to an originator, by the rows of the live ones
abbrev pub next_by : List OrigRow → Mac → Option Mac
next_by rows orig = option_and_then (λ (row : OrigRow). row.next) (find (is_row_of orig) rows)

-- the live originators to which there is a route
abbrev pub routed : List OrigRow → List Mac
routed rows =
    map (λ (row : OrigRow). row.orig) (filter (λ (row : OrigRow). is_some row.next) rows)

-- the originators of which lines told at a node
abbrev pub told_of : Mac → List RouteLine → List Mac
told_of node told = map (λ (line : RouteLine). line.orig)
    (filter (λ (line : RouteLine). same_mac line.node node) told)

-- both, by address, each once
abbrev pub looked_at : Mac → List OrigRow → List RouteLine → List Mac
looked_at node rows told = in_order mac_order (routed rows ++ told_of node told)

-- whether two next nodes are one, or there is neither
abbrev pub same_next : Option Mac → Option Mac → Bool
same_next None None = true
same_next None (Some b) = false
same_next (Some a) None = false
same_next (Some a) (Some b) = same_mac a b

-- the line of the route to an originator, unless the last one told the same
abbrev pub line_due : ℕ → Mac → List OrigRow → List RouteLine → Mac → Option RouteLine
line_due now node rows told orig =
    if same_next (next_by rows orig) (next_of told orig node) then None
    else Some (record { moment = now; node = node; orig = orig; next = next_by rows orig })

-- the lines of a node with these rows
abbrev pub lines_due : ℕ → Mac → List OrigRow → List RouteLine → List RouteLine
lines_due now node rows told =
    filter_map (line_due now node rows told) (looked_at node rows told)

-- ---- the nodes of a happening

-- the places of the nodes that take what happens of this class at a place
abbrev pub takers_of : Class → ℕ → Mesh → List ℕ
takers_of LinkDelivery place mesh = option_map_or (λ (link : NetLink). link.to ∷ [])
    (option_and_then (λ (frame : SentFrame). slice_get mesh.links frame.link)
    (slice_get mesh.frames place)) []
takers_of LanDelivery place mesh =
    option_map_or (λ (put : LanPut). gateways_at put.lan mesh.lans) (slice_get mesh.puts place) []
takers_of NodeTick place mesh = place ∷ []

-- the places of the nodes that take a happening
abbrev pub takers : Happening → Mesh → List ℕ
takers h mesh = takers_of h.class h.place mesh

-- lines behind others, newest first
abbrev pub told_with : List RouteLine → List RouteLine → List RouteLine
told_with told more = reverse more ++ told

-- the lines of the node that stands at a place
abbrev pub lines_of_node : Setup → ℕ → List RouteLine → Option NodeLog → List RouteLine
lines_of_node setup now told None = []
lines_of_node setup now told (Some node) =
    lines_due now node.mac (setup.originators node.mac node.log now) told

-- the lines of the nodes at these places, one after another
abbrev pub lines_at : Setup → ℕ → List NodeLog → List RouteLine → List ℕ → List RouteLine
lines_at setup now nodes told [] = []
lines_at setup now nodes told (place ∷ rest) =
    lines_of_node setup now told (slice_get nodes place)
    ++ lines_at setup now nodes
    (told_with told (lines_of_node setup now told (slice_get nodes place))) rest

-- the lines that are told at the end of a happening, by what is watched
abbrev pub lines_watched : Setup → Happening → Mesh → Option (List RouteLine) → List RouteLine
lines_watched setup h mesh None = []
lines_watched setup h mesh (Some told) =
    lines_at setup h.moment mesh.nodes told (takers h mesh)

-- the lines that are told at the end of a happening
abbrev pub lines_told : Setup → Happening → Mesh → List RouteLine
lines_told setup h mesh = lines_watched setup h mesh mesh.watch

-- the event of a line of a route
abbrev pub route_event : RouteLine → Event
route_event line = Route line.moment line.node line.orig line.next

-- the mesh once these lines are told
abbrev pub with_lines : List RouteLine → Mesh → Mesh
with_lines lines mesh = record mesh {
  events = mesh.events ++ map route_event lines;
  watch = option_map (λ told. told_with told lines) mesh.watch;
}
