-- How what is kept of routes that were told stands for the lines that told them, newest first: of
-- each node a table, by address, of the originators of which lines told, each with the next node of
-- the last one, and the live originators by which lines were told last. The main words are
-- `ToldStands` and `TableStands`.
use Rattle.std.specs.Prelude.{◌≡◌, ℕ, true, ◌++◌, List, [], ◌∷◌, filter_map, find, map, IsSome, Option, Some, None, option_and_then, if◌then◌else◌}
use Rattle.std.specs.List.{list_any}
use Rattle.std.specs.List.Sorted.{IsStrictlySortedBy}
use Rattle.std.specs.Map.{keys_of, lookup}
use Rattle.std.specs.Option.{option_flatten, option_map_or}
use Rattle.mesh_base.specs.declared.address.Mac.{Mac}
use Rattle.mesh_base.specs.declared.event.Event.{Event}
use Rattle.mesh_model.specs.declared.route.OrigRow.{OrigRow}
use Rattle.mesh_model.specs.declared.route_line.RouteLine.{RouteLine}
use Rattle.mesh_model.specs.Loops.Routes.{next_of}
use Rattle.mesh_model.specs.Net.Watching.{next_by, route_event, routed, same_next}
use Rattle.mesh_model.specs.Routes.Addresses.{mac_order, same_mac}
use Rattle.mesh_told.specs.declared.node_routes.NodeRoutes.{NodeRoutes}
use Rattle.mesh_told.specs.declared.node_routes.Seen.{Seen}
use Rattle.mesh_told.specs.declared.told_routes.ToldRoutes.{ToldRoutes}

-- ---- one node

-- originators with their next nodes
abbrev pub Table : Type 0
Table = List (Mac × Option Mac)

-- the next node on the way to an originator, by a table
abbrev pub next_in : Table → Mac → Option Mac
next_in table orig = option_flatten (lookup (same_mac orig) table)

-- the next node on the way to an originator, by the live originators of which lines told last
abbrev pub next_at : List Seen → Mac → Option Mac
next_at seen orig =
    option_and_then (λ (s : Seen). s.next) (find (λ (s : Seen). same_mac s.orig orig) seen)

-- what is kept of a live originator's row
abbrev pub seen_of : OrigRow → Seen
seen_of row = record { orig = row.orig; next = row.next }

-- a table, and the live originators of the last lines, are those of the lines of a node
pub record TableStands (node : Mac) (table : Table) (seen : List Seen) (told : List RouteLine)
    : Type 0 where
  pub rises : IsStrictlySortedBy mac_order (keys_of table)
  pub nexts : (orig : Mac) → next_in table orig ≡ next_of told orig node
  pub lasts : (orig : Mac) → next_at seen orig ≡ next_of told orig node

-- the line of an originator's route, unless the last one told the same
abbrev pub line_for : ℕ → Mac → List OrigRow → Mac → Option Mac → Option RouteLine
line_for now node rows orig told =
    if same_next (next_by rows orig) told then None
    else Some (record { moment = now; node = node; orig = orig; next = next_by rows orig })

-- the lines of all originators in a table
abbrev pub lines_in : ℕ → Mac → List OrigRow → Table → List RouteLine
lines_in now node rows table = filter_map
    (λ (entry : Mac × Option Mac). line_for now node rows entry.0 entry.1) table

-- the event of an originator's line, where one is due
abbrev pub events_for : ℕ → Mac → List OrigRow → Mac → Option Mac → List Event
events_for now node rows orig told =
    option_map_or (λ line. route_event line ∷ []) (line_for now node rows orig told) []

-- a table with further originators of which none told: each of them to which there is a route
pub record HasMet (rows : List OrigRow) (old new : Table) : Type 0 where
  pub rises : IsStrictlySortedBy mac_order (keys_of old) → IsStrictlySortedBy mac_order (keys_of new)
  pub nexts : (orig : Mac) → next_in new orig ≡ next_in old orig
  pub there : (orig : Mac) → list_any (same_mac orig) (routed rows) ≡ true
      → IsSome (lookup (same_mac orig) new)

-- a table once its routes were told
abbrev pub entries_told : List OrigRow → Table → Table
entries_told rows table = map (λ (entry : Mac × Option Mac). (entry.0, next_by rows entry.0)) table

-- events and further ones
abbrev pub Grows : List Event → List Event → Type 0
Grows old new = (more : List Event) × (new ≡ old ++ more)

-- ---- all nodes

-- the table of a node; an empty one where nothing was told
abbrev pub table_of : List (Mac × NodeRoutes) → Mac → Table
table_of tables node = option_map_or (λ (routes : NodeRoutes). routes.next.entries)
    (lookup (same_mac node) tables) []

-- the live originators of a node's last lines; none where nothing was told
abbrev pub seen_at : List (Mac × NodeRoutes) → Mac → List Seen
seen_at tables node = option_map_or (λ (routes : NodeRoutes). routes.seen.items)
    (lookup (same_mac node) tables) []

-- what is kept is that of these lines
pub record ToldStands (kept : ToldRoutes) (told : List RouteLine) : Type 0 where
  pub each : (node : Mac) →
      TableStands node (table_of kept.nodes.entries node) (seen_at kept.nodes.entries node) told
