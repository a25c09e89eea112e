-- A node A with what it knows of routes, and a LAN of the first and the third node. The main words are
-- `row_to` and `lan_mesh`.
use Rattle.std.specs.Prelude.{ℕ, [], ◌∷◌, Option, Some}
use Rattle.mesh_base.specs.declared.address.Mac.{Mac}
use Rattle.mesh_model.specs.declared.route.OrigRow.{OrigRow}
use Rattle.mesh_model.specs.declared.route_line.RouteLine.{RouteLine}
use Rattle.mesh_model.specs.Net.Mesh.{Mesh, empty_mesh}
use Rattle.mesh_rows.specs.LoopRows.{node_a}

-- a live originator with this next node
abbrev pub row_to : Mac → Option Mac → OrigRow
row_to orig next = record { orig = orig; seq = 1; seen = 0; next = next; metric = 1 }

-- at a moment A has this route to an originator
abbrev pub route_to : ℕ → Mac → Option Mac → RouteLine
route_to moment orig next = record { moment = moment; node = node_a; orig = orig; next = next }

-- a mesh with a LAN, on which the third node put a frame
abbrev pub lan_mesh : Mesh
lan_mesh = record empty_mesh {
  lans = record { name = []; gateways = 0 ∷ 2 ∷ [] } ∷ [];
  puts = record { lan = 0; moment = 5; bytes = []; by = Some 2 } ∷ [];
}
