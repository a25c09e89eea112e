-- The picture that a node gives of itself at a moment, as a fact of type 1: the neighbours and
-- clients by which others draw the network. A neighbour is a live originator to which the best
-- route leads without another node between; the first 16 by address count, each with its metric.
-- Of the clients the first 128 of the last commit count. So a picture has at most 1,186 bytes. The
-- main words are `own_picture` and `picture_fact`.
use Rattle.std.specs.Prelude.{ℕ, List, take, map, filter_map, Option, Some, None, if◌then◌else◌}
use Rattle.mesh_base.specs.declared.address.Mac.{Mac}
use Rattle.mesh_base.specs.declared.client.Entry.{Entry}
use Rattle.mesh_base.specs.declared.client.Key.{Key}
use Rattle.mesh_model.specs.declared.route.OrigRow.{OrigRow}
use Rattle.mesh_model.specs.declared.service.Fact.{Fact}
use Rattle.mesh_model.specs.Packets.Pictures.{Picture, picture_spelling}
use Rattle.mesh_model.specs.Routes.BestRoute.{is_over}
use Rattle.mesh_model.specs.Routes.Queries.{Queries}
use Rattle.mesh_model.specs.Routes.RouteLog.{RouteLog}

-- the type of a picture among facts
abbrev pub picture_type : ℕ
picture_type = 1

-- the version of a picture among facts
abbrev pub picture_version : ℕ
picture_version = 1

-- the most neighbours of a picture
abbrev pub most_neighbours : ℕ
most_neighbours = 16

-- the most clients of a picture
abbrev pub most_clients : ℕ
most_clients = 128

-- an originator with its metric, where the best route to it leads straight there
abbrev pub if_neighbour : OrigRow → Option (Mac × ℕ)
if_neighbour row = if is_over row.orig row.next then Some (row.orig, row.metric) else None

-- the neighbours at a moment, each with its metric, in the order of their addresses
abbrev pub neighbours_at : Queries → RouteLog → ℕ → List (Mac × ℕ)
neighbours_at q routes now = filter_map if_neighbour (q.originators routes now)

-- the clients of a table, in key order
abbrev pub clients_in : List Entry → List Key
clients_in table = map (λ (entry : Entry). entry.key) table

-- the picture that a node gives of itself at a moment, whose last commit has this table
abbrev pub own_picture : Queries → RouteLog → ℕ → List Entry → Picture
own_picture q routes now table = record {
  neighbours = take most_neighbours (neighbours_at q routes now);
  clients = take most_clients (clients_in table);
}

-- the picture of a node as a fact
abbrev pub picture_fact : Mac → Picture → Fact
picture_fact me picture = record {
  source = me;
  type_no = picture_type;
  version = picture_version;
  bytes = picture_spelling picture;
}
