-- Pictures that are written out. The main words are `with_rows`, `pictured` and `lone_picture`.
use Rattle.std.specs.Prelude.{ℕ, List, [], ◌∷◌, Option}
use Rattle.mesh_base.specs.declared.address.Mac.{Mac}
use Rattle.mesh_base.specs.declared.client.Entry.{Entry}
use Rattle.mesh_base.specs.declared.client.Key.{Key}
use Rattle.mesh_model.specs.declared.route.OrigRow.{OrigRow}
use Rattle.mesh_model.specs.declared.service.Fact.{Fact}
use Rattle.mesh_model.specs.Packets.Pictures.{Picture}
use Rattle.mesh_model.specs.Routes.AlgorithmIv.{iv_queries}
use Rattle.mesh_model.specs.Routes.Queries.{Queries}
use Rattle.mesh_model.specs.Services.Pictures.{picture_fact}
use Rattle.mesh_rows.specs.ServiceRows.{client, node}

-- an algorithm by which these originators are live
abbrev pub with_rows : List OrigRow → Queries
with_rows rows = record (iv_queries (node 10)) { originators = λ routes now. rows }

-- an originator with a metric, to which the best route leads over a neighbour
abbrev pub row : ℕ → Option Mac → ℕ → OrigRow
row last next metric =
    record { orig = node last; seq = 1; seen = 0; next = next; metric = metric }

-- a client with flags
abbrev pub entry : Entry
entry = record { key = client; flags = 16 }

-- a picture without neighbours, of the client alone
abbrev pub lone_picture : Picture
lone_picture = record { neighbours = []; clients = client ∷ [] }

-- the fact of a node with these neighbours and clients
abbrev pub pictured : ℕ → List (Mac × ℕ) → List Key → Fact
pictured last neighbours clients =
    picture_fact (node last) (record { neighbours = neighbours; clients = clients })
