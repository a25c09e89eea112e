-- Route lines of the nodes A, B and C to the originator D, and what is said of the run of such lines.
-- The main words are `route`, `routes` and `Reports`.
use Rattle.std.specs.Prelude.{◌≡◌, ℕ, List, ◌++◌, codes, Option, Some, None}
use Rattle.mesh_base.specs.declared.address.Mac.{Mac}
use Rattle.mesh_model.specs.declared.route_line.RouteLine.{RouteLine}
use Rattle.mesh_model.specs.declared.route_loop.Loop.{Loop}
use Rattle.mesh_model.specs.declared.ending.Stop.{Stop}
use Rattle.mesh_model.specs.declared.input_kind.InputKind.TheVariants.{Routes}
use Rattle.mesh_model.specs.Run.InputRun.{run_of}
use Rattle.mesh_rows.specs.Rows.{lines}
use Rattle.mesh_rows.specs.ServiceRows.{node}

-- the nodes A to D
abbrev pub node_a : Mac
node_a = node 10

abbrev pub node_b : Mac
node_b = node 11

abbrev pub node_c : Mac
node_c = node 12

abbrev pub node_d : Mac
node_d = node 13

-- at a moment a node has this route to D
abbrev pub route : ℕ → Mac → Option Mac → RouteLine
route moment from next = record { moment = moment; node = from; orig = node_d; next = next }

-- a loop of D's routes
abbrev pub loop_of : List Mac → Loop
loop_of nodes = record { orig = node_d; nodes = nodes }

-- an address by its last digit
abbrev pub at : List ℕ → List ℕ
at digit = codes " 02:00:00:00:00:0" ++ digit

-- the line of a route by its moment, and the last digits of the node, D and the next node
abbrev pub route_line : List ℕ → List ℕ → List ℕ → List ℕ
route_line moment from next =
    codes "route " ++ moment ++ at from ++ codes " 02:00:00:00:00:0d" ++ at next

-- the line of a route that is lost
abbrev pub lost_line : List ℕ → List ℕ → List ℕ
lost_line moment from = codes "route " ++ moment ++ at from ++ codes " 02:00:00:00:00:0d -"

-- a loop of D's routes that is new, by its nodes
abbrev pub new_line : List ℕ → List ℕ → List ℕ
new_line moment nodes = codes "loop " ++ moment ++ codes " 02:00:00:00:00:0d" ++ nodes

-- a loop of D's routes that is gone, by its least node
abbrev pub gone_line : List ℕ → List ℕ → List ℕ
gone_line moment least = codes "clear " ++ moment ++ codes " 02:00:00:00:00:0d" ++ at least

-- the run of these lines of routes comes to its end and prints this
abbrev pub Reports : List (List ℕ) → List (List ℕ) → Type 0
Reports texts printed = ((run_of Routes (lines texts)).halt ≡ None)
    × ((run_of Routes (lines texts)).text ≡ lines printed)

-- the run of these lines of routes prints this and halts at a line
abbrev pub ReportsUpTo : List (List ℕ) → List (List ℕ) → ℕ → Stop → Type 0
ReportsUpTo texts printed line stop =
    ((run_of Routes (lines texts)).halt ≡ Some (record { line = line; stop = stop }))
    × ((run_of Routes (lines texts)).text ≡ lines printed)
