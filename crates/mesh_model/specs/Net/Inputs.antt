-- A node is given something: its acts are carried out, and it notes the input with them in its log.
-- A limit of the node is passed where it is looked at: behind the acts that come before it, one of
-- which may pass another. Several nodes may be given the same, one after another. The main words
-- are `given_to` and `all_given`.
use Rattle.std.specs.Prelude.{ℕ, zero, suc, List, [], ◌∷◌, slice_get, Option, Some, None, Ok, Err}
use Rattle.mesh_model.specs.Acts.NodeLimits.{NodeLimit}
use Rattle.mesh_model.specs.Clients.Log.{Given, LogEntry}
use Rattle.mesh_model.specs.Net.Mesh.{NodeLog, Mesh, Setup}
use Rattle.mesh_model.specs.Net.Sending.{Attempt, on_ok, Actor, after_acts}

-- a node that notes an entry
abbrev pub noting : LogEntry → NodeLog → NodeLog
noting entry node = record node { log = entry ∷ node.log }

-- the nodes, of which the one at a place notes an entry
abbrev pub noted_at : ℕ → LogEntry → List NodeLog → List NodeLog
noted_at place entry [] = []
noted_at zero entry (node ∷ rest) = noting entry node ∷ rest
noted_at (suc place) entry (node ∷ rest) = node ∷ noted_at place entry rest

-- the mesh, of which the node at a place notes an entry
abbrev pub noted : ℕ → LogEntry → Mesh → Attempt
noted place entry mesh = Ok (record mesh { nodes = noted_at place entry mesh.nodes })

-- the mesh after a node's acts, and with its entry
abbrev pub after_entry : Setup → Actor → LogEntry → Mesh → Attempt
after_entry setup actor entry mesh =
    on_ok (noted actor.place entry) (after_acts setup actor entry.acts mesh)

-- the entry of an input at a node
abbrev pub entry_of : Setup → NodeLog → ℕ → Given → LogEntry
entry_of setup node now given =
    record { moment = now; given = given; acts = setup.acts node.mac node.log now given }

-- a step of a node, unless its input passes a limit
abbrev pub unless_passed : Setup → Actor → Mesh → Option NodeLimit → Attempt → Attempt
unless_passed setup actor mesh None step = step
unless_passed setup actor mesh (Some passed) step =
    on_ok (λ after. Err passed.limit) (after_acts setup actor passed.acts mesh)

-- the mesh after the node that stands at a place is given something
abbrev pub given_node : Setup → ℕ → ℕ → ℕ → Given → Option NodeLog → Mesh → Attempt
given_node setup place now root given None mesh = Ok mesh
given_node setup place now root given (Some node) mesh =
    let actor : Actor = record { place = place; mac = node.mac; now = now; root = root } in
    unless_passed setup actor mesh (setup.node_limit node.mac node.log now given)
    (after_entry setup actor (entry_of setup node now given) mesh)

-- the mesh after the node at a place is given something at a moment; what it sends has this root
abbrev pub given_to : Setup → ℕ → ℕ → ℕ → Given → Mesh → Attempt
given_to setup place now root given mesh =
    given_node setup place now root given (slice_get mesh.nodes place) mesh

-- the mesh after the nodes at these places are given the same at a moment, one after another
abbrev pub all_given : Setup → List ℕ → ℕ → Given → Mesh → Attempt
all_given setup [] now given mesh = Ok mesh
all_given setup (place ∷ rest) now given mesh =
    on_ok (all_given setup rest now given) (given_to setup place now 0 given mesh)
