-- Laws of the meshes that are reached: what holds of all of them is kept by happenings, by runs and
-- by what lines do between runs, and a frame that was sent stays as it is.
use Rattle.std.specs.Prelude.{◌↔◌, ◌≡◌, ℕ, ◌≤◌, ◌<◌, ◌⊎◌, List, [], ◌∷◌, ◌++◌, length, Option, Some, Ok, slice_get}
use Rattle.mesh_base.specs.declared.address.Mac.{Mac}
use Rattle.mesh_model.specs.declared.happening.Happening.{Happening}
use Rattle.mesh_model.specs.declared.route_line.RouteLine.{RouteLine}
use Rattle.mesh_model.specs.Clients.Log.{Given}
use Rattle.mesh_model.specs.Net.Mesh.{NodeLog, NetLink, SentFrame, Mesh, Setup, begun_mesh}
use Rattle.mesh_model.specs.Net.Inputs.{given_to}
use Rattle.mesh_model.specs.Net.Due.{ticks_by}
use Rattle.mesh_model.specs.Net.Limits.{scenario_setup}
use Rattle.mesh_model.specs.Net.Next.{Happens, IsNext}
use Rattle.mesh_model.specs.Net.Runs.{after_happening, delivered, run_to}
use Rattle.mesh_model.specs.Routes.Queries.{Queries}
use Rattle.mesh_laws.specs.Soundness.{FitsPlaces, IsSound, GivesItsBytes, KeepsBytes, places}

-- the mesh before the first line, whether routes are watched or not
abbrev pub EmptyIsSound : Type 0
EmptyIsSound = (watch : Option (List RouteLine)) →
    IsSound (begun_mesh watch) × KeepsBytes (begun_mesh watch)

-- the limit on frames of every scenario leaves each a place
abbrev pub ScenariosFit : Type 0
ScenariosFit = (queries : Mac → Queries) → FitsPlaces (scenario_setup queries)

-- a happening
abbrev pub HappeningsKeepSound : Type 0
HappeningsKeepSound = (setup : Setup) (t : ℕ) (mesh after : Mesh) (h : Happening) →
    FitsPlaces setup → IsSound mesh →
    IsNext t mesh h → after_happening setup h mesh ≡ Ok after → IsSound after

-- a run, also one that a limit ends
abbrev pub RunsKeepSound : Type 0
RunsKeepSound = (setup : Setup) (t : ℕ) (mesh : Mesh) → FitsPlaces setup → IsSound mesh →
    IsSound (run_to setup t mesh).mesh

-- a line that gives a node something
abbrev pub InputsKeepSound : Type 0
InputsKeepSound = (setup : Setup) (place now root : ℕ) (given : Given) (mesh after : Mesh) →
    FitsPlaces setup → IsSound mesh → ticks_by given ≡ 0 → GivesItsBytes mesh.frames given →
    given_to setup place now root given mesh ≡ Ok after → IsSound after

-- a frame that is delivered again
abbrev pub DeliveriesKeepSound : Type 0
DeliveriesKeepSound = (setup : Setup) (place now : ℕ) (mesh after : Mesh) →
    FitsPlaces setup → IsSound mesh →
    delivered setup place now mesh ≡ Ok after → IsSound after

-- a new node
abbrev pub NodesKeepSound : Type 0
NodesKeepSound = (mesh : Mesh) (node : NodeLog) → IsSound mesh →
    node.log ≡ [] → mesh.last.moment ≤ node.made → length mesh.nodes < places →
    IsSound (record mesh { nodes = mesh.nodes ++ node ∷ [] })

-- a new link
abbrev pub LinksKeepSound : Type 0
LinksKeepSound = (mesh : Mesh) (link : NetLink) → IsSound mesh → 1 ≤ link.delay →
    IsSound (record mesh { links = mesh.links ++ link ∷ [] })

-- a frame that was sent stays as it is through a run
abbrev pub FramesStay : Type 0
FramesStay = (setup : Setup) (t : ℕ) (mesh : Mesh) (place : ℕ) (frame : SentFrame) →
    slice_get mesh.frames place ≡ Some frame →
    slice_get (run_to setup t mesh).mesh.frames place ≡ Some frame

-- at every delivery of a run the frame of a number has the bytes that were sent as this number
abbrev pub RunsKeepBytes : Type 0
RunsKeepBytes = (setup : Setup) (t : ℕ) (mesh : Mesh) → KeepsBytes mesh →
    KeepsBytes (run_to setup t mesh).mesh

-- so has one that is delivered again
abbrev pub DeliveriesKeepBytes : Type 0
DeliveriesKeepBytes = (setup : Setup) (place now : ℕ) (mesh after : Mesh) → KeepsBytes mesh →
    delivered setup place now mesh ≡ Ok after → KeepsBytes after

-- and a line that gives a node something keeps them
abbrev pub InputsKeepBytes : Type 0
InputsKeepBytes = (setup : Setup) (place now root : ℕ) (given : Given) (mesh after : Mesh) →
    KeepsBytes mesh → GivesItsBytes mesh.frames given →
    given_to setup place now root given mesh ≡ Ok after → KeepsBytes after

-- what a line adds at a moment comes after that moment
abbrev pub InputsAddLater : Type 0
InputsAddLater = (setup : Setup) (place now root : ℕ) (given : Given) (mesh after : Mesh)
    (x : Happening) → IsSound mesh → GivesItsBytes mesh.frames given →
    given_to setup place now root given mesh ≡ Ok after →
    Happens after x → Happens mesh x ⊎ (now < x.moment)

-- what happens in a mesh, before or to come, happens in it behind a happening too
abbrev pub HappeningsStay : Type 0
HappeningsStay = (setup : Setup) (mesh after : Mesh) (h x : Happening) →
    after_happening setup h mesh ≡ Ok after → Happens mesh x → Happens after x

-- and behind a line that gives a node something
abbrev pub InputsLeaveToCome : Type 0
InputsLeaveToCome = (setup : Setup) (place now root : ℕ) (given : Given) (mesh after : Mesh)
    (x : Happening) → GivesItsBytes mesh.frames given →
    given_to setup place now root given mesh ≡ Ok after → Happens mesh x → Happens after x

-- a frame that is delivered again, at a moment, takes nothing away and adds what comes later
abbrev pub DeliveriesAddLater : Type 0
DeliveriesAddLater = (setup : Setup) (place now : ℕ) (mesh after : Mesh) (x : Happening) →
    IsSound mesh → delivered setup place now mesh ≡ Ok after →
    (Happens mesh x → Happens after x)
    × (Happens after x → Happens mesh x ⊎ (now < x.moment))

-- a new node adds its ticks, which come after it was made
abbrev pub NodesAddLater : Type 0
NodesAddLater = (mesh : Mesh) (node : NodeLog) (x : Happening) →
    (Happens mesh x → Happens (record mesh { nodes = mesh.nodes ++ node ∷ [] }) x)
    × (Happens (record mesh { nodes = mesh.nodes ++ node ∷ [] }) x →
    Happens mesh x ⊎ (node.made < x.moment))

-- a new link changes nothing that is to come
abbrev pub LinksChangeNothing : Type 0
LinksChangeNothing = (mesh : Mesh) (link : NetLink) (x : Happening) → IsSound mesh →
    Happens mesh x ↔ Happens (record mesh { links = mesh.links ++ link ∷ [] }) x
