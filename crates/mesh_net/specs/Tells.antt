-- What the calls of a net tell: what a step or a run leaves in the log of events, how far a run
-- came, that all gateways of a LAN have the same claims, that what is told of tables is right, and
-- what each refusal means. The main words are `Ran`, `TellsRightly` and `RunTells`.
use Rattle.std.specs.Prelude.{◌≡◌, ℕ, ◌<◌, ◌≤◌, ◌⊎◌, Bool, true, false, List, ◌++◌, filter, length, Some, Ok, Err, ⊤}
use Rattle.std.specs.Fn.{iterate}
use Rattle.mesh_base.specs.declared.address.Mac.{Mac}
use Rattle.mesh_base.specs.declared.event.Event.{Event}
use Rattle.mesh_model.specs.declared.ending.LimitName.{LimitName}
use Rattle.mesh_model.specs.declared.ending.LimitName.TheVariants.{Nodes, Links, Lans, Clock}
use Rattle.mesh_model.specs.declared.frame_choice.FrameChoice.{FrameChoice}
use Rattle.mesh_model.specs.Net.Mesh.{NetLink, Mesh, Setup}
use Rattle.mesh_model.specs.Net.Sending.{Attempt}
use Rattle.mesh_model.specs.Net.Runs.{begin, turn, going_on, run_to}
use Rattle.mesh_model.specs.Net.Next.{IsQuiet}
use Rattle.mesh_model.specs.Net.Lans.{joins_lan}
use Rattle.mesh_model.specs.Net.Limits.{nodes_limit, links_limit, lans_limit, clock_limit, scenario_setup}
use Rattle.mesh_model.specs.Routes.Queries.{Queries}
use Rattle.mesh_model.specs.Routes.RouteLog.{RouteLog}
use Rattle.mesh_model.specs.Run.Passing.{events_since}
use Rattle.mesh_model.specs.Run.Steps.{new_node}
use Rattle.mesh_model.specs.Text.Events.{is_shown}
use Rattle.mesh_laws.specs.GatewayLaws.{LansStand}
use Rattle.mesh_tie.specs.CutPackets.{PacketsWereCut}
use Rattle.mesh_tie.specs.NetTables.{GainsAreRight, SayingsAreRight, TablesAreRight}
use Rattle.mesh_tie.specs.ShownPictures.{PicturesAreRight}
use Rattle.mesh_tie.specs.Steps.{IsReachable}
use Rattle.mesh_tie.specs.TieLaws.{AllKeep}
use Rattle.mesh_net.specs.declared.failure.NetErr.{NetErr}
use Rattle.mesh_net.specs.declared.failure.NetErr.TheVariants.{Limit, Dead, Memory}
use Rattle.mesh_net.specs.declared.net.Net.{Net}
use Rattle.mesh_net.specs.NetStands.{NetStands}
use Rattle.mesh_post.specs.Joining.{with_node, with_link}

-- a log that gained the events that a mesh has and an earlier one hadn't, as far as the choice
-- shows them
abbrev pub Gains : FrameChoice → Mesh → Mesh → List Event → List Event → Type 0
Gains choice before after old new =
    new ≡ old ++ filter (is_shown choice) (events_since before after)

-- a net stands for the mesh after a step
pub record StandsAfter {A : Type 0} (queries : Mac → Queries)
    (stands : A → Mac → RouteLog → Type 0) (net : Net A) (choice : FrameChoice) (clock : ℕ)
    (attempt : Attempt) : Type 0 where
  pub after : Mesh
  pub is : attempt ≡ Ok after
  pub standing : NetStands queries stands net choice clock after

-- a step at the clock was carried out: what the net stands for then, and what the log gained
pub record Carried {A : Type 0} (queries : Mac → Queries) (stands : A → Mac → RouteLog → Type 0)
    (net : Net A) (choice : FrameChoice) (clock : ℕ) (before : Mesh) (old new : List Event)
    (attempt : Attempt) : Type 0 where
  pub after : Mesh
  pub is : attempt ≡ Ok after
  pub standing : NetStands queries stands net choice clock after
  pub gains : Gains choice before after old new

-- what is told between two meshes is right: steps reach the mesh behind; what its messages and its
-- answers say is right, as are its tables, and the events that the log gained: each frame that was
-- sent by table is for a client that the addressee's commit names, as its sender was told last when
-- it sent the frame. Where an event told of an alias of an originator, this says nothing of it. And
-- each packet that a node put together is one that the originator of its fragments cut, and each
-- picture that a node keeps, that was sent or came is that of its source at one of its rounds
pub record IsToldRightly (queries : Mac → Queries) (before after : Mesh) (old new : List Event)
    : Type 0 where
  pub reachable : IsReachable queries after
  pub sayings : SayingsAreRight after
  pub tables : TablesAreRight queries after
  pub events : GainsAreRight queries before after old new
  pub packets : PacketsWereCut queries after
  pub pictures : PicturesAreRight queries after

-- the LANs of the mesh behind a call stand, with gateways that have the same claims; and where the
-- algorithm keeps originator messages their originators', steps reach the mesh before, and what the
-- call brings can be told, so what is told of tables is right
pub record TellsRightly (queries : Mac → Queries) (brings : Type 0) (before after : Mesh)
    (old new : List Event) : Type 0 where
  pub lans : LansStand after
  pub told : AllKeep queries → IsReachable queries before → brings →
      IsToldRightly queries before after old new

-- why a step at the clock is refused
abbrev pub StepTells : Attempt → NetErr → Type 0
StepTells attempt (Limit limit) = attempt ≡ Err limit
StepTells attempt Dead = ⊥
StepTells attempt Memory = Unit

-- a node joined at a place, whatever its name is
pub record HasJoined {A : Type 0} (queries : Mac → Queries) (stands : A → Mac → RouteLog → Type 0)
    (net : Net A) (choice : FrameChoice) (clock : ℕ) (before : Mesh) (mac : Mac) (place : ℕ)
    : Type 0 where
  pub place_is : place ≡ length before.nodes
  pub room : length before.nodes < nodes_limit
  pub standing : (name : List ℕ)
      → NetStands queries stands net choice clock (with_node (new_node name mac clock) before)

-- a link joined
pub record HasLinked {A : Type 0} (queries : Mac → Queries) (stands : A → Mac → RouteLog → Type 0)
    (net : Net A) (choice : FrameChoice) (clock : ℕ) (before : Mesh) (link : NetLink)
    : Type 0 where
  pub room : length before.links < links_limit
  pub standing : NetStands queries stands net choice clock (with_link link before)

-- a LAN joined at a place, with gateways at these places, whatever its name is
pub record HasJoinedLan {A : Type 0} (queries : Mac → Queries)
    (stands : A → Mac → RouteLog → Type 0) (net : Net A) (choice : FrameChoice) (clock : ℕ)
    (before : Mesh) (gateways : List ℕ) (place : ℕ) : Type 0 where
  pub place_is : place ≡ length before.lans
  pub room : length before.lans < lans_limit
  pub joined : (name : List ℕ)
      → StandsAfter queries stands net choice clock
      (joins_lan (scenario_setup queries) name gateways clock before)

-- why a LAN doesn't join so many
abbrev pub LanTells : ℕ → NetErr → Type 0
LanTells count (Limit limit) = (limit ≡ Lans) × (lans_limit ≤ count)
LanTells count Dead = ⊥
LanTells count Memory = count < lans_limit

-- why a node doesn't join so many
abbrev pub NodeTells : ℕ → NetErr → Type 0
NodeTells count (Limit limit) = (limit ≡ Nodes) × (nodes_limit ≤ count)
NodeTells count Dead = ⊥
NodeTells count Memory = count < nodes_limit

-- why a link doesn't join so many
abbrev pub LinkTells : ℕ → NetErr → Type 0
LinkTells count (Limit limit) = (limit ≡ Links) × (links_limit ≤ count)
LinkTells count Dead = ⊥
LinkTells count Memory = count < links_limit

-- a run until a moment went on: how many happenings were carried out, at most so many; the mesh and
-- the clock behind them; and whether more are due
pub record Ran {A : Type 0} (queries : Mac → Queries) (stands : A → Mac → RouteLog → Type 0)
    (setup : Setup) (net : Net A) (choice : FrameChoice) (clock : ℕ) (before : Mesh) (t most : ℕ)
    (old new : List Event) (more : Bool) : Type 0 where
  pub after : Mesh
  pub now : ℕ
  pub standing : NetStands queries stands net choice now after
  pub gains : Gains choice before after old new
  -- the run from the mesh before is the run from the mesh behind them
  pub goes : run_to setup t before ≡ going_on setup t (begin after)
  -- so many turns of it were taken
  pub count : ℕ
  pub few : count ≤ most
  pub taken : iterate (turn setup t) count (begin before) ≡ begin after
  -- where more are due, the most were carried out, and the clock is at the last of them
  pub broke_off : more ≡ true
      → (count ≡ most) × (IsQuiet t after → ⊥)
      × (((count ≡ 0) × (now ≡ clock)) ⊎ (now ≡ after.last.moment))
  -- where none is, nothing is due until the moment, and the clock is there
  pub ended : more ≡ false → IsQuiet t after × (now ≡ t)
  pub within : t ≤ clock_limit
  pub right : TellsRightly queries ⊤ before after old new

-- a run until a moment came to its end
pub record RanAll {A : Type 0} (queries : Mac → Queries) (stands : A → Mac → RouteLog → Type 0)
    (setup : Setup) (net : Net A) (choice : FrameChoice) (before : Mesh) (t : ℕ)
    (old new : List Event) : Type 0 where
  pub after : Mesh
  pub standing : NetStands queries stands net choice t after
  pub gains : Gains choice before after old new
  pub goes : run_to setup t before ≡ begin after
  pub quiet : IsQuiet t after
  pub within : t ≤ clock_limit
  pub right : TellsRightly queries ⊤ before after old new

-- a run until a moment passes a limit: it stops there, and the log gained the events of the steps
-- before
pub record Stopped (setup : Setup) (choice : FrameChoice) (before : Mesh) (t : ℕ)
    (old new : List Event) (limit : LimitName) : Type 0 where
  pub after : Mesh
  pub moment : ℕ
  pub goes : run_to setup t before
      ≡ record { mesh = after; stop = Some (record { moment = moment; limit = limit }) }
  pub gains : Gains choice before after old new
  pub within : t ≤ clock_limit

-- a run until a moment lacks memory: the log gained the events of the steps before
pub record BrokeOff (setup : Setup) (choice : FrameChoice) (before : Mesh) (t : ℕ)
    (old new : List Event) : Type 0 where
  pub after : Mesh
  pub goes : run_to setup t before ≡ going_on setup t (begin after)
  pub gains : Gains choice before after old new
  pub within : t ≤ clock_limit

-- a run until a moment is refused: the log gained the events of so many turns, and they are right
pub record LeavesRightly (queries : Mac → Queries) (choice : FrameChoice) (before : Mesh) (t : ℕ)
    (old new : List Event) : Type 0 where
  pub count : ℕ
  pub after : Mesh
  pub taken : iterate (turn (scenario_setup queries) t) count (begin before) ≡ begin after
  pub gains : Gains choice before after old new
  pub right : TellsRightly queries ⊤ before after old new

-- a run until a moment that is too late isn't begun
pub record IsTooLate (t : ℕ) (old new : List Event) (limit : LimitName) : Type 0 where
  pub limit_is : limit ≡ Clock
  pub late : clock_limit < t
  pub as_before : new ≡ old

-- why a run until a moment is refused, and what the log then holds
abbrev pub RunTells : Setup → FrameChoice → Mesh → ℕ → List Event → List Event → NetErr → Type 0
RunTells setup choice before t old new (Limit limit) =
    IsTooLate t old new limit ⊎ Stopped setup choice before t old new limit
RunTells setup choice before t old new Dead = ⊥
RunTells setup choice before t old new Memory = BrokeOff setup choice before t old new
