-- What a net stands for: a clock and a mesh that is reached, and which frames it is to show. The
-- names of the mesh's nodes, and its events, are no matter of the net: it stands for a mesh
-- whatever they are. The main word is `NetStands`.
use Rattle.std.specs.Prelude.{◌≡◌, ℕ, ◌<◌, ◌≤◌, ◌⊎◌, true, false, List, [], ◌∷◌, length, None, ⊤}
use Rattle.mesh_base.specs.declared.address.Mac.{Mac}
use Rattle.mesh_model.specs.declared.frame_choice.FrameChoice.{FrameChoice}
use Rattle.mesh_model.specs.Net.Mesh.{NodeLog, NetLink, LanPut, Mesh}
use Rattle.mesh_model.specs.Routes.Queries.{Queries}
use Rattle.mesh_model.specs.Routes.RouteLog.{RouteLog}
use Rattle.mesh_net.specs.declared.link.Link.{Link}
use Rattle.mesh_model.specs.Net.Due.{first_ticks, ticks_in}
use Rattle.mesh_model.specs.Net.Limits.{clock_limit, scenario_setup}
use Rattle.mesh_node.specs.NodeStands.{NodeStands}
use Rattle.mesh_net.specs.declared.net.Net.{Net}
use Rattle.mesh_net.specs.declared.seat.Seat.{Seat}
use Rattle.mesh_net.specs.Reached.{IsReached}
use Rattle.mesh_net.specs.Watching.{WatchStands}
use Rattle.mesh_post.specs.Sent.{InStep}

-- a node at its place stands for a node of the mesh
pub record SeatIs {A : Type 0} (queries : Mac → Queries) (stands : A → Mac → RouteLog → Type 0)
    (seat : Seat A) (row : NodeLog) : Type 0 where
  pub node : NodeStands stands queries seat.node row.mac row.log
  pub mac : seat.mac ≡ row.mac
  pub ticks : seat.ticks ≡ ticks_in row.log

-- the nodes stand for those of the mesh, each for that at its place
abbrev pub SeatsStand : {A : Type 0} → (Mac → Queries) → (A → Mac → RouteLog → Type 0)
    → List (Seat A) → List NodeLog → Type 0
SeatsStand queries stands [] [] = ⊤
SeatsStand queries stands [] (row ∷ rows) = ⊥
SeatsStand queries stands (seat ∷ seats) [] = ⊥
SeatsStand queries stands (seat ∷ seats) (row ∷ rows) =
    SeatIs queries stands seat row × SeatsStand queries stands seats rows

-- a net stands for a choice of frames, a clock and a mesh
pub record NetStands {A : Type 0} (queries : Mac → Queries) (stands : A → Mac → RouteLog → Type 0)
    (net : Net A) (choice : FrameChoice) (clock : ℕ) (mesh : Mesh) : Type 0 where
  pub alive : net.dead ≡ false
  pub choice_is : net.post.choice ≡ choice
  pub clock_is : net.clock ≡ clock
  pub last_is : net.last ≡ mesh.last
  pub past : mesh.last.moment ≤ clock
  pub low : clock ≤ clock_limit
  pub seats : SeatsStand queries stands net.seats.items mesh.nodes
  -- what is kept besides the nodes, between two steps; those wait that are to come
  pub kept : InStep net.post net.sent mesh.last (first_ticks 0 mesh.nodes) mesh
  pub settled : net.post.fresh.items ≡ []
  pub watched : WatchStands net.watch mesh.watch
  pub reached : IsReached (scenario_setup queries) clock mesh

-- a call was refused before
abbrev pub IsDead : {A : Type 0} → Net A → Type 0
IsDead net = net.dead ≡ true

-- a net that stands for something
pub record IsLive {A : Type 0} (queries : Mac → Queries) (stands : A → Mac → RouteLog → Type 0)
    (net : Net A) : Type 0 where
  pub choice : FrameChoice
  pub clock : ℕ
  pub mesh : Mesh
  pub standing : NetStands queries stands net choice clock mesh

-- a net as calls leave it: it stands for something, or a call was refused
abbrev pub IsNet : {A : Type 0} → (Mac → Queries) → (A → Mac → RouteLog → Type 0) → Net A → Type 0
IsNet queries stands net = IsDead net ⊎ IsLive queries stands net

-- this holds for each choice, clock and mesh that a net stands for
abbrev pub HoldsFor : {A : Type 0} → (Mac → Queries) → (A → Mac → RouteLog → Type 0) → Net A
    → (FrameChoice → ℕ → Mesh → Type 0) → Type 0
HoldsFor queries stands net This = (choice : FrameChoice) (clock : ℕ) (mesh : Mesh)
    → NetStands queries stands net choice clock mesh → This choice clock mesh

-- a link between the nodes at two places, as its line tells it
abbrev pub net_link : ℕ → ℕ → Link → NetLink
net_link from to link = record {
  from = from;
  to = to;
  delay = link.delay;
  pattern = link.pattern;
  throughput = link.tp;
}

-- a frame that a line puts on the LAN at a place, at a moment: no gateway puts it
abbrev pub line_put : ℕ → List ℕ → ℕ → LanPut
line_put lan bytes moment = record { lan = lan; moment = moment; bytes = bytes; by = None }

-- a net that stands for something that has a node at a place
pub record HasNode {A : Type 0} (queries : Mac → Queries) (stands : A → Mac → RouteLog → Type 0)
    (net : Net A) (place : ℕ) : Type 0 where
  pub choice : FrameChoice
  pub clock : ℕ
  pub mesh : Mesh
  pub standing : NetStands queries stands net choice clock mesh
  pub known : place < length mesh.nodes
