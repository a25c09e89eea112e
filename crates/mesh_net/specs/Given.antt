-- What it leaves to give a node something. The main words are `HasGiven` and `GiveTells`.
use Rattle.std.specs.Prelude.{◌≡◌, List, ◌∷◌, Ok, Err, ⊤}
use Rattle.mesh_base.specs.declared.address.Mac.{Mac}
use Rattle.mesh_base.specs.declared.event.Event.{Event}
use Rattle.mesh_model.specs.declared.ending.LimitName.TheVariants as limits
use Rattle.mesh_model.specs.declared.frame_choice.FrameChoice.{FrameChoice}
use Rattle.mesh_model.specs.declared.happening.Happening.{Happening}
use Rattle.mesh_model.specs.Clients.Log.{Given}
use Rattle.mesh_model.specs.Net.Inputs.{entry_of, noted_at, given_to}
use Rattle.mesh_model.specs.Net.Limits.{scenario_setup}
use Rattle.mesh_model.specs.Net.Mesh.{NodeLog, Mesh}
use Rattle.mesh_model.specs.Net.Sending.{Attempt}
use Rattle.mesh_model.specs.Routes.Queries.{Queries}
use Rattle.mesh_model.specs.Routes.RouteLog.{RouteLog}
use Rattle.node_ground.specs.declared.failure.NodeErr.{NodeErr}
use Rattle.node_ground.specs.declared.failure.NodeErr.TheVariants.{Memory, Clients, Vlans, Frames, FrameBytes, Cuts, Dead}
use Rattle.mesh_node.specs.declared.node.Node.{Node}
use Rattle.mesh_node.specs.NodeStands.{NodeStands}
use Rattle.mesh_post.specs.declared.post.Post.{Post}
use Rattle.mesh_post.specs.declared.row.Sender.{Sender}
use Rattle.mesh_post.specs.declared.row.Sending.{Sending}
use Rattle.mesh_post.specs.Sent.{InStep, Logged}

-- the node at a place was given something: the mesh after it
pub record HasGiven {A : Type 0} (queries : Mac → Queries) (stands : A → Mac → RouteLog → Type 0)
    (node : Node A) (choice : FrameChoice) (sender : Sender) (given : Given) (post : Post)
    (older : List Sending) (last : Happening) (ticks : List Happening) (row : NodeLog)
    (before : Mesh) (old new : List Event) : Type 0 where
  pub after : Mesh
  pub is : given_to (scenario_setup queries) sender.place sender.now sender.root given before
      ≡ Ok after
  pub node_stands : NodeStands stands queries node row.mac
      (entry_of (scenario_setup queries) row sender.now given ∷ row.log)
  pub nodes : after.nodes ≡ noted_at sender.place
      (entry_of (scenario_setup queries) row sender.now given) before.nodes
  pub step : InStep post older last ticks after
  pub choice_is : post.choice ≡ choice
  pub logged : Logged choice before after old new

-- why a node refuses what it is given
abbrev pub GiveTells : Attempt → NodeErr → Type 0
GiveTells attempt Memory = ⊤
GiveTells attempt Clients = attempt ≡ Err limits.Clients
GiveTells attempt Vlans = attempt ≡ Err limits.Vlans
GiveTells attempt Frames = attempt ≡ Err limits.Frames
GiveTells attempt FrameBytes = attempt ≡ Err limits.FrameBytes
GiveTells attempt Cuts = attempt ≡ Err limits.Cuts
GiveTells attempt Dead = ⊥
