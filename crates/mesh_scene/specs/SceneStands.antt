-- What a scene stands for: a state of the plain run under its routing algorithm, by the algorithm's
-- answers and what it stands for itself. The main words are `SceneStands` and `IsSomewhere`.
use Rattle.std.specs.Prelude.{◌≡◌, ℕ, List, map, position, slice_get, Some}
use Rattle.mesh_base.specs.Names.{is_node_name}
use Rattle.mesh_base.specs.declared.address.Mac.{Mac}
use Rattle.mesh_base.specs.declared.names.NodeName.{NodeName}
use Rattle.mesh_model.specs.declared.line_form.Algorithm.{Algorithm}
use Rattle.mesh_model.specs.Net.Mesh.{NetLink}
use Rattle.mesh_model.specs.Routes.Queries.{Queries}
use Rattle.mesh_model.specs.Routes.RouteLog.{RouteLog}
use Rattle.mesh_model.specs.Run.State.{State, names_of}
use Rattle.mesh_net.specs.NetStands.{NetStands}
use Rattle.mesh_scene.specs.declared.link_ends.LinkEnds.{LinkEnds}
use Rattle.mesh_scene.specs.declared.scene.Scene.{Scene}

-- the ends of a link
abbrev pub ends_of : NetLink → LinkEnds
ends_of link = record { from = link.from; to = link.to }

-- no two nodes have one name
abbrev pub AreApart : List NodeName → Type 0
AreApart names = (place : ℕ) (node : NodeName) → slice_get names place ≡ Some node
    → position (is_node_name node.name) names ≡ Some place

-- the scene stands for a state under an algorithm: its net for the mesh, the clock and the choice of
-- frames; its names for those of the nodes and LANs; its ends for those of the links
pub record SceneStands {A : Type 0} (algorithm : Algorithm) (queries : Mac → Queries)
    (stands : A → Mac → RouteLog → Type 0) (scene : Scene A) (state : State) : Type 0 where
  pub algorithm_is : state.algorithm ≡ algorithm
  pub net_is : NetStands queries stands scene.net state.choice state.clock state.mesh
  pub names_are : scene.names ≡ names_of state.mesh
  pub apart : AreApart scene.names.nodes
  pub ends_are : scene.ends.items ≡ map ends_of state.mesh.links

-- the scene stands for some state
pub record IsSomewhere {A : Type 0} (algorithm : Algorithm) (queries : Mac → Queries)
    (stands : A → Mac → RouteLog → Type 0) (scene : Scene A) : Type 0 where
  pub state : State
  pub standing : SceneStands algorithm queries stands scene state
