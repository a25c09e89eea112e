-- A node that is shown, its tables as text, and what a refusal leaves of the lines of events. The
-- main words are `IsNodeAt`, `IsSeenAt` and `AppendsTable`.
use Rattle.std.specs.Prelude.{◌≡◌, ℕ, ◌<◌, ◌≤◌, List, ◌++◌, flat_map, length, take}
use Rattle.mesh_base.specs.declared.address.Mac.{Mac}
use Rattle.mesh_base.specs.declared.event.Event.{Event}
use Rattle.mesh_base.specs.Names.{NamesGiven}
use Rattle.mesh_model.specs.Text.Events.{event_line}
use Rattle.mesh_model.specs.declared.line_form.Algorithm.{Algorithm}
use Rattle.mesh_model.specs.declared.line_form.Table.{Table}
use Rattle.mesh_model.specs.Net.Mesh.{NodeLog}
use Rattle.mesh_model.specs.Routes.Queries.{Queries}
use Rattle.mesh_model.specs.Routes.RouteLog.{RouteLog}
use Rattle.mesh_model.specs.Run.Shown.{shown}
use Rattle.mesh_model.specs.Run.State.{State, names_of, printed_text}
use Rattle.mesh_node.specs.NodeStands.{NodeStands}
use Rattle.node_ground.specs.OwnStands.{newest_moment}
use Rattle.mesh_node.specs.declared.node.Node.{Node}

-- a node stands for one of the mesh, which has this name and was given nothing after a moment
pub record IsNodeAt {A : Type 0} (queries : Mac → Queries) (stands : A → Mac → RouteLog → Type 0)
    (node : Node A) (name : List ℕ) (now : ℕ) (row : NodeLog) : Type 0 where
  pub standing : NodeStands stands queries node row.mac row.log
  pub named : row.name ≡ name
  pub past : newest_moment row.log ≤ now

-- a state has this algorithm, these names and this clock
pub record IsSeenAt (algorithm : Algorithm) (names : NamesGiven) (now : ℕ) (state : State) : Type 0
  where
    pub algorithm_is : state.algorithm ≡ algorithm
    pub names_are : names_of state.mesh ≡ names
    pub clock_is : state.clock ≡ now

-- a text gains a table of a node in a state
abbrev pub AppendsTable : State → Table → NodeLog → (old new : List ℕ) → Type 0
AppendsTable state table row old new =
    new ≡ old ++ printed_text state.choice (shown table state row)

-- a text gains the lines of the first events, whole lines, and not those of all events
pub record AppendsFirst (names : NamesGiven) (events : List Event) (old new : List ℕ) : Type 0 where
  pub count : ℕ
  pub fewer : count < length events
  pub gained : new ≡ old ++ flat_map (event_line names) (take count events)
