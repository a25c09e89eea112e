-- The laws hold of every plain run: each mesh of it is one that steps reach under the algorithm
-- that was chosen. Its lines are read as clients and addresses that records can tell, each of its
-- happenings is a step, and moments never fall. The main word is `PlainRunsAreReachable`.
use Rattle.std.specs.Prelude.{◌≡◌, ◌≤◌, ℕ, List, slice_get, Some, Ok, ⊤}
use Rattle.mesh_model.specs.declared.frame_choice.FrameChoice.{FrameChoice}
use Rattle.mesh_model.specs.declared.line_form.Command.{Command}
use Rattle.mesh_model.specs.declared.line_form.Command.TheVariants.{Nothing, Algo, Node, Link, Lan, Frame, Gone, Join, Leave, Arp, Dhcp, Wifi, GwOff, GwServer, GwClient, Mcast, Dat, Frag, Vis, Alfred, Put, Get, Ping, Trace, Reboot, Run, Deliver, Show, Decode}
use Rattle.mesh_model.specs.Clients.Mentions.{key_of}
use Rattle.mesh_model.specs.Net.Mesh.{NodeLog, Mesh}
use Rattle.mesh_model.specs.Routes.Algorithms.{queries_of}
use Rattle.mesh_model.specs.Run.Outcome.{reached}
use Rattle.mesh_model.specs.Run.PlainRun.{plain_run}
use Rattle.mesh_model.specs.Run.Rules.{carried_out, setup_of}
use Rattle.mesh_model.specs.Run.State.{State}
use Rattle.mesh_model.specs.Scenario.AlfredForms.{least_fact_type}
use Rattle.mesh_model.specs.Scenario.Commands.{command_of_line}
use Rattle.mesh_laws.specs.LineLaws.{HasDelay, IsQuietNow, IsReached}
use Rattle.mesh_tie.specs.Sources.{IsWhole}
use Rattle.mesh_tie.specs.Steps.{IsClient, IsReachable, newest_moment}

-- the addresses and clients of a command are those that records can tell, and the type of facts is
-- one that lines may name
abbrev pub IsTellable : Command → Type 0
IsTellable Nothing = ⊤
IsTellable (Algo algorithm) = ⊤
IsTellable (Node name mac) = IsWhole mac
IsTellable (Link from to delay pattern throughput) = ⊤
IsTellable (Lan name gateways) = ⊤
IsTellable (Frame place src dst vid text) = IsClient (key_of src vid) × IsWhole dst
IsTellable (Gone place key) = IsClient key
IsTellable (Join node key) = IsClient key
IsTellable (Leave node key) = IsClient key
IsTellable (Arp node mac own asked vid) = IsClient (key_of mac vid)
IsTellable (Dhcp node key text) = IsClient key
IsTellable (Wifi node on) = ⊤
IsTellable (GwOff node) = ⊤
IsTellable (GwServer node down up) = ⊤
IsTellable (GwClient node policy) = ⊤
IsTellable (Mcast node flags) = ⊤
IsTellable (Dat node on) = ⊤
IsTellable (Frag node longest) = ⊤
IsTellable (Vis node on) = ⊤
IsTellable (Alfred node mode) = ⊤
IsTellable (Put node type_no version text) = least_fact_type ≤ type_no
IsTellable (Get node type_no) = least_fact_type ≤ type_no
IsTellable (Ping node target) = ⊤
IsTellable (Trace node target) = ⊤
IsTellable (Reboot node) = ⊤
IsTellable (Run time) = ⊤
IsTellable (Deliver number) = ⊤
IsTellable (Show node table) = ⊤
IsTellable (Decode bytes) = ⊤

-- every command that is read is so
abbrev pub ReadIsTellable : Type 0
ReadIsTellable = (line : List ℕ) (command : Command) →
    command_of_line line ≡ Ok command → IsTellable command

-- no node was given anything after a moment
abbrev pub NoneIsLater : Mesh → ℕ → Type 0
NoneIsLater mesh now = (place : ℕ) (node : NodeLog) → slice_get mesh.nodes place ≡ Some node →
    newest_moment node.log ≤ now

-- a state's mesh is one that steps reach under its algorithm
abbrev pub HasReachableMesh : State → Type 0
HasReachableMesh state = IsReachable (queries_of state.algorithm) state.mesh

-- what holds of every state between lines
pub record IsBetweenLines (state : State) : Type 0 where
  pub is_reached : IsReached state
  pub quiet : IsQuietNow state
  pub reachable : HasReachableMesh state
  pub settled : NoneIsLater state.mesh state.clock

-- a command leads to a mesh that steps reach, also where it ends the run
abbrev pub CommandsAreSteps : Type 0
CommandsAreSteps = (state : State) (command : Command) → IsBetweenLines state →
    HasDelay command → IsTellable command →
    HasReachableMesh (reached (carried_out (setup_of state.algorithm) state command))

-- every plain run leads to a mesh that steps reach
abbrev pub PlainRunsAreReachable : Type 0
PlainRunsAreReachable = (choice : FrameChoice) (input : List ℕ) →
    HasReachableMesh (plain_run choice input).state
