-- What a line does at the node of a name. The main words are `given_at`, `given_apart`, `given_of`,
-- `session_at` and `IsNodeOf`.
use Rattle.std.specs.Prelude.{◌≡◌, ℕ, List, [], ◌∷◌, slice_get, Option, Some, None}
use Rattle.std.specs.Option.{option_or}
use Rattle.mesh_base.specs.declared.address.Mac.{Mac}
use Rattle.mesh_model.specs.Clients.Log.{Given, LineGiven, Line, Sets}
use Rattle.mesh_model.specs.Clients.Log.{Join as GivenJoin, Leave as GivenLeave, Put as GivenPut, Get as GivenGet}
use Rattle.mesh_model.specs.Clients.Settings.{Setting, NoPart, Serves, Chooses}
use Rattle.mesh_model.specs.Clients.Settings.{ArpTable as SetsArpTable, FactStore as SetsFactStore, Gateway as SetsGateway, LongestWhole as SetsLongestWhole, Multicast as SetsMulticast, Pictures as SetsPictures, Wifi as SetsWifi}
use Rattle.mesh_model.specs.declared.ending.Stop.TheVariants.{Refused, Limit}
use Rattle.mesh_model.specs.declared.line_form.Command.{Command}
use Rattle.mesh_model.specs.declared.line_form.Command.TheVariants.{Nothing, Algo, Node, Link, Lan, Frame, Gone, Join, Leave, Arp, Dhcp, Wifi, GwOff, GwServer, GwClient, Mcast, Dat, Frag, Vis, Alfred, Put, Get, Ping, Trace, Reboot, Run, Deliver, Show, Decode}
use Rattle.mesh_model.specs.Net.Inputs.{given_to}
use Rattle.mesh_model.specs.Net.Mesh.{NodeLog, Setup}
use Rattle.mesh_model.specs.Routes.Queries.{Queries}
use Rattle.mesh_model.specs.Routes.RouteLog.{RouteLog}
use Rattle.mesh_model.specs.Run.Demands.{NoGateway, first_unmet}
use Rattle.mesh_model.specs.Run.Names.{NameUse, OfNode}
use Rattle.mesh_model.specs.Run.Outcome.{Outcome}
use Rattle.mesh_model.specs.Run.Passing.{after_attempt}
use Rattle.mesh_model.specs.Run.Rules.{first_refused_rule, name_refusal, names_refusal, unless_refused}
use Rattle.mesh_model.specs.Run.State.{State, place_of}
use Rattle.mesh_model.specs.Run.Steps.{Step, at_node, session_step}
use Rattle.mesh_node.specs.declared.node.Node.{Node as NodeValue}
use Rattle.mesh_scene.specs.declared.fault.LineFault.{LineFault}
use Rattle.mesh_scene.specs.declared.fault.LineFault.TheVariants.{Stopped, Memory}
use Rattle.mesh_show.specs.Shown.{IsNodeAt}

-- the node at a place is given something, now; what it sends has the root 0
abbrev pub given_step : Setup → Given → ℕ → Step
given_step setup given place state =
    after_attempt state (given_to setup place state.clock 0 given state.mesh)

-- the outcome of a line that gives the node of a name something
abbrev pub given_at : Setup → List ℕ → Given → State → Outcome
given_at setup name given state = unless_refused state (name_refusal state (OfNode name))
    (at_node name (given_step setup given) state)

-- the outcome of a line that gives the node of a name something, where that is no gateway of a LAN
abbrev pub given_apart : Setup → List ℕ → Given → State → Outcome
given_apart setup name given state = unless_refused state
    (option_or (names_refusal state (OfNode name ∷ [])) (first_unmet state (NoGateway name)))
    (at_node name (given_step setup given) state)

-- the node of a name is given a setting
abbrev pub set_at : List ℕ → Setting → Option (List ℕ × Given)
set_at node setting = Some (node, Line (Sets setting))

-- the node of a name that a command gives something, and what it gives, where it asks no more of
-- the state than a node of that name
abbrev pub given_of : Command → Option (List ℕ × Given)
given_of Nothing = None
given_of (Algo algorithm) = None
given_of (Node name mac) = None
given_of (Link from to delay pattern throughput) = None
given_of (Lan name gateways) = None
given_of (Frame place src dst vid text) = None
given_of (Gone place key) = None
given_of (Join node key) = Some (node, Line (GivenJoin key))
given_of (Leave node key) = Some (node, Line (GivenLeave key))
given_of (Arp node mac own asked vid) = None
given_of (Dhcp node key text) = None
given_of (Wifi node on) = set_at node (SetsWifi on)
given_of (GwOff node) = set_at node (SetsGateway NoPart)
given_of (GwServer node down up) =
    set_at node (SetsGateway (Serves (record { download = down; upload = up })))
given_of (GwClient node policy) = set_at node (SetsGateway (Chooses policy))
given_of (Mcast node flags) = set_at node (SetsMulticast flags)
given_of (Dat node on) = set_at node (SetsArpTable on)
given_of (Frag node longest) = set_at node (SetsLongestWhole longest)
given_of (Vis node on) = set_at node (SetsPictures on)
given_of (Alfred node mode) = set_at node (SetsFactStore mode)
given_of (Put node type_no version text) = Some (node, Line (GivenPut type_no version text))
given_of (Get node type_no) = Some (node, Line (GivenGet type_no))
given_of (Ping node target) = None
given_of (Trace node target) = None
given_of (Reboot node) = None
given_of (Run time) = None
given_of (Deliver number) = None
given_of (Show node table) = None
given_of (Decode bytes) = None

-- the outcome of a line that begins a session of the node of one name with that of another; its
-- rules are those of `ping`, whichever session it begins
abbrev pub session_at : Setup → List ℕ → List ℕ → (Mac → LineGiven) → State → Outcome
session_at setup node target line state = unless_refused state
    (first_refused_rule state (Ping node target)) (session_step setup line node target state)

-- the node of a name, as it stands in the mesh and as it is kept
pub record IsNodeOf {A : Type 0} (queries : Mac → Queries) (stands : A → Mac → RouteLog → Type 0)
    (state : State) (name : List ℕ) (node : NodeValue A) : Type 0 where
  pub place : ℕ
  pub row : NodeLog
  pub allowed : name_refusal state (OfNode name) ≡ None
  pub at : place_of state name ≡ Some place
  pub found : slice_get state.mesh.nodes place ≡ Some row
  pub kept : IsNodeAt queries stands node name state.clock row

-- a name can be used where a node is needed, and leads to the node at a place
pub record IsNodePlace (state : State) (name : List ℕ) (place : ℕ) : Type 0 where
  pub allowed : name_refusal state (OfNode name) ≡ None
  pub at : place_of state name ≡ Some place

-- a fault is that of a name that can't be used
abbrev pub IsNameFault : State → NameUse → LineFault → Type 0
IsNameFault state used (Stopped (Refused refusal)) = name_refusal state used ≡ Some refusal
IsNameFault state used (Stopped (Limit limit)) = ⊥
IsNameFault state used Memory = ⊥
