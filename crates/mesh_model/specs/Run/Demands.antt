-- What a command asks of the state, apart from the names that it uses: that no node stands yet, a
-- name that neither a node nor a LAN has and an address that no node has, two nodes without a link,
-- gateways of a new LAN that are none yet, a place that is no gateway, two nodes, a link frame that
-- was sent. The main word is `first_unmet`.
use Rattle.std.specs.Prelude.{ℕ, ◌==◌, ◌||◌, nat_lt, bytes_eq, Bool, false, length, List, [], ◌∷◌, Option, Some, None, is_some, option_and_then, if◌then◌else◌}
use Rattle.std.specs.List.{list_any}
use Rattle.std.specs.Option.{option_or, option_map_or}
use Rattle.mesh_base.specs.declared.address.Mac.{Mac}
use Rattle.mesh_model.specs.declared.ending.Refusal.{Refusal}
use Rattle.mesh_model.specs.declared.ending.Refusal.TheVariants.{AddressTaken, AlgoAfterNode, Attached, LinkTaken, NameTaken, NoSuchFrame, SameNode}
use Rattle.mesh_model.specs.declared.line_form.Command.{Command}
use Rattle.mesh_model.specs.declared.line_form.Command.TheVariants.{Nothing, Algo, Node, Link, Lan, Frame, Gone, Join, Leave, Arp, Dhcp, Wifi, GwOff, GwServer, GwClient, Mcast, Dat, Frag, Vis, Alfred, Put, Get, Ping, Trace, Reboot, Run, Deliver, Show, Decode}
use Rattle.mesh_model.specs.Net.Mesh.{has_address}
use Rattle.mesh_model.specs.Net.Runs.{leads}
use Rattle.mesh_model.specs.Net.Sending.{lan_of}
use Rattle.mesh_model.specs.Run.State.{State, lan_place_of, place_of}

-- that no node stands, a new node's name and address, the names of a new link's ends, a new LAN's
-- name and those of its gateways, the name of a place, those of two nodes, the number of a link
-- frame, or nothing
pub data Demand : Type 0 where
  NoNodeYet : Demand
  NewNode : List ℕ → Mac → Demand
  NewLink : List ℕ → List ℕ → Demand
  NewLan : List ℕ → List (List ℕ) → Demand
  NoGateway : List ℕ → Demand
  TwoNodes : List ℕ → List ℕ → Demand
  SentBefore : ℕ → Demand
  NoDemand : Demand

-- what a command asks
abbrev pub demand_of : Command → Demand
demand_of Nothing = NoDemand
demand_of (Algo algorithm) = NoNodeYet
demand_of (Node name mac) = NewNode name mac
demand_of (Link from to delay pattern throughput) = NewLink from to
demand_of (Lan name gateways) = NewLan name gateways
demand_of (Frame place src dst vid text) = NoGateway place
demand_of (Gone place key) = NoGateway place
demand_of (Join node key) = NoDemand
demand_of (Leave node key) = NoDemand
demand_of (Arp node mac own asked vid) = NoGateway node
demand_of (Dhcp node key text) = NoGateway node
demand_of (Wifi node on) = NoDemand
demand_of (GwOff node) = NoDemand
demand_of (GwServer node down up) = NoDemand
demand_of (GwClient node policy) = NoDemand
demand_of (Mcast node flags) = NoDemand
demand_of (Dat node on) = NoDemand
demand_of (Frag node longest) = NoDemand
demand_of (Vis node on) = NoDemand
demand_of (Alfred node mode) = NoDemand
demand_of (Put node type_no version text) = NoDemand
demand_of (Get node type_no) = NoDemand
demand_of (Ping node target) = TwoNodes node target
demand_of (Trace node target) = TwoNodes node target
demand_of (Reboot node) = NoGateway node
demand_of (Run time) = NoDemand
demand_of (Deliver number) = SentBefore number
demand_of (Show node table) = NoDemand
demand_of (Decode bytes) = NoDemand

-- whether a node has this name
abbrev pub is_known : State → List ℕ → Bool
is_known state name = is_some (place_of state name)

-- whether a LAN has this name
abbrev pub is_known_lan : State → List ℕ → Bool
is_known_lan state name = is_some (lan_place_of state name)

-- whether a node or a LAN has this name
abbrev pub is_taken : State → List ℕ → Bool
is_taken state name = is_known state name || is_known_lan state name

-- whether the node of this name is a gateway
abbrev pub is_attached : State → List ℕ → Bool
is_attached state name =
    is_some (option_and_then (λ place. lan_of place state.mesh.lans) (place_of state name))

-- whether one of these names is that of a gateway, or stands twice
abbrev pub one_is_attached : State → List (List ℕ) → Bool
one_is_attached state [] = false
one_is_attached state (name ∷ rest) = is_attached state name
    || (list_any (bytes_eq name) rest || one_is_attached state rest)

-- a refusal where a condition holds
abbrev pub refusal_if : Bool → Refusal → Option Refusal
refusal_if holds refusal = if holds then Some refusal else None

-- whether a link leads from the node of one name to the node of another
abbrev pub are_linked : State → List ℕ → List ℕ → Bool
are_linked state from to = option_map_or (λ start. option_map_or
    (λ end. list_any (leads start end) state.mesh.links) (place_of state to) false)
    (place_of state from) false

-- whether no link frame has this number
abbrev pub is_no_frame : State → ℕ → Bool
is_no_frame state number = number == 0 || nat_lt (length state.mesh.frames) number

-- the first part of a demand that the state doesn't meet
abbrev pub first_unmet : State → Demand → Option Refusal
first_unmet state NoNodeYet = refusal_if (nat_lt 0 (length state.mesh.nodes)) AlgoAfterNode
first_unmet state (NewNode name mac) = option_or (refusal_if (is_taken state name) NameTaken)
    (refusal_if (list_any (has_address mac) state.mesh.nodes) AddressTaken)
first_unmet state (NewLink from to) = option_or (refusal_if (bytes_eq from to) SameNode)
    (refusal_if (are_linked state from to) LinkTaken)
first_unmet state (NewLan name gateways) = option_or (refusal_if (is_taken state name) NameTaken)
    (refusal_if (one_is_attached state gateways) Attached)
first_unmet state (NoGateway name) = refusal_if (is_attached state name) Attached
first_unmet state (TwoNodes node target) = refusal_if (bytes_eq node target) SameNode
first_unmet state (SentBefore number) = refusal_if (is_no_frame state number) NoSuchFrame
first_unmet state NoDemand = None
