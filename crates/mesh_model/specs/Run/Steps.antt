-- The step of each command, from a state to an outcome: an algorithm is chosen for all nodes that
-- follow; a new node has an empty log and ticks from now on; a link carries frames from now on; a
-- LAN joins with its gateways; a client frame is given to its node, and so is a ping, a traceroute
-- or a reboot, or it comes on its LAN; a client that is gone from a LAN is gone from each gateway;
-- time passes; a frame is delivered again, now; what is shown or decoded is printed. The limits are
-- looked at here: `nodes`, `links` and `lans` are passed by one more than 64, 512 and 16, `clock`
-- by the end of a run, before its first happening. The main word is `step_of`.
use Rattle.std.specs.Prelude.{ℕ, ◌+◌, ◌-◌, nat_lt, nat_le, suc, bytes_eq, List, [], ◌∷◌, ◌++◌, length, None, if◌then◌else◌}
use Rattle.std.specs.List.{list_any}
use Rattle.std.specs.Option.{option_map_or}
use Rattle.mesh_base.specs.declared.address.Mac.{Mac}
use Rattle.mesh_model.specs.declared.ending.LimitName.{LimitName}
use Rattle.mesh_model.specs.declared.ending.LimitName.TheVariants.{Nodes, Links, Lans, Clock}
use Rattle.mesh_model.specs.declared.ending.Stop.TheVariants.{Limit}
use Rattle.mesh_model.specs.declared.line_form.Algorithm.{Algorithm}
use Rattle.mesh_model.specs.declared.line_form.Command.{Command}
use Rattle.mesh_model.specs.declared.line_form.Command.TheVariants.{Nothing, Algo, Node, Link, Lan, Frame, Gone, Join, Leave, Arp, Dhcp, Wifi, GwOff, GwServer, GwClient, Mcast, Dat, Frag, Vis, Alfred, Put, Get, Ping, Trace, Reboot, Run, Deliver, Show, Decode}
use Rattle.mesh_model.specs.Clients.Log.{LineGiven, Line, Sets}
use Rattle.mesh_model.specs.Clients.Log.{Frame as GivenFrame, Gone as GivenGone, Join as GivenJoin, Leave as GivenLeave, Arp as GivenArp, Dhcp as GivenDhcp, Put as GivenPut, Get as GivenGet, Ping as GivenPing, Trace as GivenTrace, Reboot as GivenReboot}
use Rattle.mesh_model.specs.Clients.Settings.{Setting, NoPart, Serves, Chooses}
use Rattle.mesh_model.specs.Clients.Settings.{ArpTable as SetsArpTable, FactStore as SetsFactStore, Gateway as SetsGateway, LongestWhole as SetsLongestWhole, Multicast as SetsMulticast, Pictures as SetsPictures, Wifi as SetsWifi}
use Rattle.mesh_model.specs.Net.Mesh.{NodeLog, NetLink, Setup, address_at}
use Rattle.mesh_model.specs.Net.Inputs.{all_given, given_to}
use Rattle.mesh_model.specs.Net.Lans.{gateways_at, joins_lan}
use Rattle.mesh_model.specs.Net.Sending.{with_put}
use Rattle.mesh_model.specs.Packets.Payload.{payload_spelling}
use Rattle.mesh_model.specs.Net.Runs.{delivered}
use Rattle.mesh_model.specs.Net.Limits.{nodes_limit, links_limit, lans_limit, clock_limit}
use Rattle.mesh_model.specs.Run.State.{Printed, Decoded, State, lan_place_of, node_named, place_of}
use Rattle.mesh_model.specs.Run.Outcome.{Outcome, Goes, Ends}
use Rattle.mesh_model.specs.Run.Passing.{run_until, after_attempt}
use Rattle.mesh_model.specs.Run.Shown.{after_print, shown}

-- what a command does to a state
abbrev pub Step : Type 0
Step = State → Outcome

-- the step at the node of a name
abbrev pub at_node : List ℕ → (ℕ → Step) → Step
at_node name step state =
    option_map_or (λ place. step place state) (place_of state name) (Goes state)

-- ---- the algorithm, nodes and links

-- the nodes have this algorithm
abbrev pub choice_step : Algorithm → Step
choice_step algorithm state = Goes (record state { algorithm = algorithm })

-- a state that a step goes on to, unless there are as many already as may be
abbrev pub unless_full : ℕ → ℕ → LimitName → State → State → Outcome
unless_full count most limit before after =
    if nat_le most count then Ends before (Limit limit) else Goes after

-- a new node, made at a moment
abbrev pub new_node : List ℕ → Mac → ℕ → NodeLog
new_node name mac now = record { name = name; mac = mac; made = now; log = [] }

-- the state with one more node
abbrev pub with_node : State → NodeLog → State
with_node state node =
    record state { mesh = record state.mesh { nodes = state.mesh.nodes ++ node ∷ [] } }

-- a node joins
abbrev pub node_step : List ℕ → Mac → Step
node_step name mac state = unless_full (length state.mesh.nodes) nodes_limit Nodes state
    (with_node state (new_node name mac state.clock))

-- the state with one more link
abbrev pub with_link : State → NetLink → State
with_link state link =
    record state { mesh = record state.mesh { links = state.mesh.links ++ link ∷ [] } }

-- a link joins
abbrev pub link_step : NetLink → Step
link_step link state =
    unless_full (length state.mesh.links) links_limit Links state (with_link state link)

-- a link between the nodes of two names joins
abbrev pub link_between : List ℕ → List ℕ → (ℕ → ℕ → NetLink) → Step
link_between from to link =
    at_node from (λ start. at_node to (λ end. link_step (link start end)))

-- ---- LANs

-- the places of the nodes of these names, in rising order, of nodes of which the first stands at a
-- place
abbrev pub places_named : List (List ℕ) → ℕ → List NodeLog → List ℕ
places_named names place [] = []
places_named names place (node ∷ rest) =
    (if list_any (bytes_eq node.name) names then place ∷ [] else [])
    ++ places_named names (suc place) rest

-- a LAN joins, with the nodes of these names as its gateways
abbrev pub lan_step : Setup → List ℕ → List (List ℕ) → Step
lan_step setup name gateways state =
    if nat_le lans_limit (length state.mesh.lans) then Ends state (Limit Lans)
    else after_attempt state (joins_lan setup name (places_named gateways 0 state.mesh.nodes)
    state.clock state.mesh)

-- the step at the LAN of a name, or else at the node of it
abbrev pub at_place : List ℕ → (ℕ → Step) → (ℕ → Step) → Step
at_place name on_lan on_node state = option_map_or (λ lan. on_lan lan state)
    (lan_place_of state name) (at_node name on_node state)

-- a frame that no gateway put comes on the LAN at a place, now
abbrev pub lan_frame_step : Setup → List ℕ → ℕ → Step
lan_frame_step setup bytes lan state = after_attempt state (with_put setup
    (record { lan = lan; moment = state.clock; bytes = bytes; by = None }) state.mesh)

-- a line gives each gateway of the LAN at a place something, now
abbrev pub gateways_step : Setup → LineGiven → ℕ → Step
gateways_step setup line lan state = after_attempt state
    (all_given setup (gateways_at lan state.mesh.lans) state.clock (Line line) state.mesh)

-- ---- inputs and time

-- a line gives a node something, now; what it sends has the root 0
abbrev pub input_step : Setup → LineGiven → ℕ → Step
input_step setup line place state =
    after_attempt state (given_to setup place state.clock 0 (Line line) state.mesh)

-- a setting of the node of a name, now
abbrev pub setting_step : Setup → List ℕ → Setting → Step
setting_step setup name setting = at_node name (input_step setup (Sets setting))

-- the node of one name begins a session with the node of another
abbrev pub session_step : Setup → (Mac → LineGiven) → List ℕ → List ℕ → Step
session_step setup line node target = at_node node (λ place. at_node target (λ end state.
    input_step setup (line (address_at end state.mesh.nodes)) place state))

-- the link frame of a number is delivered, now
abbrev pub again_step : Setup → ℕ → Step
again_step setup number state =
    after_attempt state (delivered setup (number - 1) state.clock state.mesh)

-- so much time passes
abbrev pub time_step : Setup → ℕ → Step
time_step setup time state =
    if nat_lt clock_limit (state.clock + time) then Ends state (Limit Clock)
    else run_until setup (state.clock + time) state

-- something of the node of a name is printed
abbrev pub show_step : List ℕ → (State → NodeLog → Printed) → Step
show_step name print state = option_map_or (λ node. Goes (after_print state (print state node)))
    (node_named state name) (Goes state)

-- ---- the steps

-- the step of a command
abbrev pub step_of : Setup → Command → Step
step_of setup Nothing = Goes
step_of setup (Algo algorithm) = choice_step algorithm
step_of setup (Node name mac) = node_step name mac
step_of setup (Link from to delay pattern throughput) = link_between from to (λ start end.
    record { from = start; to = end; delay = delay; pattern = pattern; throughput = throughput })
step_of setup (Lan name gateways) = lan_step setup name gateways
step_of setup (Frame place src dst vid text) =
    at_place place
    (lan_frame_step setup
    (payload_spelling (record { dst = dst; src = src; vid = vid; text = text })))
    (input_step setup (GivenFrame src dst vid text))
step_of setup (Gone place key) =
    at_place place (gateways_step setup (GivenGone key)) (input_step setup (GivenGone key))
step_of setup (Join node key) = at_node node (input_step setup (GivenJoin key))
step_of setup (Leave node key) = at_node node (input_step setup (GivenLeave key))
step_of setup (Arp node mac own asked vid) =
    at_node node (input_step setup (GivenArp mac own asked vid))
step_of setup (Dhcp node key text) = at_node node (input_step setup (GivenDhcp key text))
step_of setup (Wifi node on) = setting_step setup node (SetsWifi on)
step_of setup (GwOff node) = setting_step setup node (SetsGateway NoPart)
step_of setup (GwServer node down up) =
    setting_step setup node (SetsGateway (Serves (record { download = down; upload = up })))
step_of setup (GwClient node policy) =
    setting_step setup node (SetsGateway (Chooses policy))
step_of setup (Mcast node flags) = setting_step setup node (SetsMulticast flags)
step_of setup (Dat node on) = setting_step setup node (SetsArpTable on)
step_of setup (Frag node longest) = setting_step setup node (SetsLongestWhole longest)
step_of setup (Vis node on) = setting_step setup node (SetsPictures on)
step_of setup (Alfred node mode) = setting_step setup node (SetsFactStore mode)
step_of setup (Put node type_no version text) =
    at_node node (input_step setup (GivenPut type_no version text))
step_of setup (Get node type_no) = at_node node (input_step setup (GivenGet type_no))
step_of setup (Ping node target) = session_step setup GivenPing node target
step_of setup (Trace node target) = session_step setup GivenTrace node target
step_of setup (Reboot node) = at_node node (input_step setup GivenReboot)
step_of setup (Run time) = time_step setup time
step_of setup (Deliver number) = again_step setup number
step_of setup (Show node table) = show_step node (shown table)
step_of setup (Decode bytes) = λ state. Goes (after_print state (Decoded bytes))
