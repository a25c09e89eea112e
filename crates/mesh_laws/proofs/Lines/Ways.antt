-- The few ways in which a command may end.
use Rattle.std.proofs.Common.{◌≡◌, ℕ, ◌+◌, ◌-◌, ◌<◌, ◌≤◌, Bool, true, false, cond, nat_lt, nat_le, List, [], length, Option, Some, None, Ok, Err, refl, sym, ◌∙◌}
use Rattle.std.specs.Option.{option_map_or}
use Rattle.std.specs.List.{position}
use Rattle.std.proofs.lemmas.Bool.{ltb-false, leb-false, true≢false}
use Rattle.std.proofs.lemmas.List.Quantifiers.{position-Some}
use Rattle.mesh_model.specs.declared.ending.LimitName.TheVariants.{Nodes, Links, Lans, Clock}
use Rattle.mesh_model.specs.declared.ending.Refusal.{Refusal}
use Rattle.mesh_model.specs.declared.ending.Stop.{Stop}
use Rattle.mesh_model.specs.declared.ending.Stop.TheVariants.{Refused, Limit}
use Rattle.mesh_base.specs.declared.address.Mac.{Mac}
use Rattle.mesh_model.specs.declared.line_form.Algorithm.{Algorithm}
use Rattle.mesh_model.specs.declared.line_form.Command.{Command}
use Rattle.mesh_model.specs.declared.line_form.Command.TheVariants.{Nothing, Algo, Node, Link, Lan, Frame, Gone, Join, Leave, Arp, Dhcp, Wifi, GwOff, GwServer, GwClient, Mcast, Dat, Frag, Vis, Alfred, Put, Get, Ping, Trace, Reboot, Run, Deliver, Show, Decode}
use Rattle.mesh_model.specs.Clients.Log.{LineGiven, Line, Sets, line_reboots}
use Rattle.mesh_model.specs.Clients.Log.{Frame as FrameGiven, Gone as GoneGiven, Join as JoinGiven, Leave as LeaveGiven, Arp as ArpGiven, Dhcp as DhcpGiven, Put as PutGiven, Get as GetGiven, Ping as PingGiven, Trace as TraceGiven, Reboot as RebootGiven}
use Rattle.mesh_model.specs.Clients.Settings.{NoPart, Serves, Chooses}
use Rattle.mesh_model.specs.Clients.Settings.{ArpTable as ArpTableSet, FactStore as FactStoreSet, Gateway as GatewaySet, LongestWhole as LongestWholeSet, Multicast as MulticastSet, Pictures as PicturesSet, Wifi as WifiSet}
use Rattle.mesh_model.specs.Net.Mesh.{NodeLog, NetLan, NetLink, LanPut, Mesh, Setup, address_at}
use Rattle.mesh_model.specs.Net.Lans.{gateways_at, joins_lan}
use Rattle.mesh_model.specs.Net.Sending.{Attempt, with_put}
use Rattle.mesh_model.specs.Packets.Payload.{payload_spelling}
use Rattle.mesh_model.specs.Net.Inputs.{all_given, given_to}
use Rattle.mesh_model.specs.Net.Limits.{nodes_limit, links_limit, lans_limit, clock_limit}
use Rattle.mesh_model.specs.Net.Runs.{delivered}
use Rattle.mesh_model.specs.Run.State.{Printed, Decoded, State, is_lan_named, lan_place_of, node_named, place_of}
use Rattle.mesh_model.specs.Run.Outcome.{Outcome, Goes, Ends}
use Rattle.mesh_model.specs.Run.Passing.{gone_on, run_until, after_attempt}
use Rattle.mesh_model.specs.Run.Shown.{after_print, shown}
use Rattle.mesh_model.specs.Run.Steps.{Step, at_node, at_place, gateways_step, lan_frame_step, new_node, places_named, with_node, with_link, link_step, input_step, session_step, step_of}
use Rattle.mesh_model.specs.Run.Rules.{first_refused_rule, unless_refused, carried_out}
use Rattle.mesh_laws.specs.GatewayLaws.{IsNoLan}
use Rattle.mesh_laws.specs.LineLaws.{HasDelay}

-- a line that a command gives the node at a place: it makes none a gateway, and one that reboots its
-- node is of the command that names it
pub record IsLineOf (state : State) (command : Command) (place : ℕ) (line : LineGiven) : Type 0 where
  pub plain : IsNoLan line
  pub reboots : line_reboots line ≡ true → (name : List ℕ) × (command ≡ Reboot name) × (place_of state name ≡ Some place)

-- the ways of a command's outcome
pub data Led (setup : Setup) (state : State) (command : Command) (outcome : Outcome) : Type 0 where
  ended : (stop : Stop) → outcome ≡ Ends state stop → Led setup state command outcome
  printed : (more : Printed) → outcome ≡ Goes (after_print state more) → Led setup state command outcome
  stayed : outcome ≡ Goes state → Led setup state command outcome
  chose : (algorithm : Algorithm) → command ≡ Algo algorithm → outcome ≡ Goes (record state { algorithm = algorithm }) → Led setup state command outcome
  noded : (node : NodeLog) → node.log ≡ [] → node.made ≡ state.clock → length state.mesh.nodes < nodes_limit → outcome ≡ Goes (with_node state node) → Led setup state command outcome
  linked : (link : NetLink) → (HasDelay command → 1 ≤ link.delay) → outcome ≡ Goes (with_link state link) → Led setup state command outcome
  given : (place : ℕ) (line : LineGiven) (after : Mesh) → IsLineOf state command place line → given_to setup place state.clock 0 (Line line) state.mesh ≡ Ok after
      → outcome ≡ Goes (gone_on state state.clock after) → Led setup state command outcome
  again : (place : ℕ) (after : Mesh) → delivered setup place state.clock state.mesh ≡ Ok after → outcome ≡ Goes (gone_on state state.clock after) → Led setup state command outcome
  given_all : (places : List ℕ) (line : LineGiven) (after : Mesh) → IsNoLan line → line_reboots line ≡ false → all_given setup places state.clock (Line line) state.mesh ≡ Ok after → outcome ≡ Goes (gone_on state state.clock after) → Led setup state command outcome
  lanned : (name : List ℕ) (gateways : List ℕ) (after : Mesh) → joins_lan setup name gateways state.clock state.mesh ≡ Ok after → outcome ≡ Goes (gone_on state state.clock after) → Led setup state command outcome
  put_there : (put : LanPut) (after : Mesh) → put.moment ≡ state.clock → put.lan < length state.mesh.lans → with_put setup put state.mesh ≡ Ok after → outcome ≡ Goes (gone_on state state.clock after) → Led setup state command outcome
  passed : (time : ℕ) → command ≡ Run time → state.clock + time ≤ clock_limit → outcome ≡ run_until setup (state.clock + time) state → Led setup state command outcome

node_led : (setup : Setup) (state : State) (command : Command) (node : NodeLog) → node.log ≡ [] → node.made ≡ state.clock → (full : Bool) → nat_le nodes_limit (length state.mesh.nodes) ≡ full
    → Led setup state command (cond full (Ends state (Limit Nodes)) (Goes (with_node state node)))
node_led setup state command node new made true e = ended (Limit Nodes) refl
node_led setup state command node new made false e = noded node new made (leb-false nodes_limit (length state.mesh.nodes) e) refl

link_led : (setup : Setup) (state : State) (command : Command) (link : NetLink) → (HasDelay command → 1 ≤ link.delay) → (full : Bool) → Led setup state command (cond full (Ends state (Limit Links)) (Goes (with_link state link)))
link_led setup state command link delay true = ended (Limit Links) refl
link_led setup state command link delay false = linked link delay refl

input_led : (setup : Setup) (state : State) (command : Command) (place : ℕ) (line : LineGiven) → IsLineOf state command place line → (attempt : Attempt) → given_to setup place state.clock 0 (Line line) state.mesh ≡ attempt
    → Led setup state command (after_attempt state attempt)
input_led setup state command place line of (Ok after) e = given place line after of e refl
input_led setup state command place line of (Err limit) e = ended (Limit limit) refl

again_led : (setup : Setup) (state : State) (command : Command) (place : ℕ) (attempt : Attempt) → delivered setup place state.clock state.mesh ≡ attempt → Led setup state command (after_attempt state attempt)
again_led setup state command place (Ok after) e = again place after e refl
again_led setup state command place (Err limit) e = ended (Limit limit) refl

all_led : (setup : Setup) (state : State) (command : Command) (places : List ℕ) (line : LineGiven) → IsNoLan line → line_reboots line ≡ false → (attempt : Attempt) → all_given setup places state.clock (Line line) state.mesh ≡ attempt
    → Led setup state command (after_attempt state attempt)
all_led setup state command places line plain calm (Ok after) e = given_all places line after plain calm e refl
all_led setup state command places line plain calm (Err limit) e = ended (Limit limit) refl

lan_led : (setup : Setup) (state : State) (command : Command) (name : List ℕ) (gateways : List ℕ) (attempt : Attempt) → joins_lan setup name gateways state.clock state.mesh ≡ attempt
    → Led setup state command (after_attempt state attempt)
lan_led setup state command name gateways (Ok after) e = lanned name gateways after e refl
lan_led setup state command name gateways (Err limit) e = ended (Limit limit) refl

put_led : (setup : Setup) (state : State) (command : Command) (put : LanPut) → put.moment ≡ state.clock → put.lan < length state.mesh.lans → (attempt : Attempt) → with_put setup put state.mesh ≡ attempt
    → Led setup state command (after_attempt state attempt)
put_led setup state command put at low (Ok after) e = put_there put after at low e refl
put_led setup state command put at low (Err limit) e = ended (Limit limit) refl

time_led : (setup : Setup) (state : State) (time : ℕ) (past : Bool) → nat_lt clock_limit (state.clock + time) ≡ past
    → Led setup state (Run time) (cond past (Ends state (Limit Clock)) (run_until setup (state.clock + time) state))
time_led setup state time true e = ended (Limit Clock) refl
time_led setup state time false e = passed time refl (ltb-false clock_limit (state.clock + time) e) refl

-- a step at the node of a name, or at none
at_led : (setup : Setup) (state : State) (command : Command) (step : ℕ → Step) (o : Option ℕ) → ((place : ℕ) → o ≡ Some place → Led setup state command (step place state))
    → Led setup state command (option_map_or (λ place. step place state) o (Goes state))
at_led setup state command step None all = stayed refl
at_led setup state command step (Some place) all = all place refl

-- a step at the LAN of a name, or another
lan_or_led : (setup : Setup) (state : State) (command : Command) (on_lan : ℕ → Step) (other : Outcome) (o : Option ℕ) → ((lan : ℕ) → o ≡ Some lan → Led setup state command (on_lan lan state)) → Led setup state command other
    → Led setup state command (option_map_or (λ lan. on_lan lan state) o other)
lan_or_led setup state command on_lan other None all else_ = else_
lan_or_led setup state command on_lan other (Some lan) all else_ = all lan refl

full_led : (setup : Setup) (state : State) (command : Command) (outcome : Outcome) (full : Bool) → Led setup state command outcome → Led setup state command (cond full (Ends state (Limit Lans)) outcome)
full_led setup state command outcome true l = ended (Limit Lans) refl
full_led setup state command outcome false l = l

show_led : (setup : Setup) (state : State) (command : Command) (print : State → NodeLog → Printed) (o : Option NodeLog)
    → Led setup state command (option_map_or (λ node. Goes (after_print state (print state node))) o (Goes state))
show_led setup state command print None = stayed refl
show_led setup state command print (Some node) = printed (print state node) refl

-- a line that makes no gateway and reboots none
calm_line : (state : State) (command : Command) (place : ℕ) (line : LineGiven) → IsNoLan line → line_reboots line ≡ false → IsLineOf state command place line
calm_line state command place line plain calm = record { plain = plain; reboots = λ is. absurd (true≢false (sym is ∙ calm)) }

-- what a line gives at the node of a name
line_led : (setup : Setup) (state : State) (command : Command) (place : List ℕ) (line : LineGiven) → IsNoLan line → line_reboots line ≡ false
    → Led setup state command (at_node place (input_step setup line) state)
line_led setup state command place line plain calm = at_led setup state command (input_step setup line) (place_of state place)
    (λ p at. input_led setup state command p line (calm_line state command p line plain calm) (given_to setup p state.clock 0 (Line line) state.mesh) refl)

-- the node of a name reboots
reboot_led : (setup : Setup) (state : State) (name : List ℕ) → Led setup state (Reboot name) (at_node name (input_step setup RebootGiven) state)
reboot_led setup state name = at_led setup state (Reboot name) (input_step setup RebootGiven) (place_of state name)
    (λ p at. input_led setup state (Reboot name) p RebootGiven (record { plain = λ lan gateways is. cc; reboots = λ is. (name, refl, at) })
    (given_to setup p state.clock 0 (Line RebootGiven) state.mesh) refl)

-- a ping or a traceroute at the node of a name to that of another
session_led : (setup : Setup) (state : State) (command : Command) (line : Mac → LineGiven) (node target : List ℕ) → ((mac : Mac) → IsNoLan (line mac)) → ((mac : Mac) → line_reboots (line mac) ≡ false) → Led setup state command (session_step setup line node target state)
session_led setup state command line node target plain calm =
    let to : ℕ → ℕ → Step = λ place end s. input_step setup (line (address_at end s.mesh.nodes)) place s in
    at_led setup state command (λ place. at_node target (to place)) (place_of state node) (λ place at.
    at_led setup state command (to place) (place_of state target) (λ end there.
    let mac = address_at end state.mesh.nodes in
    input_led setup state command place (line mac) (calm_line state command place (line mac) (plain mac) (calm mac)) (given_to setup place state.clock 0 (Line (line mac)) state.mesh) refl))

-- the LAN of a name is one of the LANs
place_low : (name : List ℕ) (lan : ℕ) (lans : List NetLan) → position (is_lan_named name) lans ≡ Some lan → lan < length lans
place_low name lan lans e = (position-Some (is_lan_named name) lans lan (record { name = []; gateways = [] }) e).0

-- a frame comes on the LAN of a name, or is given at the node of it
place_led : (setup : Setup) (state : State) (command : Command) (place : List ℕ) (line : LineGiven) (bytes : List ℕ) → IsNoLan line → line_reboots line ≡ false
    → Led setup state command (at_place place (lan_frame_step setup bytes) (input_step setup line) state)
place_led setup state command place line bytes plain calm =
    let put : ℕ → LanPut = λ lan. record { lan = lan; moment = state.clock; bytes = bytes; by = None } in
    lan_or_led setup state command (lan_frame_step setup bytes) (at_node place (input_step setup line) state) (lan_place_of state place)
    (λ lan found. put_led setup state command (put lan) refl (place_low place lan state.mesh.lans found) (with_put setup (put lan) state.mesh) refl)
    (line_led setup state command place line plain calm)

-- a client is gone from the gateways of the LAN of a name, or from the node of it
gone_led : (setup : Setup) (state : State) (command : Command) (place : List ℕ) (line : LineGiven) → IsNoLan line → line_reboots line ≡ false → Led setup state command (at_place place (gateways_step setup line) (input_step setup line) state)
gone_led setup state command place line plain calm =
    lan_or_led setup state command (gateways_step setup line) (at_node place (input_step setup line) state) (lan_place_of state place)
    (λ lan found. all_led setup state command (gateways_at lan state.mesh.lans) line plain calm (all_given setup (gateways_at lan state.mesh.lans) state.clock (Line line) state.mesh) refl)
    (line_led setup state command place line plain calm)

pub command_led : (setup : Setup) (state : State) (command : Command) → Led setup state command (step_of setup command state)
command_led setup state Nothing = stayed refl
command_led setup state (Algo algorithm) = chose algorithm refl refl
command_led setup state (Node name mac) = node_led setup state (Node name mac) (new_node name mac state.clock) refl refl (nat_le nodes_limit (length state.mesh.nodes)) refl
command_led setup state (Link from to delay pattern throughput) =
    let link : ℕ → ℕ → NetLink = λ start end. record { from = start; to = end; delay = delay; pattern = pattern; throughput = throughput } in
    at_led setup state (Link from to delay pattern throughput) (λ start. at_node to (λ end. link_step (link start end))) (place_of state from) (λ start at.
    at_led setup state (Link from to delay pattern throughput) (λ end. link_step (link start end)) (place_of state to) (λ end there.
    link_led setup state (Link from to delay pattern throughput) (link start end) (λ has. has from to pattern delay throughput refl) (nat_le links_limit (length state.mesh.links))))
command_led setup state (Lan name gateways) =
    let places = places_named gateways 0 state.mesh.nodes in
    full_led setup state (Lan name gateways) (after_attempt state (joins_lan setup name places state.clock state.mesh)) (nat_le lans_limit (length state.mesh.lans))
    (lan_led setup state (Lan name gateways) name places (joins_lan setup name places state.clock state.mesh) refl)
command_led setup state (Frame place src dst vid text) = place_led setup state (Frame place src dst vid text) place (FrameGiven src dst vid text) (payload_spelling (record { dst = dst; src = src; vid = vid; text = text })) (λ lan gateways is. cc) refl
command_led setup state (Gone place key) = gone_led setup state (Gone place key) place (GoneGiven key) (λ lan gateways is. cc) refl
command_led setup state (Join node key) = line_led setup state (Join node key) node (JoinGiven key) (λ lan gateways is. cc) refl
command_led setup state (Leave node key) = line_led setup state (Leave node key) node (LeaveGiven key) (λ lan gateways is. cc) refl
command_led setup state (Arp node mac own asked vid) = line_led setup state (Arp node mac own asked vid) node (ArpGiven mac own asked vid) (λ lan gateways is. cc) refl
command_led setup state (Dhcp node key text) = line_led setup state (Dhcp node key text) node (DhcpGiven key text) (λ lan gateways is. cc) refl
command_led setup state (Wifi node on) = line_led setup state (Wifi node on) node (Sets (WifiSet on)) (λ lan gateways is. cc) refl
command_led setup state (GwOff node) = line_led setup state (GwOff node) node (Sets (GatewaySet NoPart)) (λ lan gateways is. cc) refl
command_led setup state (GwServer node down up) = line_led setup state (GwServer node down up) node (Sets (GatewaySet (Serves (record { download = down; upload = up })))) (λ lan gateways is. cc) refl
command_led setup state (GwClient node policy) = line_led setup state (GwClient node policy) node (Sets (GatewaySet (Chooses policy))) (λ lan gateways is. cc) refl
command_led setup state (Mcast node flags) = line_led setup state (Mcast node flags) node (Sets (MulticastSet flags)) (λ lan gateways is. cc) refl
command_led setup state (Dat node on) = line_led setup state (Dat node on) node (Sets (ArpTableSet on)) (λ lan gateways is. cc) refl
command_led setup state (Frag node longest) = line_led setup state (Frag node longest) node (Sets (LongestWholeSet longest)) (λ lan gateways is. cc) refl
command_led setup state (Vis node on) = line_led setup state (Vis node on) node (Sets (PicturesSet on)) (λ lan gateways is. cc) refl
command_led setup state (Alfred node mode) = line_led setup state (Alfred node mode) node (Sets (FactStoreSet mode)) (λ lan gateways is. cc) refl
command_led setup state (Put node type_no version text) = line_led setup state (Put node type_no version text) node (PutGiven type_no version text) (λ lan gateways is. cc) refl
command_led setup state (Get node type_no) = line_led setup state (Get node type_no) node (GetGiven type_no) (λ lan gateways is. cc) refl
command_led setup state (Ping node target) = session_led setup state (Ping node target) PingGiven node target (λ mac lan gateways is. cc) (λ mac. refl)
command_led setup state (Trace node target) = session_led setup state (Trace node target) TraceGiven node target (λ mac lan gateways is. cc) (λ mac. refl)
command_led setup state (Reboot node) = reboot_led setup state node
command_led setup state (Run time) = time_led setup state time (nat_lt clock_limit (state.clock + time)) refl
command_led setup state (Deliver number) = again_led setup state (Deliver number) (number - 1) (delivered setup (number - 1) state.clock state.mesh) refl
command_led setup state (Show node table) = show_led setup state (Show node table) (shown table) (node_named state node)
command_led setup state (Decode bytes) = printed (Decoded bytes) refl

refused_led : (setup : Setup) (state : State) (command : Command) (outcome : Outcome) (refusal : Option Refusal) → Led setup state command outcome → Led setup state command (unless_refused state refusal outcome)
refused_led setup state command outcome (Some refusal) l = ended (Refused refusal) refl
refused_led setup state command outcome None l = l

pub led : (setup : Setup) (state : State) (command : Command) → Led setup state command (carried_out setup state command)
led setup state command = refused_led setup state command (step_of setup command state) (first_refused_rule state command) (command_led setup state command)
