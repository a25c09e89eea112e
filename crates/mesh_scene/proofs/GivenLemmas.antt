-- What a line gives a node, and a frame that is delivered again: the outcome, and what becomes of the scene.
use Rattle.std.proofs.Common.{◌≡◌, ℕ, ◌-◌, ◌<◌, ◌≤◌, true, false, ◌||◌, List, length, Some, None, refl, ap, ◌∙◌, arith}
use Rattle.std.specs.Prelude.{nat_lt, ◌==◌}
use Rattle.std.specs.Option.{option_map_or, option_or}
use Rattle.std.proofs.lemmas.Bool.Decides.{nat_tests}
use Rattle.mesh_base.specs.declared.address.Mac.{Mac}
use Rattle.mesh_base.specs.declared.client.Key.{Key}
use Rattle.mesh_base.specs.declared.client.Vid.{Vid}
use Rattle.mesh_model.specs.declared.ending.Refusal.{Refusal}
use Rattle.mesh_model.specs.declared.ending.Refusal.TheVariants.{NoSuchFrame}
use Rattle.mesh_model.specs.declared.ending.Stop.TheVariants.{Refused}
use Rattle.mesh_model.specs.declared.line_form.Command.TheVariants.{Node, Link, Frame, Gone, Join, Leave, Wifi, Deliver, Show}
use Rattle.mesh_model.specs.Clients.Log.{Given, Line, Sets}
use Rattle.mesh_model.specs.Clients.Log.{Frame as GivenFrame, Gone as GivenGone, Join as GivenJoin, Leave as GivenLeave, Put as GivenPut, Get as GivenGet}
use Rattle.mesh_model.specs.Clients.Settings.{Setting, NoPart, Serves, Chooses}
use Rattle.mesh_model.specs.Clients.Settings.{ArpTable as SetsArpTable, FactStore as SetsFactStore, Gateway as SetsGateway, LongestWhole as SetsLongestWhole, Multicast as SetsMulticast, Pictures as SetsPictures, Wifi as SetsWifi}
use Rattle.mesh_model.specs.Net.Mesh.{Setup}
use Rattle.mesh_model.specs.Net.Runs.{delivered}
use Rattle.mesh_model.specs.Packets.Payload.{payload_spelling}
use Rattle.mesh_model.specs.Run.Names.{OfNode}
use Rattle.mesh_model.specs.Run.Outcome.{Ends, Goes, Outcome}
use Rattle.mesh_model.specs.Run.Passing.{after_attempt}
use Rattle.mesh_model.specs.Run.Rules.{carried_out, name_refusal, unless_refused}
use Rattle.mesh_model.specs.Run.State.{State, place_of}
use Rattle.mesh_model.specs.Run.Steps.{at_node, input_step, lan_frame_step, setting_step}
use Rattle.mesh_scene.specs.Inner.AtNodes.{given_at, given_step}
use Rattle.mesh_scene.specs.Inner.AtPlaces.{all_step, placed_at}
use Rattle.std.specs.Prelude.{IfSome, Option}
use Rattle.mesh_model.specs.declared.line_form.Command.{Command}
use Rattle.mesh_model.specs.declared.line_form.Command.TheVariants.{Nothing, Algo, Lan, Arp, Dhcp, GwOff, GwServer, GwClient, Mcast, Dat, Frag, Vis, Alfred, Put, Get, Ping, Trace, Reboot, Run, Decode}
use Rattle.mesh_scene.specs.Inner.AtNodes.{given_of}

-- ---- what a line gives a node

pub given_there : (setup : Setup) (state : State) (name : List ℕ) (given : Given) (place : ℕ) → name_refusal state (OfNode name) ≡ None → place_of state name ≡ Some place → given_at setup name given state ≡ given_step setup given place state
given_there setup state name given place allowed is =
    ap (λ (o : Option Refusal). unless_refused state o (at_node name (given_step setup given) state)) allowed ∙ ap (λ (o : Option ℕ). option_map_or (λ at. given_step setup given at state) o (Goes state)) is

-- the rule of the name is the only one left
one_rule : (state : State) (rule : Option Refusal) (outcome : Outcome) → unless_refused state (option_or (option_or rule None) None) outcome ≡ unless_refused state rule outcome
one_rule state (Some refusal) outcome = refl
one_rule state None outcome = refl

-- so it is where a setting is given
set_so : (setup : Setup) (state : State) (node : List ℕ) (setting : Setting) → unless_refused state (option_or (option_or (name_refusal state (OfNode node)) None) None) (setting_step setup node setting state) ≡ given_at setup node (Line (Sets setting)) state
set_so setup state node setting = one_rule state (name_refusal state (OfNode node)) (setting_step setup node setting state)

-- a command that gives a node something is carried out by giving it
pub given_so : (setup : Setup) (state : State) (command : Command) → IfSome (given_of command) (λ given. carried_out setup state command ≡ given_at setup given.0 given.1 state)
given_so setup state Nothing = tt
given_so setup state (Algo algorithm) = tt
given_so setup state (Node name mac) = tt
given_so setup state (Link from to delay pattern throughput) = tt
given_so setup state (Lan name gateways) = tt
given_so setup state (Frame place src dst vid text) = tt
given_so setup state (Gone place key) = tt
given_so setup state (Join node key) = one_rule state (name_refusal state (OfNode node)) (at_node node (input_step setup (GivenJoin key)) state)
given_so setup state (Leave node key) = one_rule state (name_refusal state (OfNode node)) (at_node node (input_step setup (GivenLeave key)) state)
given_so setup state (Arp node mac own asked vid) = tt
given_so setup state (Dhcp node key text) = tt
given_so setup state (Wifi node on) = set_so setup state node (SetsWifi on)
given_so setup state (GwOff node) = set_so setup state node (SetsGateway NoPart)
given_so setup state (GwServer node down up) = set_so setup state node (SetsGateway (Serves (record { download = down; upload = up })))
given_so setup state (GwClient node policy) = set_so setup state node (SetsGateway (Chooses policy))
given_so setup state (Mcast node flags) = set_so setup state node (SetsMulticast flags)
given_so setup state (Dat node on) = set_so setup state node (SetsArpTable on)
given_so setup state (Frag node longest) = set_so setup state node (SetsLongestWhole longest)
given_so setup state (Vis node on) = set_so setup state node (SetsPictures on)
given_so setup state (Alfred node mode) = set_so setup state node (SetsFactStore mode)
given_so setup state (Put node type_no version text) = one_rule state (name_refusal state (OfNode node)) (at_node node (input_step setup (GivenPut type_no version text)) state)
given_so setup state (Get node type_no) = one_rule state (name_refusal state (OfNode node)) (at_node node (input_step setup (GivenGet type_no)) state)
given_so setup state (Ping node target) = tt
given_so setup state (Trace node target) = tt
given_so setup state (Reboot node) = tt
given_so setup state (Run time) = tt
given_so setup state (Deliver number) = tt
given_so setup state (Show node table) = tt
given_so setup state (Decode bytes) = tt

-- ---- a frame or a departure at a place

-- a frame goes to the LAN or the node of a name
pub frame_placed : (setup : Setup) (state : State) (name : List ℕ) (src dst : Mac) (vid : Vid) (text : List ℕ)
    → carried_out setup state (Frame name src dst vid text)
    ≡ placed_at name (lan_frame_step setup (payload_spelling (record { dst = dst; src = src; vid = vid; text = text }))) (given_step setup (Line (GivenFrame src dst vid text))) state
frame_placed setup state name src dst vid text = refl

-- a client that is gone is gone from the gateways of the LAN, or from the node, of a name
pub gone_placed : (setup : Setup) (state : State) (name : List ℕ) (key : Key)
    → carried_out setup state (Gone name key) ≡ placed_at name (all_step setup (Line (GivenGone key))) (given_step setup (Line (GivenGone key))) state
gone_placed setup state name key = refl

-- ---- a frame that is delivered again

pub no_such_frame : (setup : Setup) (state : State) (number : ℕ) → ((number == 0) || nat_lt (length state.mesh.frames) number) ≡ true → carried_out setup state (Deliver number) ≡ Ends state (Refused NoSuchFrame)
no_such_frame setup state number none = rw none refl

pub frame_again : (setup : Setup) (state : State) (number : ℕ) → ((number == 0) || nat_lt (length state.mesh.frames) number) ≡ false
    → carried_out setup state (Deliver number) ≡ after_attempt state (delivered setup (number - 1) state.clock state.mesh)
frame_again setup state number there = rw there refl

pub deliver_none : (setup : Setup) (state : State) (number : ℕ) → number ≡ 0 → carried_out setup state (Deliver number) ≡ Ends state (Refused NoSuchFrame)
deliver_none setup state number is = no_such_frame setup state number (grind (arith, nat_tests, is))

pub deliver_past : (setup : Setup) (state : State) (number : ℕ) → length state.mesh.frames < number → carried_out setup state (Deliver number) ≡ Ends state (Refused NoSuchFrame)
deliver_past setup state number past = no_such_frame setup state number (grind (arith, nat_tests, past))

pub deliver_again : (setup : Setup) (state : State) (number : ℕ) → (number ≡ 0 → ⊥) → number ≤ length state.mesh.frames
    → carried_out setup state (Deliver number) ≡ after_attempt state (delivered setup (number - 1) state.clock state.mesh)
deliver_again setup state number some there = frame_again setup state number (grind (arith, nat_tests, some, there))
