-- What a line does to a state that gives a node something, where that is no gateway of a LAN.
use Rattle.std.proofs.Common.{◌≡◌, ℕ, Bool, true, false, List, [], ◌∷◌, Option, None, Some, is_some, ap, ap₂, ◌∙◌}
use Rattle.std.specs.Prelude.{option_and_then}
use Rattle.std.specs.Option.{option_map_or, option_or}
use Rattle.mesh_model.specs.declared.ending.Refusal.{Refusal}
use Rattle.mesh_model.specs.declared.ending.Refusal.TheVariants.{Attached}
use Rattle.mesh_model.specs.declared.ending.Stop.TheVariants.{Refused}
use Rattle.mesh_model.specs.Clients.Log.{Given}
use Rattle.mesh_model.specs.Net.Mesh.{Setup}
use Rattle.mesh_model.specs.Net.Sending.{lan_of}
use Rattle.mesh_model.specs.Run.Demands.{NoGateway, first_unmet, is_attached, refusal_if}
use Rattle.mesh_model.specs.Run.Names.{OfNode}
use Rattle.mesh_model.specs.Run.Outcome.{Ends, Goes}
use Rattle.mesh_model.specs.Run.Rules.{names_refusal, unless_refused}
use Rattle.mesh_model.specs.Run.State.{State, place_of}
use Rattle.mesh_model.specs.Run.Steps.{at_node}
use Rattle.mesh_scene.specs.AnswersCommand.{HasLineCause}
use Rattle.mesh_scene.specs.Inner.AtNodes.{IsNameFault, IsNodePlace, given_apart, given_step}
use Rattle.mesh_scene.specs.declared.fault.LineFault.{LineFault}
use Rattle.mesh_scene.proofs.NameLemmas.{first_fails}

pub apart_fails : (setup : Setup) (state : State) (name : List ℕ) (given : Given) (fault : LineFault) → IsNameFault state (OfNode name) fault → HasLineCause state (given_apart setup name given state) fault
apart_fails setup state name given fault is = first_fails state (OfNode name) [] (first_unmet state (NoGateway name)) (at_node name (given_step setup given) state) fault is

-- whether the node of a name is a gateway, by its place
at_gateway : (state : State) (name : List ℕ) (place : ℕ) → place_of state name ≡ Some place → is_attached state name ≡ is_some (lan_of place state.mesh.lans)
at_gateway state name place is = ap (λ (o : Option ℕ). is_some (option_and_then (λ at. lan_of at state.mesh.lans) o)) is

-- the rule on the name, and the one behind it
abbrev rules : Option Refusal → Bool → Option Refusal
rules name attached = option_or (option_or name None) (refusal_if attached Attached)

-- by whether the node is a gateway
rules_answer : (state : State) (name : List ℕ) (place : ℕ) (attached : Bool) → IsNodePlace state name place → is_some (lan_of place state.mesh.lans) ≡ attached
    → option_or (names_refusal state (OfNode name ∷ [])) (first_unmet state (NoGateway name)) ≡ refusal_if attached Attached
rules_answer state name place attached there is = ap₂ rules there.allowed (at_gateway state name place there.at ∙ is)

pub apart_attached : (setup : Setup) (state : State) (name : List ℕ) (given : Given) (place : ℕ) → IsNodePlace state name place → is_some (lan_of place state.mesh.lans) ≡ true → given_apart setup name given state ≡ Ends state (Refused Attached)
apart_attached setup state name given place there attached =
    ap (λ (o : Option Refusal). unless_refused state o (at_node name (given_step setup given) state)) (rules_answer state name place true there attached)

pub apart_given : (setup : Setup) (state : State) (name : List ℕ) (given : Given) (place : ℕ) → IsNodePlace state name place → is_some (lan_of place state.mesh.lans) ≡ false → given_apart setup name given state ≡ given_step setup given place state
apart_given setup state name given place there apart =
    ap (λ (o : Option Refusal). unless_refused state o (at_node name (given_step setup given) state)) (rules_answer state name place false there apart)
    ∙ ap (λ (o : Option ℕ). option_map_or (λ at. given_step setup given at state) o (Goes state)) there.at
