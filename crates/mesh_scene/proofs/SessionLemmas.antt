-- What lines that begin a session do to a state.
use Rattle.std.proofs.Common.{◌≡◌, ℕ, Bool, true, false, List, [], ◌∷◌, Option, None, refl, sym, ap, ap₂, ◌∙◌}
use Rattle.std.specs.Prelude.{bytes_eq, nat_lt, length}
use Rattle.std.specs.Option.{option_map_or, option_or}
use Rattle.mesh_base.specs.declared.address.Mac.{Mac}
use Rattle.mesh_model.specs.declared.ending.Refusal.{Refusal}
use Rattle.mesh_model.specs.declared.ending.Refusal.TheVariants.{AlgoAfterNode, SameNode}
use Rattle.mesh_model.specs.declared.ending.Stop.TheVariants.{Refused}
use Rattle.mesh_model.specs.declared.line_form.Algorithm.{Algorithm}
use Rattle.mesh_model.specs.declared.line_form.Command.TheVariants.{Algo}
use Rattle.mesh_model.specs.Clients.Log.{Line, LineGiven}
use Rattle.mesh_model.specs.Net.Mesh.{Setup, address_at}
use Rattle.mesh_model.specs.Run.Demands.{TwoNodes, first_unmet, refusal_if}
use Rattle.mesh_model.specs.Run.Names.{OfNode}
use Rattle.mesh_model.specs.Run.Outcome.{Ends, Goes}
use Rattle.mesh_model.specs.Run.Rules.{carried_out, name_refusal, unless_refused}
use Rattle.mesh_model.specs.Run.State.{State}
use Rattle.mesh_model.specs.Run.Steps.{at_node, input_step, session_step}
use Rattle.mesh_scene.specs.AnswersCommand.{HasLineCause}
use Rattle.mesh_scene.specs.Inner.AtNodes.{IsNameFault, IsNodePlace, given_at, session_at}
use Rattle.mesh_scene.specs.declared.fault.LineFault.{LineFault}
use Rattle.mesh_scene.proofs.GivenLemmas.{given_there}
use Rattle.mesh_scene.proofs.NameLemmas.{first_fails, second_fails}

-- ---- the algorithm is chosen

pub algo_late : (setup : Setup) (state : State) (algorithm : Algorithm) → nat_lt 0 (length state.mesh.nodes) ≡ true → carried_out setup state (Algo algorithm) ≡ Ends state (Refused AlgoAfterNode)
algo_late setup state algorithm late = rw late refl

pub algo_chosen : (setup : Setup) (state : State) (algorithm : Algorithm) → nat_lt 0 (length state.mesh.nodes) ≡ false
    → carried_out setup state (Algo algorithm) ≡ Goes (record state { algorithm = algorithm })
algo_chosen setup state algorithm early = rw early refl

-- ---- a session begins

pub node_fails : (setup : Setup) (state : State) (node target : List ℕ) (line : Mac → LineGiven) (fault : LineFault) → IsNameFault state (OfNode node) fault → HasLineCause state (session_at setup node target line state) fault
node_fails setup state node target line fault is =
    first_fails state (OfNode node) (OfNode target ∷ []) (first_unmet state (TwoNodes node target)) (session_step setup line node target state) fault is

pub target_fails : (setup : Setup) (state : State) (node target : List ℕ) (line : Mac → LineGiven) (fault : LineFault) → name_refusal state (OfNode node) ≡ None → IsNameFault state (OfNode target) fault
    → HasLineCause state (session_at setup node target line state) fault
target_fails setup state node target line fault allowed is =
    second_fails state (OfNode node) (OfNode target) [] (first_unmet state (TwoNodes node target)) (session_step setup line node target state) fault allowed is

-- the rules behind the names
abbrev rules : State → Option Refusal → Option Refusal → Bool → Option Refusal
rules state node target same = option_or (option_or node (option_or target None)) (refusal_if same SameNode)

pub same_node : (setup : Setup) (state : State) (node target : List ℕ) (line : Mac → LineGiven) → name_refusal state (OfNode node) ≡ None → name_refusal state (OfNode target) ≡ None → bytes_eq node target ≡ true
    → session_at setup node target line state ≡ Ends state (Refused SameNode)
same_node setup state node target line allowed other same =
    ap (λ (o : Option Refusal). unless_refused state o (session_step setup line node target state))
    (ap₂ (λ (a b : Option Refusal). rules state a b (bytes_eq node target)) allowed other ∙ ap (rules state None None) same)

pub session_begins : (setup : Setup) (state : State) (node target : List ℕ) (line : Mac → LineGiven) (start end : ℕ) → IsNodePlace state node start → IsNodePlace state target end → bytes_eq node target ≡ false
    → session_at setup node target line state ≡ given_at setup node (Line (line (address_at end state.mesh.nodes))) state
session_begins setup state node target line start end from to apart =
    let mac = address_at end state.mesh.nodes in
    ap (λ (o : Option Refusal). unless_refused state o (session_step setup line node target state))
    (ap₂ (λ (a b : Option Refusal). rules state a b (bytes_eq node target)) from.allowed to.allowed ∙ ap (rules state None None) apart)
    ∙ ap (λ (o : Option ℕ). option_map_or (λ place. at_node target (λ last s. input_step setup (line (address_at last s.mesh.nodes)) place s) state) o (Goes state)) from.at
    ∙ ap (λ (o : Option ℕ). option_map_or (λ last. input_step setup (line (address_at last state.mesh.nodes)) start state) o (Goes state)) to.at
    ∙ sym (given_there setup state node (Line (line mac)) start from.allowed from.at)
