-- Nodes and links that join a scene, and the algorithm that is chosen before them.
use Rattle.std.proofs.Common.{◌≡◌, ℕ, ◌≤◌, true, false, if◌then◌else◌, List, [], ◌∷◌, ◌++◌, length, Option, None, refl, sym, subst, ap, ap₂, ◌∙◌, append-nil, arith}
use Rattle.std.specs.Prelude.{bytes_eq, nat_le, position}
use Rattle.std.specs.Option.{option_map_or, option_or}
use Rattle.std.specs.List.{list_any}
use Rattle.std.proofs.lemmas.Bool.Decides.{nat_tests}
use Rattle.mesh_base.specs.Names.{NamesGiven, is_node_name}
use Rattle.mesh_base.specs.declared.address.Mac.{Mac}
use Rattle.mesh_base.specs.declared.names.NodeName.{NodeName}
use Rattle.mesh_model.specs.declared.line_form.Algorithm.{Algorithm}
use Rattle.mesh_model.specs.declared.ending.LimitName.{LimitName}
use Rattle.mesh_model.specs.declared.ending.LimitName.TheVariants.{Nodes, Links}
use Rattle.mesh_model.specs.declared.ending.Refusal.TheVariants.{AddressTaken, LinkTaken, NameTaken, SameNode}
use Rattle.mesh_model.specs.declared.ending.Refusal.{Refusal}
use Rattle.mesh_model.specs.declared.ending.Stop.TheVariants.{Refused}
use Rattle.mesh_model.specs.declared.ending.Stop.TheVariants.{Limit as StopLimit}
use Rattle.mesh_model.specs.declared.line_form.Command.TheVariants.{Node, Link}
use Rattle.mesh_model.specs.Net.Limits.{scenario_setup}
use Rattle.mesh_model.specs.Net.Mesh.{NodeLog, NetLink, Setup, has_address}
use Rattle.mesh_model.specs.Net.Runs.{leads}
use Rattle.mesh_model.specs.Routes.Queries.{Queries}
use Rattle.mesh_model.specs.Routes.RouteLog.{RouteLog}
use Rattle.mesh_model.specs.Run.Demands.{NewLink, are_linked, first_unmet, is_taken, refusal_if}
use Rattle.mesh_model.specs.Run.Names.{OfNode}
use Rattle.mesh_model.specs.Run.Outcome.{Ends, Goes}
use Rattle.mesh_model.specs.Run.Rules.{carried_out, name_refusal, unless_refused}
use Rattle.mesh_model.specs.Run.State.{State, names_of, place_of, text_of}
use Rattle.mesh_model.specs.Run.Steps.{at_node, link_between, link_step, new_node, with_link, with_node}
use Rattle.mesh_net.specs.Tells.{LinkTells, NodeTells}
use Rattle.mesh_net.specs.declared.failure.NetErr.{NetErr}
use Rattle.mesh_net.specs.declared.failure.NetErr.TheVariants.{Limit, Dead, Memory}
use Rattle.mesh_scene.specs.AnswersCommand.{Carries, HasLineCause}
use Rattle.mesh_net.specs.NetStands.{NetStands}
use Rattle.mesh_scene.specs.SceneStands.{AreApart, SceneStands, ends_of}
use Rattle.mesh_scene.specs.Inner.AtNodes.{IsNameFault, IsNodePlace}
use Rattle.mesh_scene.specs.declared.fault.LineFault.{LineFault}
use Rattle.mesh_scene.specs.Inner.NetAnswers.{fault_of}
use Rattle.mesh_scene.specs.declared.scene.Scene.{Scene}
use Rattle.mesh_scene.proofs.NameLemmas.{first_fails, second_fails}
use Rattle.mesh_scene.proofs.PlaceLemmas.{apart_next, map_last}

-- ---- a new node

-- the names with that of one more node
abbrev pub with_name : NodeName → NamesGiven → NamesGiven
with_name new names = record { nodes = names.nodes ++ new ∷ []; lans = names.lans }

-- names of which two parts are these
pub names_by_parts : (names : NamesGiven) (nodes : List NodeName) (lans : List (List ℕ)) → names.nodes ≡ nodes → names.lans ≡ lans → names ≡ record { nodes = nodes; lans = lans }
names_by_parts names nodes lans is others = ap₂ (λ (a : List NodeName) (b : List (List ℕ)). record { nodes = a; lans = b }) is others

pub name_taken : (setup : Setup) (state : State) (name : List ℕ) (mac : Mac) → is_taken state name ≡ true → carried_out setup state (Node name mac) ≡ Ends state (Refused NameTaken)
name_taken setup state name mac taken = rw taken refl

pub address_taken : (setup : Setup) (state : State) (name : List ℕ) (mac : Mac) → is_taken state name ≡ false → list_any (has_address mac) state.mesh.nodes ≡ true
    → carried_out setup state (Node name mac) ≡ Ends state (Refused AddressTaken)
address_taken setup state name mac free taken = rw (free, taken) refl

nodes_full : (setup : Setup) (state : State) (name : List ℕ) (mac : Mac) → is_taken state name ≡ false → list_any (has_address mac) state.mesh.nodes ≡ false → nat_le 64 (length state.mesh.nodes) ≡ true
    → carried_out setup state (Node name mac) ≡ Ends state (StopLimit Nodes)
nodes_full setup state name mac free apart full = rw (free, apart, full) refl

node_joins : (setup : Setup) (state : State) (name : List ℕ) (mac : Mac) → is_taken state name ≡ false → list_any (has_address mac) state.mesh.nodes ≡ false → nat_le 64 (length state.mesh.nodes) ≡ false
    → carried_out setup state (Node name mac) ≡ Goes (with_node state (new_node name mac state.clock))
node_joins setup state name mac free apart room = rw (free, apart, room) refl

pub node_fails : (setup : Setup) (state : State) (name : List ℕ) (mac : Mac) (error : NetErr) → is_taken state name ≡ false → list_any (has_address mac) state.mesh.nodes ≡ false
    → NodeTells (length state.mesh.nodes) error → HasLineCause state (carried_out setup state (Node name mac)) (fault_of error)
node_fails setup state name mac (Limit limit) free apart tells =
    nodes_full setup state name mac free apart (grind (arith, nat_tests, tells.1)) ∙ ap (λ (l : LimitName). Ends state (StopLimit l)) (sym tells.0)
node_fails setup state name mac Dead free apart tells = absurd tells
node_fails setup state name mac Memory free apart tells = tt

pub node_carries : {A : Type 0} (algorithm : Algorithm) (queries : Mac → Queries) (stand : A → Mac → RouteLog → Type 0) (state : State) (old new : Scene A) (name : List ℕ) (mac : Mac) → SceneStands algorithm queries stand old state → is_taken state name ≡ false → list_any (has_address mac) state.mesh.nodes ≡ false
    → position (is_node_name name) old.names.nodes ≡ None → length state.mesh.nodes ≤ 63 → NetStands queries stand new.net state.choice state.clock (record state.mesh { nodes = state.mesh.nodes ++ new_node name mac state.clock ∷ [] })
    → new.names ≡ with_name (record { mac = mac; name = name }) old.names → new.ends.items ≡ old.ends.items
    → Carries (SceneStands algorithm queries stand) (carried_out (scenario_setup queries) state (Node name mac)) state new []
node_carries algorithm queries stand state old new name mac stands free apart new_name room net names ends =
    let node = new_node name mac state.clock in
    record {
      after = with_node state node;
      carried = node_joins (scenario_setup queries) state name mac free apart (grind (arith, nat_tests, room));
      standing = record {
        algorithm_is = stands.algorithm_is;
        net_is = net;
        names_are = names ∙ ap (with_name (record { mac = mac; name = name })) stands.names_are
            ∙ ap (λ (ns : List NodeName). record { nodes = ns; lans = (names_of state.mesh).lans }) (sym (map_last (λ (n : NodeLog). record { mac = n.mac; name = n.name }) state.mesh.nodes node));
        apart = subst (λ (ns : NamesGiven). AreApart ns.nodes) (sym names) (apart_next old.names.nodes (record { mac = mac; name = name }) stands.apart new_name);
        ends_are = ends ∙ stands.ends_are;
      };
      text = sym (append-nil (text_of state));
    }

-- ---- a new link

-- the rules of a link line
abbrev rules : State → List ℕ → List ℕ → Option Refusal → Option Refusal → Option Refusal
rules state from to start end = option_or (option_or start (option_or end None)) (first_unmet state (NewLink from to))

-- its names can be used, and its nodes are two
begun : (setup : Setup) (state : State) (from to pattern : List ℕ) (delay tp start end : ℕ) → IsNodePlace state from start → IsNodePlace state to end → bytes_eq from to ≡ false
    → carried_out setup state (Link from to delay pattern tp)
    ≡ unless_refused state (refusal_if (list_any (leads start end) state.mesh.links) LinkTaken) (link_step (record { from = start; to = end; delay = delay; pattern = pattern; throughput = tp }) state)
begun setup state from to pattern delay tp start end starts ends apart =
    let link : ℕ → ℕ → NetLink = λ a b. record { from = a; to = b; delay = delay; pattern = pattern; throughput = tp } in
    let steps = link_between from to link state in
    ap₂ (λ (a b : Option Refusal). unless_refused state (rules state from to a b) steps) starts.allowed ends.allowed
    ∙ ap (λ same. unless_refused state (option_or (refusal_if same SameNode) (refusal_if (are_linked state from to) LinkTaken)) steps) apart
    ∙ ap (λ (o : Option ℕ). unless_refused state (refusal_if (option_map_or (λ a. option_map_or (λ b. list_any (leads a b) state.mesh.links) (place_of state to) false) o false) LinkTaken)
    (option_map_or (λ a. at_node to (λ b. link_step (link a b)) state) o (Goes state))) starts.at
    ∙ ap (λ (o : Option ℕ). unless_refused state (refusal_if (option_map_or (λ b. list_any (leads start b) state.mesh.links) o false) LinkTaken)
    (option_map_or (λ b. link_step (link start b) state) o (Goes state))) ends.at

pub from_fails : (setup : Setup) (state : State) (from to pattern : List ℕ) (delay tp : ℕ) (fault : LineFault) → IsNameFault state (OfNode from) fault → HasLineCause state (carried_out setup state (Link from to delay pattern tp)) fault
from_fails setup state from to pattern delay tp fault is =
    first_fails state (OfNode from) (OfNode to ∷ []) (first_unmet state (NewLink from to)) (link_between from to (λ a b. record { from = a; to = b; delay = delay; pattern = pattern; throughput = tp }) state) fault is

pub to_fails : (setup : Setup) (state : State) (from to pattern : List ℕ) (delay tp : ℕ) (fault : LineFault) → name_refusal state (OfNode from) ≡ None → IsNameFault state (OfNode to) fault → HasLineCause state (carried_out setup state (Link from to delay pattern tp)) fault
to_fails setup state from to pattern delay tp fault allowed is =
    second_fails state (OfNode from) (OfNode to) [] (first_unmet state (NewLink from to)) (link_between from to (λ a b. record { from = a; to = b; delay = delay; pattern = pattern; throughput = tp }) state) fault allowed is

pub link_same : (setup : Setup) (state : State) (from to pattern : List ℕ) (delay tp : ℕ) → name_refusal state (OfNode from) ≡ None → name_refusal state (OfNode to) ≡ None → bytes_eq from to ≡ true
    → carried_out setup state (Link from to delay pattern tp) ≡ Ends state (Refused SameNode)
link_same setup state from to pattern delay tp allowed other same =
    let steps = link_between from to (λ a b. record { from = a; to = b; delay = delay; pattern = pattern; throughput = tp }) state in
    ap₂ (λ (a b : Option Refusal). unless_refused state (rules state from to a b) steps) allowed other
    ∙ ap (λ s. unless_refused state (option_or (refusal_if s SameNode) (refusal_if (are_linked state from to) LinkTaken)) steps) same

pub link_taken : (setup : Setup) (state : State) (from to pattern : List ℕ) (delay tp start end : ℕ) → IsNodePlace state from start → IsNodePlace state to end → bytes_eq from to ≡ false
    → list_any (leads start end) state.mesh.links ≡ true → carried_out setup state (Link from to delay pattern tp) ≡ Ends state (Refused LinkTaken)
link_taken setup state from to pattern delay tp start end starts ends apart taken =
    let link : NetLink = record { from = start; to = end; delay = delay; pattern = pattern; throughput = tp } in
    begun setup state from to pattern delay tp start end starts ends apart ∙ ap (λ t. unless_refused state (refusal_if t LinkTaken) (link_step link state)) taken

links_full : (setup : Setup) (state : State) (from to pattern : List ℕ) (delay tp start end : ℕ) → IsNodePlace state from start → IsNodePlace state to end → bytes_eq from to ≡ false
    → list_any (leads start end) state.mesh.links ≡ false → nat_le 512 (length state.mesh.links) ≡ true
    → carried_out setup state (Link from to delay pattern tp) ≡ Ends state (StopLimit Links)
links_full setup state from to pattern delay tp start end starts ends apart free full =
    let link : NetLink = record { from = start; to = end; delay = delay; pattern = pattern; throughput = tp } in
    begun setup state from to pattern delay tp start end starts ends apart ∙ ap (λ t. unless_refused state (refusal_if t LinkTaken) (link_step link state)) free
    ∙ ap (λ f. if f then Ends state (StopLimit Links) else Goes (with_link state link)) full

link_joins : (setup : Setup) (state : State) (from to pattern : List ℕ) (delay tp start end : ℕ) → IsNodePlace state from start → IsNodePlace state to end → bytes_eq from to ≡ false
    → list_any (leads start end) state.mesh.links ≡ false → nat_le 512 (length state.mesh.links) ≡ false
    → carried_out setup state (Link from to delay pattern tp) ≡ Goes (with_link state (record { from = start; to = end; delay = delay; pattern = pattern; throughput = tp }))
link_joins setup state from to pattern delay tp start end starts ends apart free room =
    let link : NetLink = record { from = start; to = end; delay = delay; pattern = pattern; throughput = tp } in
    begun setup state from to pattern delay tp start end starts ends apart ∙ ap (λ t. unless_refused state (refusal_if t LinkTaken) (link_step link state)) free
    ∙ ap (λ f. if f then Ends state (StopLimit Links) else Goes (with_link state link)) room

pub link_fails : (setup : Setup) (state : State) (from to pattern : List ℕ) (delay tp start end : ℕ) (error : NetErr) → IsNodePlace state from start → IsNodePlace state to end → bytes_eq from to ≡ false
    → list_any (leads start end) state.mesh.links ≡ false → LinkTells (length state.mesh.links) error
    → HasLineCause state (carried_out setup state (Link from to delay pattern tp)) (fault_of error)
link_fails setup state from to pattern delay tp start end (Limit limit) starts ends apart free tells =
    links_full setup state from to pattern delay tp start end starts ends apart free (grind (arith, nat_tests, tells.1)) ∙ ap (λ (l : LimitName). Ends state (StopLimit l)) (sym tells.0)
link_fails setup state from to pattern delay tp start end Dead starts ends apart free tells = absurd tells
link_fails setup state from to pattern delay tp start end Memory starts ends apart free tells = tt

pub link_carries : {A : Type 0} (algorithm : Algorithm) (queries : Mac → Queries) (stand : A → Mac → RouteLog → Type 0) (state : State) (old new : Scene A) (from to pattern : List ℕ) (delay tp start end : ℕ) → SceneStands algorithm queries stand old state → IsNodePlace state from start → IsNodePlace state to end
    → bytes_eq from to ≡ false → list_any (leads start end) state.mesh.links ≡ false → length state.mesh.links ≤ 511
    → NetStands queries stand new.net state.choice state.clock (record state.mesh { links = state.mesh.links ++ record { from = start; to = end; delay = delay; pattern = pattern; throughput = tp } ∷ [] })
    → new.names ≡ old.names → new.ends.items ≡ old.ends.items ++ record { from = start; to = end } ∷ []
    → Carries (SceneStands algorithm queries stand) (carried_out (scenario_setup queries) state (Link from to delay pattern tp)) state new []
link_carries algorithm queries stand state old new from to pattern delay tp start end stands starts leads_to apart free room net names ends =
    let link : NetLink = record { from = start; to = end; delay = delay; pattern = pattern; throughput = tp } in
    record {
      after = with_link state link;
      carried = link_joins (scenario_setup queries) state from to pattern delay tp start end starts leads_to apart free (grind (arith, nat_tests, room));
      standing = record {
        algorithm_is = stands.algorithm_is;
        net_is = net;
        names_are = names ∙ stands.names_are;
        apart = subst (λ (ns : NamesGiven). AreApart ns.nodes) (sym names) stands.apart;
        ends_are = ends ∙ ap (λ es. es ++ ends_of link ∷ []) stands.ends_are ∙ sym (map_last ends_of state.mesh.links link);
      };
      text = sym (append-nil (text_of state));
    }
