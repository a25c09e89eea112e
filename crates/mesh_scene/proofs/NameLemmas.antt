-- The rules on the names that a line uses.
use Rattle.std.proofs.Common.{◌≡◌, ℕ, Bool, true, false, ◌||◌, List, ◌∷◌, Option, Some, None, is_some, refl, ap, ap₂, ◌∙◌}
use Rattle.std.specs.Prelude.{not, option_and_then}
use Rattle.std.specs.Option.{option_or, option_map_or}
use Rattle.mesh_model.specs.declared.ending.Refusal.{Refusal}
use Rattle.mesh_model.specs.declared.ending.Refusal.TheVariants.{Attached, UnknownName, WrongKind}
use Rattle.mesh_model.specs.declared.ending.Stop.TheVariants.{Refused, Limit}
use Rattle.mesh_model.specs.Net.Sending.{lan_of}
use Rattle.mesh_model.specs.Run.Demands.{is_attached, is_known, is_known_lan, is_taken, refusal_if}
use Rattle.mesh_model.specs.Run.Names.{NameUse, OfNode}
use Rattle.mesh_model.specs.Run.Outcome.{Outcome, Ends, Goes}
use Rattle.mesh_model.specs.Run.Rules.{name_refusal, names_refusal, unless_refused}
use Rattle.mesh_model.specs.Run.State.{State, lan_place_of, place_of}
use Rattle.mesh_model.specs.Run.Steps.{Step, at_place, at_node}
use Rattle.mesh_scene.specs.AnswersCommand.{HasLineCause}
use Rattle.mesh_scene.specs.Inner.AtNodes.{IsNameFault}
use Rattle.mesh_scene.specs.Inner.AtPlaces.{IsNamesFault, placed_at}
use Rattle.mesh_scene.specs.declared.fault.LineFault.{LineFault}
use Rattle.mesh_scene.specs.declared.fault.LineFault.TheVariants.{Stopped, Memory}

-- ---- where a node is needed

abbrev node_rule : Bool → Bool → Option Refusal
node_rule known lan = option_or (refusal_if (not (known || lan)) UnknownName) (refusal_if lan WrongKind)

with_lan : (known : Bool) → node_rule known true ≡ Some WrongKind
with_lan true = refl
with_lan false = refl

some_is : {A : Type 0} (o : Option A) (x : A) → o ≡ Some x → is_some o ≡ true
some_is o x is = ap is_some is

none_is : {A : Type 0} (o : Option A) → o ≡ None → is_some o ≡ false
none_is o is = ap is_some is

pub of_lan : (state : State) (name : List ℕ) → is_some (lan_place_of state name) ≡ true → name_refusal state (OfNode name) ≡ Some WrongKind
of_lan state name lan = ap (node_rule (is_known state name)) lan ∙ with_lan (is_known state name)

pub of_none : (state : State) (name : List ℕ) → is_some (lan_place_of state name) ≡ false → place_of state name ≡ None → name_refusal state (OfNode name) ≡ Some UnknownName
of_none state name lan none = ap₂ node_rule (none_is (place_of state name) none) lan

pub of_node : (state : State) (name : List ℕ) (place : ℕ) → is_some (lan_place_of state name) ≡ false → place_of state name ≡ Some place → name_refusal state (OfNode name) ≡ None
of_node state name place lan at = ap₂ node_rule (some_is (place_of state name) place at) lan

-- the first of a line's rules is the one on this name
pub name_fails : (state : State) (used : NameUse) (outcome : Outcome) (fault : LineFault) → IsNameFault state used fault → HasLineCause state (unless_refused state (name_refusal state used) outcome) fault
name_fails state used outcome (Stopped (Refused refusal)) is = ap (λ (o : Option Refusal). unless_refused state o outcome) is
name_fails state used outcome (Stopped (Limit limit)) is = absurd is
name_fails state used outcome Memory is = absurd is

-- a name that can't be used, before others and before what else is asked
pub first_fails : (state : State) (used : NameUse) (rest : List NameUse) (more : Option Refusal) (outcome : Outcome) (fault : LineFault) → IsNameFault state used fault
    → HasLineCause state (unless_refused state (option_or (names_refusal state (used ∷ rest)) more) outcome) fault
first_fails state used rest more outcome (Stopped (Refused refusal)) is = ap (λ (o : Option Refusal). unless_refused state (option_or (option_or o (names_refusal state rest)) more) outcome) is
first_fails state used rest more outcome (Stopped (Limit limit)) is = absurd is
first_fails state used rest more outcome Memory is = absurd is

-- a name that can't be used, behind one that can
pub second_fails : (state : State) (first used : NameUse) (rest : List NameUse) (more : Option Refusal) (outcome : Outcome) (fault : LineFault) → name_refusal state first ≡ None → IsNameFault state used fault
    → HasLineCause state (unless_refused state (option_or (names_refusal state (first ∷ used ∷ rest)) more) outcome) fault
second_fails state first used rest more outcome (Stopped (Refused refusal)) allowed is =
    ap₂ (λ (a b : Option Refusal). unless_refused state (option_or (option_or a (option_or b (names_refusal state rest))) more) outcome) allowed is
second_fails state first used rest more outcome (Stopped (Limit limit)) allowed is = absurd is
second_fails state first used rest more outcome Memory allowed is = absurd is

-- names that can't be used, before what else is asked
pub names_fail : (state : State) (used : List NameUse) (more : Option Refusal) (outcome : Outcome) (fault : LineFault) → IsNamesFault state used fault
    → HasLineCause state (unless_refused state (option_or (names_refusal state used) more) outcome) fault
names_fail state used more outcome (Stopped (Refused refusal)) is = ap (λ (o : Option Refusal). unless_refused state (option_or o more) outcome) is
names_fail state used more outcome (Stopped (Limit limit)) is = absurd is
names_fail state used more outcome Memory is = tt

-- ---- at a place

abbrev place_rule : Bool → Bool → Option Refusal
place_rule taken attached = option_or (option_or (refusal_if (not taken) UnknownName) None) (refusal_if attached Attached)

lan_takes : (known : Bool) → (known || true) ≡ true
lan_takes true = refl
lan_takes false = refl

pub known_takes : (known lan : Bool) → known ≡ true → (known || lan) ≡ true
known_takes known lan is = ap (λ b. b || lan) is

attached_stands : (o : Option ℕ) (lan : ℕ → Option ℕ) → is_some (option_and_then lan o) ≡ true → is_some o ≡ true
attached_stands (Some place) lan is = refl
attached_stands None lan is = is

pub at_gateway : (state : State) (name : List ℕ) (on_lan on_node : ℕ → Step) → is_attached state name ≡ true → placed_at name on_lan on_node state ≡ Ends state (Refused Attached)
at_gateway state name on_lan on_node attached =
    let known = attached_stands (place_of state name) (λ place. lan_of place state.mesh.lans) attached in
    ap (λ (o : Option Refusal). unless_refused state o (at_place name on_lan on_node state)) (ap₂ place_rule (known_takes (is_known state name) (is_known_lan state name) known) attached)

pub at_lan : (state : State) (name : List ℕ) (on_lan on_node : ℕ → Step) (lan : ℕ) → is_attached state name ≡ false → lan_place_of state name ≡ Some lan → placed_at name on_lan on_node state ≡ on_lan lan state
at_lan state name on_lan on_node lan free at =
    let taken = ap (λ b. is_known state name || b) (some_is (lan_place_of state name) lan at) ∙ lan_takes (is_known state name) in
    ap (λ (o : Option Refusal). unless_refused state o (at_place name on_lan on_node state)) (ap₂ place_rule taken free)
    ∙ ap (λ (o : Option ℕ). option_map_or (λ place. on_lan place state) o (at_node name on_node state)) at

pub at_the_node : (state : State) (name : List ℕ) (on_lan on_node : ℕ → Step) (node : ℕ) → is_attached state name ≡ false → lan_place_of state name ≡ None → place_of state name ≡ Some node → placed_at name on_lan on_node state ≡ on_node node state
at_the_node state name on_lan on_node node free none at =
    let taken = known_takes (is_known state name) (is_known_lan state name) (some_is (place_of state name) node at) in
    ap (λ (o : Option Refusal). unless_refused state o (at_place name on_lan on_node state)) (ap₂ place_rule taken free)
    ∙ ap (λ (o : Option ℕ). option_map_or (λ place. on_lan place state) o (at_node name on_node state)) none
    ∙ ap (λ (o : Option ℕ). option_map_or (λ place. on_node place state) o (Goes state)) at

pub at_none : (state : State) (name : List ℕ) (on_lan on_node : ℕ → Step) → lan_place_of state name ≡ None → place_of state name ≡ None → placed_at name on_lan on_node state ≡ Ends state (Refused UnknownName)
at_none state name on_lan on_node lan none =
    let taken : is_taken state name ≡ false = ap₂ (λ (a b : Bool). a || b) (none_is (place_of state name) none) (none_is (lan_place_of state name) lan) in
    ap (λ (o : Option Refusal). unless_refused state o (at_place name on_lan on_node state)) (ap (λ b. place_rule b (is_attached state name)) taken)

-- ---- a name that is given

left_of : (a b : Bool) → (a || b) ≡ false → a ≡ false
left_of true b e = cc
left_of false b e = refl

nothing : (o : Option ℕ) → is_some o ≡ false → o ≡ None
nothing None is = refl
nothing (Some x) is = cc

-- no node has a name that isn't taken
pub not_taken : (state : State) (name : List ℕ) → is_taken state name ≡ false → place_of state name ≡ None
not_taken state name free = nothing (place_of state name) (left_of (is_known state name) (is_known_lan state name) free)
