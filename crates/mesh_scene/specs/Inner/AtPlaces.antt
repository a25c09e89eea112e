-- What a line does at the LAN or the node of a name, and at the gateways of a new LAN. The main
-- words are `placed_at`, `all_step` and `ArePlaces`.
use Rattle.std.specs.Prelude.{◌≡◌, ℕ, suc, ◌<◌, ◌||◌, ◌==◌, Bool, false, List, [], ◌∷◌, ◌++◌, length, map, Some, None, is_some, if◌then◌else◌}
use Rattle.std.specs.List.{list_any}
use Rattle.std.specs.Option.{option_or}
use Rattle.mesh_model.specs.declared.ending.Stop.TheVariants.{Refused, Limit}
use Rattle.mesh_model.specs.Clients.Log.{Given}
use Rattle.mesh_model.specs.Net.Inputs.{all_given}
use Rattle.mesh_model.specs.Net.Mesh.{NetLan, NodeLog, Setup}
use Rattle.mesh_model.specs.Net.Sending.{lan_of}
use Rattle.mesh_model.specs.Run.Demands.{NoGateway, first_unmet}
use Rattle.mesh_model.specs.Run.Names.{NameUse, OfNode, OfPlace}
use Rattle.mesh_model.specs.Run.Outcome.{Outcome}
use Rattle.mesh_model.specs.Run.Passing.{after_attempt}
use Rattle.mesh_model.specs.Run.Rules.{names_refusal, unless_refused}
use Rattle.mesh_model.specs.Run.State.{State, place_of}
use Rattle.mesh_model.specs.Net.Lans.{gateways_at}
use Rattle.mesh_model.specs.Run.Steps.{Step, at_place}
use Rattle.mesh_scene.specs.declared.fault.LineFault.{LineFault}
use Rattle.mesh_scene.specs.declared.fault.LineFault.TheVariants.{Stopped, Memory}
use Rattle.mesh_scene.specs.declared.places.Whereabouts.{Whereabouts}
use Rattle.mesh_scene.specs.declared.places.Whereabouts.TheVariants.{Lan, Node}

-- ---- at a place

-- the outcome of a line that does this at a LAN and that at a node, at the place of a name
abbrev pub placed_at : List ℕ → (ℕ → Step) → (ℕ → Step) → State → Outcome
placed_at name on_lan on_node state = unless_refused state
    (option_or (names_refusal state (OfPlace name ∷ [])) (first_unmet state (NoGateway name)))
    (at_place name on_lan on_node state)

-- what is done there
abbrev pub step_there : Whereabouts → (ℕ → Step) → (ℕ → Step) → Step
step_there (Lan lan) on_lan on_node = on_lan lan
step_there (Node node) on_lan on_node = on_node node

-- a LAN stands there
abbrev pub IsWithin : State → Whereabouts → Type 0
IsWithin state (Lan lan) = lan < length state.mesh.lans
IsWithin state (Node node) = Unit {0}

-- each gateway of the LAN at a place is given something, now
abbrev pub all_step : Setup → Given → ℕ → Step
all_step setup given lan state = after_attempt state
    (all_given setup (gateways_at lan state.mesh.lans) state.clock given state.mesh)

-- ---- the gateways of a new LAN

-- a fault is that of the first of these names that can't be used; want of memory is free
abbrev pub IsNamesFault : State → List NameUse → LineFault → Type 0
IsNamesFault state used (Stopped (Refused refusal)) = names_refusal state used ≡ Some refusal
IsNamesFault state used (Stopped (Limit limit)) = ⊥
IsNamesFault state used Memory = Unit {0}

-- these names can be used where nodes are needed, and lead to the nodes at these places
pub record ArePlaces (state : State) (names : List (List ℕ)) (places : List ℕ) : Type 0 where
  pub allowed : names_refusal state (map OfNode names) ≡ None
  pub at : map Some places ≡ map (place_of state) names

-- whether one of these places is that of a gateway, or stands twice
abbrev pub one_of_gateways : List NetLan → List ℕ → Bool
one_of_gateways lans [] = false
one_of_gateways lans (place ∷ rest) = is_some (lan_of place lans)
    || (list_any (λ other. other == place) rest || one_of_gateways lans rest)

-- those of these places at which nodes stand of which the first has a place, in rising order
abbrev pub rising_places : List ℕ → ℕ → List NodeLog → List ℕ
rising_places places place [] = []
rising_places places place (node ∷ rest) =
    (if list_any (λ other. other == place) places then place ∷ [] else [])
    ++ rising_places places (suc place) rest
