-- Tables of nodes, and the node of a name.
use Rattle.std.proofs.Common.{◌≡◌, ℕ, ◌<◌, ◌≤◌, ◌⊎◌, inl, inr, get_or, List, [], ◌++◌, length, slice_get, Some, None, ap, ◌∙◌, arith}
use Rattle.std.proofs.lemmas.Option.{slice_get_cases}
use Rattle.mesh_base.specs.declared.address.Mac.{Mac}
use Rattle.mesh_model.specs.declared.line_form.Algorithm.{Algorithm}
use Rattle.mesh_model.specs.declared.ending.Refusal.{Refusal}
use Rattle.mesh_model.specs.declared.line_form.Command.TheVariants.{Show}
use Rattle.mesh_model.specs.declared.line_form.Table.{Table}
use Rattle.mesh_model.specs.Net.Limits.{scenario_setup}
use Rattle.mesh_model.specs.Net.Mesh.{NodeLog, Setup}
use Rattle.mesh_model.specs.Routes.Queries.{Queries}
use Rattle.mesh_model.specs.Routes.RouteLog.{RouteLog}
use Rattle.mesh_model.specs.Run.Names.{OfNode}
use Rattle.mesh_model.specs.Run.Outcome.{Goes}
use Rattle.mesh_model.specs.Run.Rules.{carried_out, name_refusal, unless_refused}
use Rattle.mesh_model.specs.Run.Shown.{after_print, shown}
use Rattle.mesh_model.specs.Run.Steps.{show_step}
use Rattle.mesh_model.specs.Run.State.{Printed, State, place_of, printed_text}
use Rattle.mesh_scene.specs.AnswersCommand.{Carries, HasLineCause}
use Rattle.mesh_scene.specs.Inner.AtNodes.{IsNameFault}
use Rattle.mesh_scene.specs.declared.fault.LineFault.{LineFault}
use Rattle.mesh_scene.proofs.NameLemmas.{first_fails}
use Rattle.mesh_scene.specs.SceneStands.{SceneStands}
use Rattle.mesh_scene.specs.declared.scene.Scene.{Scene}
use Rattle.mesh_scene.proofs.PlaceLemmas.{place_within}
use Rattle.std.specs.Prelude.{Option, option_and_then}
use Rattle.std.specs.Option.{option_map_or, option_or}
use Rattle.mesh_show.specs.Shown.{AppendsTable}
use Rattle.mesh_scene.proofs.PrintLemmas.{carries_print}

pub node_at : (state : State) (name : List ℕ) (place : ℕ) → place_of state name ≡ Some place → (node : NodeLog) × (slice_get state.mesh.nodes place ≡ Some node)
node_at state name place is = either (slice_get_cases state.mesh.nodes place).1
  where
    either : ((x : NodeLog) × (place < length state.mesh.nodes) × (slice_get state.mesh.nodes place ≡ Some x) × (get_or state.mesh.nodes place x ≡ x)) ⊎ ((length state.mesh.nodes ≤ place) × (slice_get state.mesh.nodes place ≡ None))
        → (node : NodeLog) × (slice_get state.mesh.nodes place ≡ Some node)
    either (inl some) = (some.0, some.2)
    either (inr past) = absurd (omega (arith, past.0, place_within state name place is))

-- ---- a table

pub show_fails : (setup : Setup) (state : State) (name : List ℕ) (table : Table) (fault : LineFault) → IsNameFault state (OfNode name) fault → HasLineCause state (carried_out setup state (Show name table)) fault
show_fails setup state name table fault is = first_fails state (OfNode name) [] None (show_step name (shown table) state) fault is

-- a table is printed
pub show_carries : {A : Type 0} (algorithm : Algorithm) (queries : Mac → Queries) (stand : A → Mac → RouteLog → Type 0) (state : State) (scene : Scene A) (name : List ℕ) (table : Table) (place : ℕ) (node : NodeLog) (old text : List ℕ) → SceneStands algorithm queries stand scene state
    → name_refusal state (OfNode name) ≡ None → place_of state name ≡ Some place → slice_get state.mesh.nodes place ≡ Some node → old ≡ [] → AppendsTable state table node old text
    → Carries (SceneStands algorithm queries stand) (carried_out (scenario_setup queries) state (Show name table)) state scene text
show_carries algorithm queries stand state scene name table place node old text stands allowed is there empty gains =
    let print : NodeLog → Printed = shown table state in
    carries_print algorithm queries stand state scene (carried_out (scenario_setup queries) state (Show name table)) (print node) text stands
    (ap (λ (o : Option Refusal). unless_refused state (option_or (option_or o None) None) (show_step name (shown table) state)) allowed
    ∙ ap (λ (o : Option ℕ). option_map_or (λ row. Goes (after_print state (print row))) (option_and_then (slice_get state.mesh.nodes) o) (Goes state)) is
    ∙ ap (λ (o : Option NodeLog). option_map_or (λ row. Goes (after_print state (print row))) o (Goes state)) there)
    (gains ∙ ap (λ (before : List ℕ). before ++ printed_text state.choice (print node)) empty)
