-- Commands lead to states that are reached, and nothing is due between them.
use Rattle.std.proofs.Common.{◌≡◌, ℕ, ◌+◌, ◌<◌, ◌≤◌, ◌⊎◌, inl, inr, List, [], ◌∷◌, ◌++◌, length, slice_get, Some, Ok, refl, sym, ap, ◌∙◌, subst, arith}
use Rattle.mesh_model.specs.declared.frame_choice.FrameChoice.{FrameChoice}
use Rattle.mesh_model.specs.declared.happening.Happening.{Happening}
use Rattle.mesh_model.specs.declared.line_form.Algorithm.{Algorithm}
use Rattle.mesh_model.specs.declared.line_form.Command.{Command}
use Rattle.mesh_model.specs.Net.Lans.{joins_lan, with_lan}
use Rattle.mesh_model.specs.Net.Mesh.{NodeLog, NetLan, NetLink, LanPut, Mesh, Setup}
use Rattle.mesh_model.specs.Clients.Log.{Line}
use Rattle.mesh_model.specs.Net.Sending.{with_put}
use Rattle.mesh_model.specs.Net.Next.{Has}
use Rattle.mesh_model.specs.Run.State.{Printed, State, first_state, first_watch}
use Rattle.mesh_model.specs.Run.Outcome.{Outcome, reached}
use Rattle.mesh_model.specs.Run.Passing.{gone_on}
use Rattle.mesh_model.specs.Run.Shown.{after_print}
use Rattle.mesh_model.specs.Run.Steps.{with_node, with_link}
use Rattle.mesh_laws.specs.LineLaws.{IsReached, CanPass, HasDelay}
use Rattle.mesh_laws.specs.Soundness.{FitsPlaces, GivesItsBytes, KeepsBytes}
use Rattle.mesh_laws.proofs.Schedule.Members.{get_last}
use Rattle.mesh_laws.proofs.Schedule.Steps.{Effect, all_effect, delivered_effect, lan_joins, no_ticks, put_joins, tickless}
use Rattle.mesh_laws.proofs.Schedule.Sound.{lines_keep_sound}
use Rattle.mesh_laws.proofs.Schedule.Kept.{bytes_after}
use Rattle.mesh_laws.proofs.Schedule.Added.{empty_bytes, empty_sound, lan_sound, links_sound, nodes_sound}
use Rattle.mesh_laws.proofs.Lines.Reached.{runs_are_reached}
use Rattle.mesh_laws.proofs.Lines.Ways.{Led, ended, printed, stayed, chose, noded, linked, given, again, given_all, lanned, put_there, passed}

pub first_is_reached : (choice : FrameChoice) → IsReached (first_state choice)
first_is_reached choice = record { sound = empty_sound (first_watch choice); bytes = empty_bytes (first_watch choice); past = omega arith; low = omega arith }

printing_reached : (state : State) (more : Printed) → IsReached state → IsReached (after_print state more)
printing_reached state more r = record { sound = r.sound; bytes = r.bytes; past = r.past; low = r.low }

choice_reached : (state : State) (algorithm : Algorithm) → IsReached state → IsReached (record state { algorithm = algorithm })
choice_reached state algorithm r = record { sound = r.sound; bytes = r.bytes; past = r.past; low = r.low }

-- a new node was given no frame
node_bytes : (mesh : Mesh) (new : NodeLog) → new.log ≡ [] → KeepsBytes mesh → KeepsBytes (record mesh { nodes = mesh.nodes ++ new ∷ [] })
node_bytes mesh new empty kept place node found entry has = either (get_last mesh.nodes new place node found)
  where
    either : (slice_get mesh.nodes place ≡ Some node) ⊎ (node ≡ new) → GivesItsBytes mesh.frames entry.given
    either (inl old) = kept place node old entry has
    either (inr e) = absurd (subst (λ l. Has l entry) (ap (λ (n : NodeLog). n.log) e ∙ empty) has)

node_reached : (state : State) (node : NodeLog) → node.log ≡ [] → node.made ≡ state.clock → length state.mesh.nodes < 64 → IsReached state → IsReached (with_node state node)
node_reached state node new made few r =
    let past = r.past in
    record {
      sound = nodes_sound state.mesh node r.sound new (omega (arith, past, made)) (omega (arith, few));
      bytes = node_bytes state.mesh node new r.bytes;
      past = r.past;
      low = r.low;
    }

link_reached : (state : State) (link : NetLink) → 1 ≤ link.delay → IsReached state → IsReached (with_link state link)
link_reached state link delay r = record { sound = links_sound state.mesh link r.sound delay; bytes = r.bytes; past = r.past; low = r.low }

-- an input that is no tick, at the clock
effect_reached : (setup : Setup) (state : State) (after : Mesh) → FitsPlaces setup → Effect setup no_ticks state.clock state.mesh after → IsReached state → IsReached (gone_on state state.clock after)
effect_reached setup state after fits effect r = record {
  sound = lines_keep_sound setup state.mesh state.clock after fits r.sound effect;
  bytes = bytes_after setup no_ticks state.clock state.mesh after r.bytes effect.nodes effect.adds;
  past = subst (λ (h : Happening). h.moment ≤ state.clock) (sym effect.last) r.past;
  low = r.low;
}

lan_reached : (setup : Setup) (state : State) (name gateways : List ℕ) (after : Mesh) → FitsPlaces setup → joins_lan setup name gateways state.clock state.mesh ≡ Ok after → IsReached state
    → IsReached (gone_on state state.clock after)
lan_reached setup state name gateways after fits e r =
    let lan : NetLan = record { name = name; gateways = gateways } in
    let effect = lan_joins setup name gateways state.clock state.mesh after e in
    record {
      sound = lines_keep_sound setup (with_lan lan state.mesh) state.clock after fits (lan_sound state.mesh lan r.sound) effect;
      bytes = bytes_after setup no_ticks state.clock (with_lan lan state.mesh) after r.bytes effect.nodes effect.adds;
      past = subst (λ (h : Happening). h.moment ≤ state.clock) (sym effect.last) r.past;
      low = r.low;
    }

-- a LAN frame joins at the clock
pub put_now : (setup : Setup) (state : State) (put : LanPut) (after : Mesh) → put.moment ≡ state.clock → put.lan < length state.mesh.lans → with_put setup put state.mesh ≡ Ok after
    → Effect setup no_ticks state.clock state.mesh after
put_now setup state put after at low e = subst (λ now. Effect setup no_ticks now state.mesh after) at (put_joins setup put state.mesh after low e)

pub can_pass : (setup : Setup) (time : ℕ) (state : State) → FitsPlaces setup → IsReached state → state.clock + time ≤ 1099511627776 → CanPass setup (state.clock + time) state
can_pass setup time state fits r low = record { fits = fits; is_reached = r; begins = omega arith; ends = low }

pub outcome_reached : (setup : Setup) (state : State) (command : Command) (outcome : Outcome) → FitsPlaces setup → IsReached state → HasDelay command → Led setup state command outcome → IsReached (reached outcome)
outcome_reached setup state command outcome fits r delay (ended stop e) = subst (λ o. IsReached (reached o)) (sym e) r
outcome_reached setup state command outcome fits r delay (stayed e) = subst (λ o. IsReached (reached o)) (sym e) r
outcome_reached setup state command outcome fits r delay (chose algorithm is e) = subst (λ o. IsReached (reached o)) (sym e) (choice_reached state algorithm r)
outcome_reached setup state command outcome fits r delay (printed more e) = subst (λ o. IsReached (reached o)) (sym e) (printing_reached state more r)
outcome_reached setup state command outcome fits r delay (noded node new made few e) = subst (λ o. IsReached (reached o)) (sym e) (node_reached state node new made few r)
outcome_reached setup state command outcome fits r delay (linked link has e) = subst (λ o. IsReached (reached o)) (sym e) (link_reached state link (has delay) r)
outcome_reached setup state command outcome fits r delay (given place line after of g e) = subst (λ o. IsReached (reached o)) (sym e)
    (effect_reached setup state after fits (tickless setup state.mesh place state.clock 0 (Line line) after refl tt g) r)
outcome_reached setup state command outcome fits r delay (again place after g e) = subst (λ o. IsReached (reached o)) (sym e)
    (effect_reached setup state after fits (delivered_effect setup state.mesh place state.clock after g) r)
outcome_reached setup state command outcome fits r delay (given_all places line after plain calm g e) = subst (λ o. IsReached (reached o)) (sym e)
    (effect_reached setup state after fits (all_effect setup places state.clock (Line line) state.mesh after refl (λ fs. tt) g) r)
outcome_reached setup state command outcome fits r delay (lanned name gateways after g e) = subst (λ o. IsReached (reached o)) (sym e) (lan_reached setup state name gateways after fits g r)
outcome_reached setup state command outcome fits r delay (put_there put after at low g e) = subst (λ o. IsReached (reached o)) (sym e) (effect_reached setup state after fits (put_now setup state put after at low g) r)
outcome_reached setup state command outcome fits r delay (passed time run low e) = subst (λ o. IsReached (reached o)) (sym e)
    (runs_are_reached setup (state.clock + time) state (can_pass setup time state fits r low))
