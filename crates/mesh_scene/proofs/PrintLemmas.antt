-- What a scene prints of what happened, and where it stands behind.
use Rattle.std.proofs.Common.{◌≡◌, ℕ, Bool, true, false, List, [], ◌∷◌, ◌++◌, map, filter, refl, sym, subst, ap, ◌∙◌, append-nil}
use Rattle.std.specs.Prelude.{flat_map, if◌then◌else◌}
use Rattle.std.proofs.lemmas.List.Concat.{flat_map-append}
use Rattle.mesh_base.specs.declared.address.Mac.{Mac}
use Rattle.mesh_base.specs.declared.event.Event.{Event}
use Rattle.mesh_base.specs.Names.{NamesGiven}
use Rattle.mesh_model.specs.declared.line_form.Algorithm.{Algorithm}
use Rattle.mesh_model.specs.declared.frame_choice.FrameChoice.{FrameChoice}
use Rattle.mesh_model.specs.Net.Mesh.{Mesh}
use Rattle.mesh_model.specs.Net.Sending.{Attempt}
use Rattle.mesh_model.specs.Routes.Queries.{Queries}
use Rattle.mesh_model.specs.Routes.RouteLog.{RouteLog}
use Rattle.mesh_model.specs.Run.Outcome.{Goes, Outcome}
use Rattle.mesh_model.specs.Run.Passing.{after_attempt, events_since, gone_on}
use Rattle.mesh_model.specs.Run.Shown.{after_print}
use Rattle.mesh_model.specs.Run.State.{Happened, Printed, State, names_of, printed_text, text_of}
use Rattle.mesh_model.specs.Text.Events.{event_line, is_shown}
use Rattle.mesh_net.specs.Tells.{Carried, StepTells}
use Rattle.mesh_net.specs.declared.failure.NetErr.{NetErr}
use Rattle.mesh_net.specs.declared.failure.NetErr.TheVariants.{Limit, Dead, Memory}
use Rattle.mesh_net.specs.declared.net.Net.{Net}
use Rattle.mesh_scene.specs.AnswersCommand.{Carries, HasLineCause}
use Rattle.mesh_net.specs.NetStands.{NetStands}
use Rattle.mesh_scene.specs.SceneStands.{AreApart, SceneStands, ends_of}
use Rattle.mesh_scene.specs.Inner.NetAnswers.{fault_of}
use Rattle.mesh_scene.specs.declared.scene.Scene.{Scene}

-- ---- what happens is printed

told_one : (shows : Bool) (line : List ℕ) (text : Event → List ℕ) (e : Event) (rest : List ℕ) (es : List Event) → line ≡ text e → rest ≡ flat_map text es
    → (if shows then line else []) ++ rest ≡ flat_map text (if shows then e ∷ es else es)
told_one true line text e rest es is h = ap (λ front. front ++ rest) is ∙ ap (λ more. text e ++ more) h
told_one false line text e rest es is h = h

told : (choice : FrameChoice) (names : NamesGiven) (es : List Event) → flat_map (printed_text choice) (map (Happened names) es) ≡ flat_map (event_line names) (filter (is_shown choice) es)
told choice names [] = refl
told choice names (e ∷ es) = told_one (is_shown choice e) (event_line names e) (event_line names) e (flat_map (printed_text choice) (map (Happened names) es)) (filter (is_shown choice) es) refl (told choice names es)

-- the text of a state that went on, by the events that the log gained
pub text_gone : {A : Type 0} (algorithm : Algorithm) (queries : Mac → Queries) (stand : A → Mac → RouteLog → Type 0) (old : Scene A) (state : State) (now : ℕ) (after : Mesh) (events : List Event) (text : List ℕ) → SceneStands algorithm queries stand old state → names_of after ≡ names_of state.mesh
    → events ≡ filter (is_shown state.choice) (events_since state.mesh after) → text ≡ flat_map (event_line old.names) events
    → text_of (gone_on state now after) ≡ text_of state ++ text
text_gone algorithm queries stand old state now after events text stands names are is =
    let since = events_since state.mesh after in
    let named = names_of after in
    flat_map-append (printed_text state.choice) state.printed (map (Happened named) since)
    ∙ ap (λ more. text_of state ++ more)
    (told state.choice named since ∙ ap (λ ns. flat_map (event_line ns) (filter (is_shown state.choice) since)) (names ∙ sym stands.names_are)
    ∙ ap (flat_map (event_line old.names)) (sym are) ∙ sym is)

-- the scene behind a state that went on
pub stands_gone : {A : Type 0} (algorithm : Algorithm) (queries : Mac → Queries) (stand : A → Mac → RouteLog → Type 0) (old new : Scene A) (state : State) (now : ℕ) (after : Mesh) → SceneStands algorithm queries stand old state → NetStands queries stand new.net state.choice now after
    → new.names ≡ old.names → new.ends.items ≡ old.ends.items → names_of after ≡ names_of state.mesh → after.links ≡ state.mesh.links
    → SceneStands algorithm queries stand new (gone_on state now after)
stands_gone algorithm queries stand old new state now after stands net names ends named links = record {
  algorithm_is = stands.algorithm_is;
  net_is = net;
  names_are = names ∙ stands.names_are ∙ sym named;
  apart = subst (λ (ns : NamesGiven). AreApart ns.nodes) (sym names) stands.apart;
  ends_are = ends ∙ stands.ends_are ∙ ap (map ends_of) (sym links);
}

-- a step at the clock that the net refuses
pub attempt_fails : (state : State) (attempt : Attempt) (error : NetErr) → StepTells attempt error → HasLineCause state (after_attempt state attempt) (fault_of error)
attempt_fails state attempt (Limit limit) tells = ap (after_attempt state) tells
attempt_fails state attempt Dead tells = absurd tells
attempt_fails state attempt Memory tells = tt

-- a step at the clock that the net carries out, when the events that it logs are printed
pub attempt_carries : {A : Type 0} (algorithm : Algorithm) (queries : Mac → Queries) (stand : A → Mac → RouteLog → Type 0) (state : State) (old : Scene A) (net : Net A) (attempt : Attempt) (none events : List Event) (empty text : List ℕ) → SceneStands algorithm queries stand old state
    → (done : Carried queries stand net state.choice state.clock state.mesh none events attempt) → names_of done.after ≡ names_of state.mesh → done.after.links ≡ state.mesh.links → none ≡ [] → text ≡ empty ++ flat_map (event_line old.names) events → empty ≡ []
    → Carries (SceneStands algorithm queries stand) (after_attempt state attempt) state (record old { net = net; events = events }) text
attempt_carries algorithm queries stand state old net attempt none events empty text stands done named links fresh says is = record {
  after = gone_on state state.clock done.after;
  carried = ap (after_attempt state) done.is;
  standing = stands_gone algorithm queries stand old (record old { net = net; events = events }) state state.clock done.after stands done.standing refl refl named links;
  text = text_gone algorithm queries stand old state state.clock done.after events text stands named
      (done.gains ∙ ap (λ (before : List Event). before ++ filter (is_shown state.choice) (events_since state.mesh done.after)) fresh)
      (says ∙ ap (λ (before : List ℕ). before ++ flat_map (event_line old.names) events) is);
}

-- something is printed
pub carries_print : {A : Type 0} (algorithm : Algorithm) (queries : Mac → Queries) (stand : A → Mac → RouteLog → Type 0) (state : State) (scene : Scene A) (outcome : Outcome) (printed : Printed) (text : List ℕ) → SceneStands algorithm queries stand scene state → outcome ≡ Goes (after_print state printed)
    → text ≡ printed_text state.choice printed → Carries (SceneStands algorithm queries stand) outcome state scene text
carries_print algorithm queries stand state scene outcome printed text stands is prints = record {
  after = after_print state printed;
  carried = is;
  standing = record { algorithm_is = stands.algorithm_is; net_is = stands.net_is; names_are = stands.names_are; apart = stands.apart; ends_are = stands.ends_are };
  text = flat_map-append (printed_text state.choice) state.printed (printed ∷ [])
      ∙ ap (λ more. text_of state ++ more) (append-nil (printed_text state.choice printed) ∙ sym prints);
}
