-- A slice of a run, by what the net tells of it.
use Rattle.std.proofs.Common.{◌≡◌, ℕ, ◌+◌, ◌*◌, ◌<◌, ◌≤◌, ◌⊎◌, inl, inr, Bool, true, false, List, ◌++◌, filter, Some, None, Result, Ok, Err, IfOk, IfErr, refl, sym, ap, ◌∙◌, subst, arith}
use Rattle.std.specs.Prelude.{flat_map}
use Rattle.mesh_base.specs.declared.address.Mac.{Mac}
use Rattle.mesh_base.specs.declared.event.Event.{Event}
use Rattle.mesh_model.specs.declared.line_form.Algorithm.{Algorithm}
use Rattle.mesh_model.specs.declared.ending.LimitName.{LimitName}
use Rattle.mesh_model.specs.Net.Limits.{scenario_setup}
use Rattle.mesh_model.specs.Net.Mesh.{Mesh, Setup}
use Rattle.mesh_model.specs.Net.Runs.{Course, begin}
use Rattle.mesh_model.specs.Routes.Queries.{Queries}
use Rattle.mesh_model.specs.Routes.RouteLog.{RouteLog}
use Rattle.mesh_model.specs.Run.Passing.{after_course, events_since, gone_on}
use Rattle.mesh_model.specs.Run.State.{State, names_of}
use Rattle.mesh_model.specs.Text.Events.{event_line, is_shown}
use Rattle.mesh_net.specs.Tells.{IsTooLate, Ran, RunTells, Stopped}
use Rattle.mesh_net.specs.declared.failure.NetErr.{NetErr}
use Rattle.mesh_net.specs.declared.failure.NetErr.TheVariants.{Limit, Dead, Memory}
use Rattle.mesh_net.specs.declared.net.Net.{Net}
use Rattle.mesh_laws.specs.HappeningLaws.{CanRun}
use Rattle.mesh_laws.specs.LineLaws.{IsBehind}
use Rattle.mesh_laws.specs.Soundness.{rank}
use Rattle.mesh_laws.proofs.Lines.Courses.{going_follows}
use Rattle.mesh_laws.proofs.Lines.KeptLinks.{KeepsLinks, turns_keep_links}
use Rattle.mesh_laws.proofs.Lines.Slices.{behind_follows, ends_behind, goes_on_behind, risen}
use Rattle.mesh_scene.specs.Slices.{HasAdvanced}
use Rattle.mesh_scene.specs.Inner.NetAnswers.{passage_by}
use Rattle.mesh_net.specs.NetStands.{NetStands}
use Rattle.mesh_scene.specs.SceneStands.{SceneStands}
use Rattle.mesh_scene.specs.Slices.{Passes}
use Rattle.mesh_scene.specs.declared.slice.Passage.{Passage}
use Rattle.mesh_scene.specs.declared.slice.Passage.TheVariants.{Going, Ended}
use Rattle.mesh_scene.specs.declared.slice.Passage.TheVariants.{Stopped as StoppedAt}
use Rattle.mesh_scene.specs.declared.scene.Scene.{Scene}
use Rattle.mesh_scene.proofs.NetLemmas.{net_clock, net_last, net_past, net_sound}
use Rattle.mesh_scene.proofs.PrintLemmas.{stands_gone, text_gone}

-- what the net ran from a state
abbrev RanFrom : {A : Type 0} → (Mac → Queries) → (A → Mac → RouteLog → Type 0) → Net A → State → ℕ → (old new : List Event) → Bool → Type 0
RanFrom queries stand net state t old new more = Ran queries stand (scenario_setup queries) net state.choice state.clock state.mesh t 256 old new more

abbrev TellsFrom : Setup → State → ℕ → (old new : List Event) → NetErr → Type 0
TellsFrom setup state t old new error = RunTells setup state.choice state.mesh t old new error

abbrev behind : {A : Type 0} (queries : Mac → Queries) (stand : A → Mac → RouteLog → Type 0) (net : Net A) (state : State) (t : ℕ) (old new : List Event) (more : Bool) → (ran : RanFrom queries stand net state t old new more) → IsBehind (scenario_setup queries) t state.mesh ran.after
behind queries stand net state t old new more ran = record { count = ran.count; taken = ran.taken; goes = ran.goes }

keeps : (setup : Setup) (t : ℕ) (before after : Mesh) → (b : IsBehind setup t before after) → KeepsLinks before after
keeps setup t before after b = subst (λ (o : Course). KeepsLinks before o.mesh) b.taken (turns_keep_links setup t b.count (begin before))

-- a scene that only its net and its events change
pub record OnlyPassed {A : Type 0} (old new : Scene A) (net : Net A) : Type 0 where
  pub net_is : new.net ≡ net
  pub names_are : new.names ≡ old.names
  pub ends_are : new.ends.items ≡ old.ends.items

some_of_two : {X : Type 0} (x y : X) → Some x ≡ Some y → x ≡ y
some_of_two x y e = cc

no_some : {X : Type 0} (x : X) → None ≡ Some x → ⊥
no_some x e = cc

-- a slice that went on, or came to the end of its run
pub passes : {A : Type 0} (algorithm : Algorithm) (queries : Mac → Queries) (stand : A → Mac → RouteLog → Type 0) (t : ℕ) (state : State) (old new : Scene A) (net : Net A) (before events : List Event) (text : List ℕ) (answer : Result Bool NetErr) (passage : Passage)
    → SceneStands algorithm queries stand old state → OnlyPassed old new net → t ≤ 1099511627776 → passage_by answer ≡ Some passage
    → IfOk answer (RanFrom queries stand net state t before events) → IfErr answer (TellsFrom (scenario_setup queries) state t before events)
    → ((after : Mesh) → before ++ filter (is_shown state.choice) (events_since state.mesh after) ≡ filter (is_shown state.choice) (events_since state.mesh after))
    → text ≡ flat_map (event_line old.names) events → Passes (SceneStands algorithm queries stand) (scenario_setup queries) t state new text passage
passes algorithm queries stand t state old new net before events text (Ok true) passage stands only low is ran tells fresh says =
    let b = behind queries stand net state t before events true ran in
    let named = (behind_follows (scenario_setup queries) t state.mesh ran.after b).names in
    let standing : NetStands queries stand new.net state.choice ran.now ran.after = subst (λ n. NetStands queries stand n state.choice ran.now ran.after) (sym only.net_is) ran.standing in
    subst (Passes (SceneStands algorithm queries stand) (scenario_setup queries) t state new text) (some_of_two Going passage is) (record {
      mid = gone_on state ran.now ran.after;
      leads = goes_on_behind (scenario_setup queries) t ran.now state ran.after b;
      standing = stands_gone algorithm queries stand old new state ran.now ran.after stands standing only.names_are only.ends_are named (keeps (scenario_setup queries) t state.mesh ran.after b);
      text = text_gone algorithm queries stand old state ran.now ran.after events text stands named (ran.gains ∙ fresh ran.after) says;
    })
passes algorithm queries stand t state old new net before events text (Ok false) passage stands only low is ran tells fresh says =
    let b = behind queries stand net state t before events false ran in
    let named = (behind_follows (scenario_setup queries) t state.mesh ran.after b).names in
    let ended = ran.ended refl in
    let standing : NetStands queries stand new.net state.choice t ran.after =
    subst (λ now. NetStands queries stand new.net state.choice now ran.after) ended.1 (subst (λ n. NetStands queries stand n state.choice ran.now ran.after) (sym only.net_is) ran.standing) in
    subst (Passes (SceneStands algorithm queries stand) (scenario_setup queries) t state new text) (some_of_two Ended passage is) (record {
      mid = gone_on state t ran.after;
      leads = ends_behind (scenario_setup queries) t state ran.after b (net_sound queries stand new.net state.choice t ran.after standing) ended.0;
      standing = stands_gone algorithm queries stand old new state t ran.after stands standing only.names_are only.ends_are named (keeps (scenario_setup queries) t state.mesh ran.after b);
      text = text_gone algorithm queries stand old state t ran.after events text stands named (ran.gains ∙ fresh ran.after) says;
    })
passes algorithm queries stand t state old new net before events text (Err (Limit limit)) passage stands only low is ran tells fresh says = either tells
  where
    named : (stopped : Stopped (scenario_setup queries) state.choice state.mesh t before events limit) → names_of stopped.after ≡ names_of state.mesh
    named stopped = ap (λ (o : Course). names_of o.mesh) (sym stopped.goes) ∙ (going_follows (scenario_setup queries) t (begin state.mesh)).names

    either : IsTooLate t before events limit ⊎ Stopped (scenario_setup queries) state.choice state.mesh t before events limit → Passes (SceneStands algorithm queries stand) (scenario_setup queries) t state new text passage
    either (inl late) = absurd (omega (arith, low, late.late))
    either (inr stopped) = subst (Passes (SceneStands algorithm queries stand) (scenario_setup queries) t state new text) (some_of_two (StoppedAt limit) passage is) (record {
      mid = gone_on state stopped.moment stopped.after;
      leads = ap (after_course state t) stopped.goes;
      standing = tt;
      text = text_gone algorithm queries stand old state stopped.moment stopped.after events text stands (named stopped) (stopped.gains ∙ fresh stopped.after) says;
    })
passes algorithm queries stand t state old new net before events text (Err Dead) passage stands only low is ran tells fresh says = absurd (no_some passage is)
passes algorithm queries stand t state old new net before events text (Err Memory) passage stands only low is ran tells fresh says = absurd (no_some passage is)

going_not : (passage : Passage) → Some passage ≡ Some Going → passage ≡ Going
going_not passage e = cc

not_ended : Some Ended ≡ Some Going → ⊥
not_ended e = cc

not_stopped : (limit : LimitName) → Some (StoppedAt limit) ≡ Some Going → ⊥
not_stopped limit e = cc

-- where a slice breaks off, it carried its happenings out
pub advances : {A : Type 0} (queries : Mac → Queries) (stand : A → Mac → RouteLog → Type 0) (t : ℕ) (state : State) (old new : Net A) (before events : List Event) (answer : Result Bool NetErr) → NetStands queries stand old state.choice state.clock state.mesh
    → old.clock ≤ t → passage_by answer ≡ Some Going → IfOk answer (RanFrom queries stand new state t before events) → HasAdvanced t old new
advances queries stand t state old new before events (Ok true) stands later is ran =
    let clock = net_clock queries stand old state.choice state.clock state.mesh stands in
    let past = net_past queries stand old state.choice state.clock state.mesh stands in
    let broke = ran.broke_off refl in
    let can : CanRun (scenario_setup queries) t state.mesh = record { fits = omega arith; sound = net_sound queries stand old state.choice state.clock state.mesh stands; begins = omega (arith, clock, past, later); ends = ran.within } in
    let r = risen (scenario_setup queries) t state.mesh ran.after (behind queries stand new state t before events true ran) can broke.1 in
    let last_old = ap rank (net_last queries stand old state.choice state.clock state.mesh stands) in
    let last_new = ap rank (net_last queries stand new state.choice ran.now ran.after ran.standing) in
    let now_is = net_clock queries stand new state.choice ran.now ran.after ran.standing in
    let low = r.low in
    let rises : rank state.mesh.last + ran.count ≤ rank ran.after.last = r.rises in
    let all : ran.count ≡ 256 = broke.0 in
    record {
      rises = omega (arith, last_old, last_new, rises, all);
      low = omega (arith, last_new, low);
      later = either broke.2 now_is clock low;
    }
  where
    either : ((ran.count ≡ 0) × (ran.now ≡ state.clock)) ⊎ (ran.now ≡ ran.after.last.moment) → new.clock ≡ ran.now → old.clock ≡ state.clock → rank ran.after.last < (t + 1) * 1099511627776 → new.clock ≤ t
    either (inl none) now_is clock low = let at = none.1 in omega (arith, now_is, at, clock, later)
    either (inr at) now_is clock low = omega (arith, now_is, at, low)
advances queries stand t state old new before events (Ok false) stands later is ran = absurd (not_ended is)
advances queries stand t state old new before events (Err (Limit limit)) stands later is ran = absurd (not_stopped limit is)
advances queries stand t state old new before events (Err Dead) stands later is ran = absurd (no_some Going is)
advances queries stand t state old new before events (Err Memory) stands later is ran = absurd (no_some Going is)
