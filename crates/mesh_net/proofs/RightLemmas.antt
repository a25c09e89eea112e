-- What a net tells is right: its mesh is one that steps reach, where the mesh before was, and its log
-- gained events of that mesh.
use Rattle.std.proofs.Common.{◌≡◌, ◌<◌, ℕ, List, ◌++◌, filter, length, slice_get, Some, None, Ok, refl, sym, ap, subst, ◌∙◌}
use Rattle.std.specs.Prelude.{⊤}
use Rattle.mesh_base.specs.declared.address.Mac.{Mac}
use Rattle.mesh_base.specs.declared.event.Event.{Event}
use Rattle.mesh_model.specs.declared.frame_choice.FrameChoice.{FrameChoice}
use Rattle.mesh_model.specs.declared.happening.Happening.{Happening}
use Rattle.mesh_model.specs.Clients.Log.{Given, Tick, LinkFrame, LanFrame, Line}
use Rattle.mesh_model.specs.Net.Inputs.{all_given, given_to}
use Rattle.mesh_model.specs.Net.Limits.{scenario_setup}
use Rattle.mesh_model.specs.Net.Mesh.{NodeLog, LanPut, Mesh, Setup}
use Rattle.mesh_model.specs.Net.Next.{IsNext}
use Rattle.mesh_model.specs.Net.Runs.{after_happening, delivered}
use Rattle.mesh_model.specs.Net.Sending.{Attempt, with_put}
use Rattle.mesh_model.specs.Routes.Queries.{Queries}
use Rattle.mesh_model.specs.Routes.RouteLog.{RouteLog}
use Rattle.mesh_model.specs.Text.Events.{is_shown}
use Rattle.mesh_laws.proofs.Lines.Courses.{Follows, since_is}
use Rattle.mesh_laws.proofs.Schedule.Sends.{ok_one}
use Rattle.mesh_laws.proofs.Schedule.Steps.{Effect, all_effect, delivered_effect, no_ticks, put_joins, tickless}
use Rattle.mesh_tie.specs.NetTables.{NamesClients, TellsPut}
use Rattle.mesh_tie.specs.PlainRuns.{NoneIsLater}
use Rattle.mesh_tie.specs.Steps.{IsReachable, Steps, MayBeGiven, goes_on, line_gives, put_comes, with_lan_frame}
use Rattle.mesh_tie.specs.TieLaws.{AllKeep}
use Rattle.mesh_tie.proofs.CutPut.{put_together_was_cut}
use Rattle.mesh_tie.proofs.PictureRuns.{reached_pictures_are_right}
use Rattle.mesh_tie.proofs.GainLemmas.{put_is}
use Rattle.mesh_tie.proofs.RunReach.{delivered_comes, given_comes, happening_comes, later_settled, lines_all}
use Rattle.mesh_net.specs.declared.net.Net.{Net}
use Rattle.mesh_net.specs.Reached.{IsOfLine, IsReached}
use Rattle.mesh_net.specs.Steps.{LeftAt}
use Rattle.mesh_net.specs.Tells.{Carried, IsToldRightly, LeavesRightly, TellsRightly}
use Rattle.mesh_post.specs.Sent.{Logged}
use Rattle.mesh_net.proofs.Ends.{gains}
use Rattle.mesh_net.proofs.MomentLemmas.{is_past}
use Rattle.mesh_net.proofs.ReachedLemmas.{of_line, reached}
use Rattle.mesh_net.proofs.TickLemmas.{not_before}
use Rattle.mesh_net.proofs.ToldLemmas.{gains_are_right, sayings_are_right, tables_are_right}

-- ---- what is told between two meshes
pub told_rightly : (queries : Mac → Queries) (choice : FrameChoice) (before after : Mesh) (old new : List Event) → AllKeep queries → IsReachable queries after → Logged choice before after old new → IsToldRightly queries before after old new
told_rightly queries choice before after old new keep r l = record {
  reachable = r;
  sayings = sayings_are_right queries after keep r;
  tables = tables_are_right queries after keep r;
  events = gains_are_right queries before after l.more old new (is_shown choice) keep r l.came (λ orig number earlier. refl) l.told;
  packets = put_together_was_cut queries keep after r;
  pictures = reached_pictures_are_right queries keep after r;
}

pub rightly : (queries : Mac → Queries) (choice : FrameChoice) (brings : Type 0) (clock : ℕ) (before after : Mesh) (old new : List Event) → IsReached (scenario_setup queries) clock after → (AllKeep queries → IsReachable queries before → brings → IsReachable queries after)
    → Logged choice before after old new → TellsRightly queries brings before after old new
rightly queries choice brings clock before after old new way steps l = record {
  lans = (reached queries clock after way).lans;
  told = λ keep r fits. told_rightly queries choice before after old new keep (steps keep r fits) l;
}

-- ---- steps
settled : (queries : Mac → Queries) (clock : ℕ) (mesh : Mesh) → IsReached (scenario_setup queries) clock mesh → NoneIsLater mesh clock
settled queries clock mesh way place node found = is_past (scenario_setup queries) clock mesh place node way found

-- a happening is a step
pub happening_steps : (queries : Mac → Queries) (clock t : ℕ) (mesh after : Mesh) (h : Happening) → IsReached (scenario_setup queries) clock mesh → IsNext t mesh h → after_happening (scenario_setup queries) h mesh ≡ Ok after → AllKeep queries → IsReachable queries mesh → IsReachable queries after
happening_steps queries clock t mesh after h way next is keep r =
    (happening_comes queries mesh after h keep r (later_settled mesh clock h.moment (settled queries clock mesh way) (not_before queries clock mesh way h next.happens next.after)) is).reachable

-- what a line gives, if its client is such as records can tell, is a step
line_step : (queries : Mac → Queries) (mesh after : Mesh) (place now : ℕ) (node : NodeLog) (given : Given) → IsOfLine given → NamesClients given → slice_get mesh.nodes place ≡ Some node → MayBeGiven node now
    → given_to (scenario_setup queries) place now 0 given mesh ≡ Ok after → Steps queries mesh after
line_step queries mesh after place now node (Tick index) of names found may got = absurd of
line_step queries mesh after place now node (LinkFrame number from throughput bytes) of names found may got = absurd of
line_step queries mesh after place now node (LanFrame bytes) of names found may got = absurd of
line_step queries mesh after place now node (Line line) of names found may got = line_gives mesh after place now node line found may names got

-- given to several nodes, it is some
all_step : (queries : Mac → Queries) (places : List ℕ) (mesh after : Mesh) (now : ℕ) (given : Given) → IsOfLine given → IsReachable queries mesh → NoneIsLater mesh now → NamesClients given → all_given (scenario_setup queries) places now given mesh ≡ Ok after → IsReachable queries after
all_step queries places mesh after now (Tick index) of r s names is = absurd of
all_step queries places mesh after now (LinkFrame number from throughput bytes) of r s names is = absurd of
all_step queries places mesh after now (LanFrame bytes) of r s names is = absurd of
all_step queries places mesh after now (Line line) of r s names is = (lines_all queries places mesh after now line r s names is).reachable

-- a client's frame comes on a LAN
put_step : (queries : Mac → Queries) (mesh after : Mesh) (put : LanPut) → put.by ≡ None → with_put (scenario_setup queries) put mesh ≡ Ok after → IsReachable queries mesh → TellsPut put.bytes → IsReachable queries after
put_step queries mesh after put none is r told = subst (IsReachable queries) (put_is (scenario_setup queries) put mesh after is) (goes_on mesh (with_lan_frame put mesh) r (put_comes mesh put told.frame none told.is told.tells))

-- ---- a mesh that follows another
effect_follows : (setup : Setup) (extra : ℕ → ℕ) (now : ℕ) (mesh after : Mesh) → Effect setup extra now mesh after → Follows mesh after
effect_follows setup extra now mesh after effect = record { more = effect.adds.more_events; events = effect.adds.events; names = effect.names }

-- ---- what calls tell
module _ {A : Type 0} (queries : Mac → Queries) (stands : A → Mac → RouteLog → Type 0) (net : Net A) (choice : FrameChoice) (clock : ℕ) (before after : Mesh) (old new : List Event) where
  -- a step at the clock that was carried out, and that brings this, tells what is right
  abbrev pub Tells : Type 0 → Attempt → Type 0
  Tells brings attempt = attempt ≡ Ok after → Carried queries stands net choice clock before old new attempt → TellsRightly queries brings before after old new

  carried_rightly : (brings : Type 0) (attempt : Attempt) → ((m : Mesh) → attempt ≡ Ok m → Follows before m) → ((m : Mesh) → attempt ≡ Ok m → AllKeep queries → IsReachable queries before → brings → IsReachable queries m) → Tells brings attempt
  carried_rightly brings attempt follows steps is done =
      let f = follows done.after done.is in
      subst (λ m. TellsRightly queries brings before m old new) (ok_one done.after after (sym done.is ∙ is))
      (rightly queries choice brings clock before done.after old new done.standing.reached (steps done.after done.is)
      (record { more = f.more; came = f.events; told = done.gains ∙ ap (λ es. old ++ filter (is_shown choice) es) (since_is before done.after f) }))

  pub input_rightly : (place : ℕ) (given : Given) → IsOfLine given → IsReached (scenario_setup queries) clock before → Tells (NamesClients given) (given_to (scenario_setup queries) place clock 0 given before)
  input_rightly place given line way =
      let of = of_line before.frames given line in
      carried_rightly (NamesClients given) (given_to (scenario_setup queries) place clock 0 given before)
      (λ m e. effect_follows (scenario_setup queries) no_ticks clock before m (tickless (scenario_setup queries) before place clock 0 given m of.0 of.1 e))
      (λ m e keep r names. (given_comes queries before m place clock 0 given r (settled queries clock before way) (λ node found may got. line_step queries before m place clock node given line names found may got) e).reachable)

  pub deliver_rightly : (place : ℕ) → IsReached (scenario_setup queries) clock before → Tells ⊤ (delivered (scenario_setup queries) place clock before)
  deliver_rightly place way = carried_rightly ⊤ (delivered (scenario_setup queries) place clock before)
      (λ m e. effect_follows (scenario_setup queries) no_ticks clock before m (delivered_effect (scenario_setup queries) before place clock m e))
      (λ m e keep r none. (delivered_comes queries before m place clock keep r (settled queries clock before way) e).reachable)

  -- a frame that comes on a LAN
  pub put_rightly : (put : LanPut) → put.lan < length before.lans → put.by ≡ None → Tells (TellsPut put.bytes) (with_put (scenario_setup queries) put before)
  put_rightly put low none = carried_rightly (TellsPut put.bytes) (with_put (scenario_setup queries) put before)
      (λ m e. effect_follows (scenario_setup queries) no_ticks put.moment before m (put_joins (scenario_setup queries) put before m low e))
      (λ m e keep r told. put_step queries before m put none e r told)

  -- what a line gives the gateways of a LAN
  pub all_input_rightly : (places : List ℕ) (given : Given) → IsOfLine given → IsReached (scenario_setup queries) clock before → Tells (NamesClients given) (all_given (scenario_setup queries) places clock given before)
  all_input_rightly places given line way = carried_rightly (NamesClients given) (all_given (scenario_setup queries) places clock given before)
      (λ m e. effect_follows (scenario_setup queries) no_ticks clock before m (all_effect (scenario_setup queries) places clock given before m (of_line before.frames given line).0 (λ frames. (of_line frames given line).1) e))
      (λ m e keep r names. all_step queries places before m clock given line r (settled queries clock before way) names e)

-- ---- refused runs
pub left_rightly : (queries : Mac → Queries) (choice : FrameChoice) (before : Mesh) (t : ℕ) (old new : List Event) → LeftAt queries choice before t old new → LeavesRightly queries choice before t old new
left_rightly queries choice before t old new l = record {
  count = l.count;
  after = l.after;
  taken = l.taken;
  gains = gains choice before l.after old new l.logged;
  right = rightly queries choice ⊤ l.now before l.after old new l.is_reached (λ keep r none. l.way keep r) l.logged;
}
