-- The end of a step: what was sent stands behind the others, and the net stands for the mesh after
-- the step.
use Rattle.std.proofs.Common.{◌≡◌, ◌↔◌, ℕ, suc, ◌+◌, ◌*◌, ◌<◌, ◌≤◌, ◌⊎◌, inl, inr, true, false, List, [], ◌∷◌, ◌++◌, filter, length, take, drop, slice_get, Option, Some, None, Result, Ok, Err, is_ok, refl, sym, ap, ◌∙◌, subst, arith, append-nil}
use Rattle.std.proofs.Math.Seq.{drop-append_seam}
use Rattle.std.specs.Result.{OnOk, OnErr, IfErr}
use Rattle.mesh_base.specs.declared.address.Mac.{Mac}
use Rattle.mesh_base.specs.declared.event.Event.{Event}
use Rattle.mesh_model.specs.declared.frame_choice.FrameChoice.{FrameChoice}
use Rattle.mesh_model.specs.declared.happening.Class.{Class}
use Rattle.mesh_model.specs.declared.happening.Class.TheVariants.{LinkDelivery, LanDelivery, NodeTick}
use Rattle.mesh_model.specs.declared.happening.Happening.{Happening}
use Rattle.mesh_model.specs.declared.route_line.RouteLine.{RouteLine}
use Rattle.mesh_model.specs.Net.Due.{first_ticks, next_happening, tick_at, tick_time, ticks_in}
use Rattle.mesh_model.specs.Net.Happenings.{Before, is_before}
use Rattle.mesh_model.specs.Net.Limits.{clock_limit, lans_limit, scenario_setup}
use Rattle.mesh_model.specs.Net.Mesh.{NodeLog, LanPut, Mesh, Setup}
use Rattle.mesh_model.specs.Net.Next.{Has, IsNext}
use Rattle.mesh_model.specs.Net.Runs.{after_happening, delivered, effect, with_last}
use Rattle.mesh_model.specs.Net.Watching.{with_lines}
use Rattle.mesh_model.specs.Net.Inputs.{all_given, given_to}
use Rattle.mesh_model.specs.Net.Lans.{joins_lan, with_lan}
use Rattle.mesh_model.specs.Net.Sending.{Attempt, on_ok, with_put}
use Rattle.mesh_model.specs.Clients.Log.{Given, Tick, LinkFrame, LanFrame, Line}
use Rattle.mesh_model.specs.Routes.Queries.{Queries}
use Rattle.mesh_model.specs.Routes.RouteLog.{RouteLog}
use Rattle.mesh_laws.specs.Soundness.{IsSound}
use Rattle.mesh_laws.proofs.Schedule.Due.{finds_next, next_due_some}
use Rattle.mesh_laws.proofs.Schedule.Steps.{Was, all_effect, delivered_effect, no_ticks, put_joins, step_is, tickless, ticks_of}
use Rattle.mesh_laws.proofs.Schedule.Steps.{lan_joins as joined_effect}
use Rattle.node_ground.specs.declared.failure.NodeErr.{NodeErr}
use Rattle.node_ground.specs.declared.failure.NodeErr.TheVariants as node_errors
use Rattle.mesh_net.specs.declared.failure.NetErr.{NetErr}
use Rattle.mesh_net.specs.declared.net.Net.{Net}
use Rattle.mesh_post.specs.declared.post.Post.{Post}
use Rattle.mesh_post.specs.declared.row.Sending.{Sending}
use Rattle.mesh_net.specs.Given.{GiveTells}
use Rattle.mesh_post.specs.Kept.{PostStands}
use Rattle.mesh_net.specs.declared.seat.Seat.{Seat}
use Rattle.std.specs.Global.{Vec}
use Rattle.mesh_model.specs.Text.Events.{is_shown}
use Rattle.mesh_net.specs.NetStands.{NetStands, SeatsStand, IsNet, IsLive}
use Rattle.mesh_net.proofs.PopLemmas.{not_lan, not_link, popped_next, popped_waits, ticker_is, all_others, tick_or_later, ticks_next}
use Rattle.mesh_net.specs.Reached.{IsNewLan, IsReached, all_are_given, is_given, is_delivered, happens, lan_comes, lan_joins, IsOfLine}
use Rattle.mesh_post.specs.Sent.{InStep, Logged, Grew}
use Rattle.mesh_net.specs.Steps.{AreOnLans, AreOnLinks, HasStage, ArePast, Begun, Gave, HasHappened, HasNodes, KeepsNet, KeepsSent, MayTickAt, Settled, SettleTells, StepFails, Stepped, net_error, ticks_amid}
use Rattle.mesh_net.specs.Tells.{Carried, Gains, StandsAfter, StepTells}
use Rattle.mesh_net.specs.Watching.{WatchStands}
use Rattle.mesh_post.specs.Waiting.{IsPopped, all_deliveries}
use Rattle.mesh_post.proofs.Besides.{stands_beside, step_waits}
use Rattle.mesh_post.proofs.LookUps.{some_one}
use Rattle.mesh_told.specs.declared.told_routes.ToldRoutes.{ToldRoutes}
use Rattle.mesh_net.proofs.MomentLemmas.{are_past, past_later}
use Rattle.mesh_net.proofs.ReachedLemmas.{reached, of_line}
use Rattle.mesh_net.proofs.TickLemmas.{may_tick, not_before}

-- ---- logs
pub gains : (choice : FrameChoice) (before after : Mesh) (old new : List Event) → Logged choice before after old new → Gains choice before after old new
gains choice before after old new l =
    subst (λ more. new ≡ old ++ filter (is_shown choice) more) (sym (ap (drop (length before.events)) l.came ∙ drop-append_seam before.events l.more)) l.told

-- what a refused step told is taken back
pub cut_back : (old new : List Event) (n : ℕ) → n ≡ length old → Grew old new → take n new ≡ old
cut_back old new n e g = ap (λ k. take k new) e ∙ ap (take (length old)) g.is ∙ front old g.more
  where
    front : {X : Type 0} (xs ys : List X) → take (length xs) (xs ++ ys) ≡ xs
    front [] ys = refl
    front (x ∷ xs) ys = ap (λ r. x ∷ r) (front xs ys)

-- ---- first ticks
pub ticks_same : (a b : List NodeLog) → length b ≡ length a → ((i : ℕ) (n : NodeLog) → slice_get b i ≡ Some n → (m : NodeLog) × (slice_get a i ≡ Some m) × (n.made ≡ m.made) × (ticks_in n.log ≡ ticks_in m.log)) → (start : ℕ) → first_ticks start b ≡ first_ticks start a
ticks_same [] [] l same start = refl
ticks_same [] (n ∷ b) l same start = absurd (omega (arith, l))
ticks_same (m ∷ a) [] l same start = absurd (omega (arith, l))
ticks_same (m ∷ a) (n ∷ b) l same start =
    let p = same 0 n refl in
    let e : p.0 ≡ m = some_one p.0 m (sym p.1) in
    ap (λ x. record { moment = x + tick_time * suc (ticks_in n.log); class = NodeTick; place = start } ∷ first_ticks (suc start) b) (p.2 ∙ ap (λ (x : NodeLog). x.made) e)
    ∙ ap (λ k. record { moment = m.made + tick_time * suc k; class = NodeTick; place = start } ∷ first_ticks (suc start) b) (p.3 ∙ ap (λ (x : NodeLog). ticks_in x.log) e)
    ∙ ap (λ hs. tick_at start m (suc (ticks_in m.log)) ∷ hs) (ticks_same a b (omega (arith, l)) (λ i x f. same (suc i) x f) (suc start))

abbrev pub Were : Mesh → Mesh → (ℕ → ℕ) → Type 0
Were mesh after extra = (place : ℕ) (node : NodeLog) → slice_get after.nodes place ≡ Some node → Was mesh.nodes after.frames (extra place) place node

pub tickless_same : (mesh after : Mesh) → Were mesh after no_ticks → length after.nodes ≡ length mesh.nodes → first_ticks 0 after.nodes ≡ first_ticks 0 mesh.nodes
tickless_same mesh after were count = ticks_same mesh.nodes after.nodes count (λ i n found. let w = were i n found in (w.node, w.found, w.grew.made, w.grew.ticks ∙ none (ticks_in w.node.log))) 0
  where
    none : (n : ℕ) → 0 + n ≡ n
    none n = omega arith

-- ---- what waits
pub step_ticks : (post : Post) (older : List Sending) (last : Happening) (a b : List Happening) (mesh : Mesh) → ((x : Happening) → Has a x ↔ Has b x) → InStep post older last a mesh → InStep post older last b mesh
step_ticks post older last a b mesh same step = record {
  amid = record {
    stands = step.amid.stands;
    waits = λ x. (λ h. to x ((step.amid.waits x).0 h), λ h. (step.amid.waits x).1 (from x h));
  };
  older_is = step.older_is;
}
  where
    Comes : Happening → Type 0
    Comes x = Has (all_deliveries mesh.links mesh.frames mesh.puts) x × Before last x

    to : (x : Happening) → Comes x ⊎ Has a x → Comes x ⊎ Has b x
    to x (inl p) = inl p
    to x (inr p) = inr ((same x).0 p)

    from : (x : Happening) → Comes x ⊎ Has b x → Comes x ⊎ Has a x
    from x (inl p) = inl p
    from x (inr p) = inr ((same x).1 p)

-- the mesh after a happening, whose lines are told
abbrev pub ended_with : List RouteLine → Happening → Mesh → Mesh
ended_with lines h mesh = record (with_lines lines mesh) { last = h }

-- ---- settled
abbrev pub settled_post : Post → Post → Post
settled_post old new = record old { fresh = new.fresh; older = new.older }

module _ {A : Type 0} where
  pub settled_step : (a b : Net A) (last : Happening) (ticks : List Happening) (mesh : Mesh) → Settled a b → InStep a.post a.sent last ticks mesh → InStep b.post b.sent last ticks mesh
  settled_step a b last ticks mesh s step = subst (λ p. InStep p b.sent last ticks mesh) (sym s.post) (record {
    amid = record { stands = stands_beside (subst (λ ss. PostStands a.post ss mesh) sendings step.amid.stands); waits = step.amid.waits };
    older_is = s.older;
  })
    where
      sendings : a.sent ++ a.post.fresh.items ≡ b.sent ++ b.post.fresh.items
      sendings = sym s.sent ∙ sym (append-nil b.sent) ∙ ap (λ fs. b.sent ++ fs) (sym s.fresh)

  -- a net that has all but the clock and the last happening of another
  pub record SameBut (a b : Net A) : Type 0 where
    pub post : b.post ≡ a.post
    pub sent : b.sent ≡ a.sent
    pub seats : b.seats ≡ a.seats
    pub watch : b.watch ≡ a.watch
    pub dead : b.dead ≡ a.dead

  -- the net stands for the mesh after a step
  pub stands_for : (queries : Mac → Queries) (stands : A → Mac → RouteLog → Type 0) (net done end : Net A) (choice : FrameChoice) (last : Happening) (ticks : List Happening) (clock : ℕ) (after : Mesh)
      → Settled net done → SameBut done end → net.dead ≡ false → net.post.choice ≡ choice → end.clock ≡ clock → end.last ≡ last → after.last ≡ last → last.moment ≤ clock → clock ≤ clock_limit
      → SeatsStand queries stands net.seats.items after.nodes → InStep net.post net.sent last ticks after → ((x : Happening) → Has ticks x ↔ Has (first_ticks 0 after.nodes) x) → WatchStands net.watch after.watch → IsReached (scenario_setup queries) clock after
      → NetStands queries stands end choice clock after
  stands_for queries stands net done end choice last ticks clock after s b alive choice_is clock_is last_is is past low seats step same watched way = record {
    alive = b.dead ∙ s.dead ∙ alive;
    choice_is = ap (λ (p : Post). p.choice) (b.post ∙ s.post) ∙ choice_is;
    clock_is = clock_is;
    last_is = last_is ∙ sym is;
    past = subst (λ (h : Happening). h.moment ≤ clock) (sym is) past;
    low = low;
    seats = subst (λ (v : Vec (Seat A)). SeatsStand queries stands v.items after.nodes) (sym (b.seats ∙ s.seats)) seats;
    kept = subst (λ p. InStep p end.sent after.last (first_ticks 0 after.nodes) after) (sym b.post)
        (subst (λ (v : List Sending). InStep done.post v after.last (first_ticks 0 after.nodes) after) (sym b.sent)
        (subst (λ h. InStep done.post done.sent h (first_ticks 0 after.nodes) after) (sym is) (step_ticks done.post done.sent last ticks (first_ticks 0 after.nodes) after same (settled_step net done last ticks after s step))));
    settled = ap (λ (p : Post). p.fresh.items) b.post ∙ s.fresh;
    watched = subst (λ w. WatchStands w after.watch) (sym (b.watch ∙ s.watch)) watched;
    reached = way;
  }

-- ---- causes
pub ok_has : {X : Type 0} (r : Result Unit NodeErr) → is_ok r ≡ true → OnOk r X → X
ok_has (Ok done) e x = x
ok_has (Err error) e x = cc

refused_tells : (attempt : Attempt) (refused : NodeErr) → GiveTells attempt refused → StepTells attempt (net_error refused)
refused_tells attempt node_errors.Memory t = tt
refused_tells attempt node_errors.Clients t = t
refused_tells attempt node_errors.Vlans t = t
refused_tells attempt node_errors.Frames t = t
refused_tells attempt node_errors.FrameBytes t = t
refused_tells attempt node_errors.Cuts t = t
refused_tells attempt node_errors.Dead t = t

pub settle_tells : (attempt : Attempt) (r : Result Unit NodeErr) (error : NetErr) → SettleTells r error → IfErr r (GiveTells attempt) → StepTells attempt error
settle_tells attempt (Ok done) error s t = subst (StepTells attempt) (sym s) tt
settle_tells attempt (Err refused) error s t = subst (StepTells attempt) (sym s) (refused_tells attempt refused t)

-- a node that refuses what happens refuses the happening
pub happening_tells : (setup : Setup) (mesh : Mesh) (h : Happening) (error : NodeErr) → GiveTells (effect setup h.class h.place h.moment mesh) error → GiveTells (after_happening setup h mesh) error
happening_tells setup mesh h node_errors.Memory t = tt
happening_tells setup mesh h node_errors.Clients t = ap (on_ok (with_last setup h)) t
happening_tells setup mesh h node_errors.Vlans t = ap (on_ok (with_last setup h)) t
happening_tells setup mesh h node_errors.Frames t = ap (on_ok (with_last setup h)) t
happening_tells setup mesh h node_errors.FrameBytes t = ap (on_ok (with_last setup h)) t
happening_tells setup mesh h node_errors.Cuts t = ap (on_ok (with_last setup h)) t
happening_tells setup mesh h node_errors.Dead t = t

-- what is watched stays where neither a net nor its mesh changes it
pub still_watched : (a b : Option ToldRoutes) (v w : Option (List RouteLine)) → b ≡ a → w ≡ v → WatchStands a v → WatchStands b w
still_watched a b v w kept same stands = subst (λ x. WatchStands b x) (sym same) (subst (λ x. WatchStands x v) (sym kept) stands)

module _ {A : Type 0} (queries : Mac → Queries) (stands : A → Mac → RouteLog → Type 0) where
  -- ---- a line, and a frame that is delivered again
  pub begun_now : (net : Net A) (choice : FrameChoice) (mesh : Mesh) → NetStands queries stands net choice net.clock mesh → Begun queries stands net choice mesh.last (first_ticks 0 mesh.nodes) net.clock mesh
  begun_now net choice mesh s = record {
    choice_is = s.choice_is;
    settled = s.settled;
    stage = record { seats_stand = s.seats; step = s.kept; past = are_past (scenario_setup queries) net.clock mesh s.reached; late = s.past; soon = s.low };
  }

  pub on_links : (net : Net A) (choice : FrameChoice) (clock : ℕ) (mesh : Mesh) → NetStands queries stands net choice clock mesh → AreOnLinks mesh
  on_links net choice clock mesh s = (reached queries clock mesh s.reached).sound.on_links

  same_has : (a b : List Happening) → b ≡ a → (x : Happening) → Has a x ↔ Has b x
  same_has a b e x = (λ p. subst (λ hs. Has hs x) (sym e) p, λ p. subst (λ hs. Has hs x) e p)

  -- a net that isn't dead stands for something
  pub live_of : (net : Net A) → IsNet queries stands net → net.dead ≡ false → IsLive queries stands net
  live_of net (inl dead) alive = clash (sym dead ∙ alive)
    where
      clash : {X : Type 0} → true ≡ false → X
      clash e = cc
  live_of net (inr live) alive = live

  -- a step at the clock, when what it sent was kept
  module _ (net amid done : Net A) (choice : FrameChoice) (mesh : Mesh) (old new new' : List Event) (s : NetStands queries stands net choice net.clock mesh) (k : KeepsNet net amid) (d : Settled amid done) (told : new' ≡ new) where
    -- it was carried out, if this was tried in it
    abbrev pub Carries : Attempt → Type 0
    Carries attempt = Gave queries stands amid choice mesh.last (first_ticks 0 mesh.nodes) mesh old new attempt → Carried queries stands done choice net.clock mesh old new' attempt

    carried : (attempt : Attempt) (g : Gave queries stands amid choice mesh.last (first_ticks 0 mesh.nodes) mesh old new attempt)
        → first_ticks 0 g.after.nodes ≡ first_ticks 0 mesh.nodes → g.after.last ≡ mesh.last → g.after.watch ≡ mesh.watch → IsReached (scenario_setup queries) net.clock g.after
        → Carried queries stands done choice net.clock mesh old new' attempt
    carried attempt g same last watch way = record {
      after = g.after;
      is = g.is;
      standing = stands_for queries stands amid done done choice mesh.last (first_ticks 0 mesh.nodes) net.clock g.after d (record { post = refl; sent = refl; seats = refl; watch = refl; dead = refl })
          (k.dead ∙ s.alive) g.choice_is (d.clock ∙ k.clock) (d.last ∙ k.last ∙ s.last_is) last s.past s.low g.seats_stand g.step (same_has (first_ticks 0 mesh.nodes) (first_ticks 0 g.after.nodes) same) (still_watched net.watch amid.watch mesh.watch g.after.watch k.watch watch s.watched) way;
      gains = gains choice mesh g.after old new' (subst (Logged choice mesh g.after old) (sym told) g.logged);
    }

    pub carried_line : (place : ℕ) (given : Given) → IsOfLine given → Carries (given_to (scenario_setup queries) place net.clock 0 given mesh)
    carried_line place given line g =
        let l = of_line mesh.frames given line in
        let e = tickless (scenario_setup queries) mesh place net.clock 0 given g.after l.0 l.1 g.is in
        carried (given_to (scenario_setup queries) place net.clock 0 given mesh) g (tickless_same mesh g.after e.nodes e.count) e.last e.watch (is_given net.clock mesh g.after place given s.reached line g.is)

    -- a frame that is delivered again
    pub carried_frame : (place : ℕ) → Carries (delivered (scenario_setup queries) place net.clock mesh)
    carried_frame place g =
        let e = delivered_effect (scenario_setup queries) mesh place net.clock g.after g.is in
        carried (delivered (scenario_setup queries) place net.clock mesh) g (tickless_same mesh g.after e.nodes e.count) e.last e.watch (is_delivered net.clock mesh g.after place s.reached g.is)

    -- given to the gateways of a LAN
    pub carried_all : (places : List ℕ) (given : Given) → IsOfLine given → Carries (all_given (scenario_setup queries) places net.clock given mesh)
    carried_all places given line g =
        let l = of_line mesh.frames given line in
        let e = all_effect (scenario_setup queries) places net.clock given mesh g.after l.0 (λ frames. (of_line frames given line).1) g.is in
        carried (all_given (scenario_setup queries) places net.clock given mesh) g (tickless_same mesh g.after e.nodes e.count) e.last e.watch (line_reached net.clock mesh g.after places given line s.reached g.is)
      where
        line_reached : (clock : ℕ) (mesh after : Mesh) (places : List ℕ) (given : Given) → IsOfLine given → IsReached (scenario_setup queries) clock mesh → all_given (scenario_setup queries) places clock given mesh ≡ Ok after → IsReached (scenario_setup queries) clock after
        line_reached clock mesh after places (Tick index) of way is = absurd of
        line_reached clock mesh after places (LinkFrame number from throughput bytes) of way is = absurd of
        line_reached clock mesh after places (LanFrame bytes) of way is = absurd of
        line_reached clock mesh after places (Line line) of way is = all_are_given clock mesh after places line way of is

    -- a frame that comes on a LAN
    pub carried_put : (put : LanPut) → put.by ≡ None → put.moment ≡ net.clock → put.lan < length mesh.lans → Carries (with_put (scenario_setup queries) put mesh)
    carried_put put none now low g =
        let e = put_joins (scenario_setup queries) put mesh g.after low g.is in
        carried (with_put (scenario_setup queries) put mesh) g (tickless_same mesh g.after e.nodes e.count) e.last e.watch (lan_comes net.clock mesh g.after put s.reached none now low g.is)

  -- a LAN that joins, when its gateways were told
  pub carried_lan : (net amid done : Net A) (choice : FrameChoice) (mesh : Mesh) (old new : List Event) (name gateways : List ℕ)
      → NetStands queries stands net choice net.clock mesh → amid.clock ≡ net.clock → amid.last ≡ net.last → amid.watch ≡ net.watch → amid.dead ≡ net.dead → Settled amid done → length mesh.lans < lans_limit → IsNewLan mesh gateways
      → Gave queries stands amid choice mesh.last (first_ticks 0 mesh.nodes) (with_lan (record { name = name; gateways = gateways }) mesh) old new (joins_lan (scenario_setup queries) name gateways net.clock mesh)
      → StandsAfter queries stands done choice net.clock (joins_lan (scenario_setup queries) name gateways net.clock mesh)
  carried_lan net amid done choice mesh old new name gateways s clock last watch dead d few joins g =
      let e = joined_effect (scenario_setup queries) name gateways net.clock mesh g.after g.is in
      let same = tickless_same (with_lan (record { name = name; gateways = gateways }) mesh) g.after e.nodes e.count in
      record {
        after = g.after;
        is = g.is;
        standing = stands_for queries stands amid done done choice mesh.last (first_ticks 0 mesh.nodes) net.clock g.after d (record { post = refl; sent = refl; seats = refl; watch = refl; dead = refl })
            (dead ∙ s.alive) g.choice_is (d.clock ∙ clock) (d.last ∙ last ∙ s.last_is) e.last s.past s.low g.seats_stand g.step (same_has (first_ticks 0 mesh.nodes) (first_ticks 0 g.after.nodes) same)
            (still_watched net.watch amid.watch mesh.watch g.after.watch watch e.watch s.watched) (lan_joins net.clock mesh g.after name gateways s.reached few joins g.is);
      }

  -- a net stands amid a step that begins now
  pub has_stage : (net : Net A) → IsLive queries stands net → HasStage queries stands net.seats.items net.post net.clock
  has_stage net live = record {
    older = net.sent;
    last = live.mesh.last;
    ticks = first_ticks 0 live.mesh.nodes;
    mesh = live.mesh;
    stage = (begun_now net live.choice live.mesh (subst (λ k. NetStands queries stands net live.choice k live.mesh) (sym live.standing.clock_is) live.standing)).stage;
  }

  pub on_lans : (net : Net A) (choice : FrameChoice) (clock : ℕ) (mesh : Mesh) → NetStands queries stands net choice clock mesh → AreOnLans mesh
  on_lans net choice clock mesh s = (reached queries clock mesh s.reached).sound.on_lans

  pub has_nodes : (net : Net A) → IsLive queries stands net → HasNodes queries stands net net.clock
  has_nodes net live = record {
    nodes = live.mesh.nodes;
    seats_stand = live.standing.seats;
    past = subst (λ now. ArePast now live.mesh.nodes) (sym live.standing.clock_is) (are_past (scenario_setup queries) live.clock live.mesh live.standing.reached);
  }

  -- ---- a happening
  abbrev pub popped_net : Net A → List Happening → Net A
  popped_net net rest = record net { post = record net.post { queue = rest } }

  module _ (net : Net A) (rest : List Happening) (t : ℕ) (h : Happening) (choice : FrameChoice) (clock : ℕ) (mesh : Mesh) (s : NetStands queries stands net choice clock mesh) (popped : IsPopped net.post.queue rest t h) (soon : t ≤ clock_limit) where
    sound : IsSound mesh
    sound = (reached queries clock mesh s.reached).sound

    abbrev pub waiting_ticks : List Happening
    waiting_ticks = filter (is_before h) (first_ticks 0 mesh.nodes)

    pub next_is : IsNext t mesh h
    next_is = popped_next net.post.queue rest t h mesh sound s.kept.amid.waits popped

    h_low : h.moment ≤ clock_limit
    h_low = let w = popped.within in omega (arith, w, soon)

    -- the clock isn't after the happening
    h_later : clock ≤ h.moment
    h_later = let next = next_is in not_before queries clock mesh s.reached h next.happens next.after

    -- nor is the newest input of a node
    nodes_past : ArePast h.moment mesh.nodes
    nodes_past = past_later clock h.moment mesh.nodes h_later (are_past (scenario_setup queries) clock mesh s.reached)

    pub nodes_due : HasNodes queries stands (popped_net net rest) h.moment
    nodes_due = record { nodes = mesh.nodes; seats_stand = s.seats; past = nodes_past }

    pub begun_step : Begun queries stands (popped_net net rest) choice h waiting_ticks h.moment mesh
    begun_step = record {
      choice_is = s.choice_is;
      settled = s.settled;
      stage = record {
        seats_stand = s.seats;
        step = step_waits s.kept (popped_waits net.post.queue rest t h mesh sound s.kept.amid.waits popped);
        past = nodes_past;
        late = omega arith;
        soon = h_low;
      };
    }

    pub stage_due : HasStage queries stands net.seats.items (record net.post { queue = rest }) h.moment
    stage_due = record { older = net.sent; last = h; ticks = waiting_ticks; mesh = mesh; stage = begun_step.stage }

    pub tick_due : h.class ≡ NodeTick → MayTickAt queries stands (popped_net net rest) h.place h.moment
    tick_due class =
        let k = ticker_is net.post.queue rest t h mesh sound s.kept.amid.waits popped class in
        let m : h.moment ≡ k.node.made + tick_time * suc (ticks_in k.node.log) = ap (λ (y : Happening). y.moment) k.is in
        let l = h_low in
        let few : ticks_in k.node.log < 4294967295 = omega (arith, m, l) in
        record { nodes = mesh.nodes; seats_stand = s.seats; past = nodes_past; row = k.node; found = k.found; may = may_tick queries clock mesh h.place k.node s.reached k.found few; few = few }

    ticks_match : (after : Mesh) (class : Class) → h.class ≡ class → after_happening (scenario_setup queries) h mesh ≡ Ok after → (x : Happening) → Has (ticks_amid h.class h.place h.moment waiting_ticks) x ↔ Has (first_ticks 0 after.nodes) x
    ticks_match after class e is x =
        let step = step_is (scenario_setup queries) mesh h after is in
        subst (λ c. Has (ticks_amid c h.place h.moment waiting_ticks) x ↔ Has (first_ticks 0 after.nodes) x) (sym e)
        (by_class class e (λ place n f. subst (λ c. Was mesh.nodes after.frames (ticks_of c h.place place) place n) e (step.nodes place n f)))
      where
        count : length after.nodes ≡ length mesh.nodes
        count = (step_is (scenario_setup queries) mesh h after is).count

        delivers : (h.class ≡ NodeTick → ⊥) → Were mesh after no_ticks → Has waiting_ticks x ↔ Has (first_ticks 0 after.nodes) x
        delivers other were =
            let same = tickless_same mesh after were count in
            let both = all_others net.post.queue rest t h mesh sound s.kept.amid.waits popped other x in
            (λ p. subst (λ hs. Has hs x) (sym same) (both.0 p), λ p. both.1 (subst (λ hs. Has hs x) same p))

        by_class : (c : Class) → h.class ≡ c → Were mesh after (ticks_of c h.place) → Has (ticks_amid c h.place h.moment waiting_ticks) x ↔ Has (first_ticks 0 after.nodes) x
        by_class LinkDelivery of were = delivers (λ n. not_link (sym n ∙ of)) were
        by_class LanDelivery of were = delivers (λ n. not_lan (sym n ∙ of)) were
        by_class NodeTick of were =
            let k = ticker_is net.post.queue rest t h mesh sound s.kept.amid.waits popped of in
            ticks_next mesh after h k.node k.found k.is were count (tick_or_later net.post.queue rest t h mesh sound s.kept.amid.waits popped) x

    pub stepped : (amid done end : Net A) (old new new' : List Event) → KeepsSent (popped_net net rest) amid → Settled amid done → SameBut done end → end.clock ≡ h.moment → end.last ≡ h → new' ≡ new
        → HasHappened queries stands amid choice h (ticks_amid h.class h.place h.moment waiting_ticks) mesh old new h
        → Stepped queries stands end choice mesh t old new'
    stepped amid done end old new new' k d b clock_is last_is told happened =
        let g = happened.gave in
        let next = next_is in
        let due = next_due_some t mesh h (next_happening mesh) refl (((finds_next t mesh sound).0 h).1 next) in
        record {
          happening = h;
          next = next;
          after = g.after;
          is = g.is;
          standing = stands_for queries stands amid done end choice h (ticks_amid h.class h.place h.moment waiting_ticks) h.moment g.after d b (k.dead ∙ s.alive) g.choice_is clock_is last_is (step_is (scenario_setup queries) mesh h g.after g.is).last (omega arith) h_low
              g.seats_stand g.step (ticks_match g.after h.class refl g.is) happened.watched
              (happens clock mesh g.after h s.reached due.0 h_later h_low g.is);
          logged = subst (Logged choice mesh g.after old) (sym told) g.logged;
        }

    pub failed : (r : Result Unit NodeErr) (error : NetErr) → SettleTells r error → IfErr r (GiveTells (after_happening (scenario_setup queries) h mesh)) → StepFails queries mesh t error
    failed r error tells given = record {
      happening = h;
      next = next_is;
      tells = settle_tells (after_happening (scenario_setup queries) h mesh) r error tells given;
    }

-- ---- results
-- a net as a call leaves it
pub net_by : {X : Type 0} {P Q : Type 0} (r : Result X NetErr) → OnErr r P → OnOk r Q → P ⊎ Q
net_by (Ok done) p q = inr q
net_by (Err error) p q = inl p
