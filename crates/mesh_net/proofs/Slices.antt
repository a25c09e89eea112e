-- Runs of the net, happening after happening.
use Rattle.std.proofs.Common.{◌≡◌, ℕ, ◌+◌, ◌*◌, ◌-◌, ◌<◌, ◌≤◌, inl, inr, Bool, true, false, is_none, List, Some, Result, Ok, Err, refl, sym, ap, ◌∙◌, subst, arith}
use Rattle.std.specs.Fn.{iterate}
use Rattle.std.specs.Prelude.{⊤}
use Rattle.std.specs.Result.{OnErr, IfOk}
use Rattle.mesh_base.specs.declared.address.Mac.{Mac}
use Rattle.mesh_base.specs.declared.event.Event.{Event}
use Rattle.mesh_model.specs.declared.frame_choice.FrameChoice.{FrameChoice}
use Rattle.mesh_model.specs.declared.happening.Happening.{Happening}
use Rattle.mesh_model.specs.Net.Due.{next_due}
use Rattle.mesh_model.specs.Net.Limits.{clock_limit, scenario_setup}
use Rattle.mesh_model.specs.Net.Mesh.{Mesh, Setup}
use Rattle.mesh_model.specs.Net.Runs.{after_happening, after_next, begin, course_after, going_on, run_to, turn}
use Rattle.mesh_model.specs.Routes.Queries.{Queries}
use Rattle.mesh_model.specs.Routes.RouteLog.{RouteLog}
use Rattle.mesh_tie.specs.Steps.{IsReachable}
use Rattle.mesh_tie.specs.TieLaws.{AllKeep}
use Rattle.mesh_laws.specs.Soundness.{FitsPlaces, IsSound, rank}
use Rattle.mesh_laws.proofs.Schedule.Due.{finds_next}
use Rattle.mesh_laws.proofs.Schedule.Kept.{fine_start}
use Rattle.mesh_laws.proofs.Schedule.Runs.{Fine, done_stays, iterate-add, one_turn, rank_low}
use Rattle.mesh_laws.proofs.Schedule.Sound.{rank_rises}
use Rattle.mesh_laws.proofs.Schedule.Steps.{step_is}
use Rattle.mesh_net.specs.declared.failure.NetErr.{NetErr}
use Rattle.mesh_net.specs.declared.failure.NetErr.TheVariants as net_errors
use Rattle.mesh_net.specs.declared.net.Net.{Net}
use Rattle.mesh_net.specs.NetStands.{HoldsFor, NetStands, IsDead, IsLive, IsNet}
use Rattle.mesh_net.specs.Reached.{passes}
use Rattle.mesh_post.specs.Sent.{Logged}
use Rattle.mesh_net.specs.Steps.{IsLate, LeftAt, RanOn, Rested, SliceTells, StepFails, StepLeaves, Stepped, Went, WentUpTo}
use Rattle.mesh_net.specs.Tells.{LeavesRightly, RanAll, RunTells}
use Rattle.mesh_post.specs.Waiting.{IsNoneDue, IsSomeDue}
use Rattle.mesh_net.proofs.Ends.{gains}
use Rattle.mesh_post.proofs.Midway.{logged_none, logged_both}
use Rattle.mesh_net.proofs.PopLemmas.{none_quiet, some_not_quiet}
use Rattle.mesh_net.proofs.ReachedLemmas.{reached}
use Rattle.mesh_net.proofs.RightLemmas.{happening_steps, left_rightly, rightly}

-- a run past the last moment
pub late_tells : (setup : Setup) (choice : FrameChoice) (mesh : Mesh) (t : ℕ) (log : List Event) (error : NetErr) → IsLate t error → RunTells setup choice mesh t log log error
late_tells setup choice mesh t log (net_errors.Limit limit) late = inl (record { limit_is = late.0; late = late.1; as_before = refl })
late_tells setup choice mesh t log net_errors.Dead late = late
late_tells setup choice mesh t log net_errors.Memory late = absurd late

-- a run that began
pub slice_tells : (setup : Setup) (choice : FrameChoice) (mesh : Mesh) (t : ℕ) (old new : List Event) (error : NetErr) → t ≤ clock_limit → SliceTells setup choice mesh t old new error → RunTells setup choice mesh t old new error
slice_tells setup choice mesh t old new (net_errors.Limit limit) soon s = inr (record { after = s.after; moment = s.moment; goes = s.goes; gains = gains choice mesh s.after old new s.logged; within = soon })
slice_tells setup choice mesh t old new net_errors.Dead soon s = s
slice_tells setup choice mesh t old new net_errors.Memory soon s = record { after = s.after; goes = s.goes; gains = gains choice mesh s.after old new s.logged; within = soon }

module _ {A : Type 0} (queries : Mac → Queries) (stands : A → Mac → RouteLog → Type 0) where
  fits : FitsPlaces (scenario_setup queries)
  fits = omega arith

  sound_of : (net : Net A) (choice : FrameChoice) (clock : ℕ) (mesh : Mesh) → NetStands queries stands net choice clock mesh → IsSound mesh
  sound_of net choice clock mesh s = (reached queries clock mesh s.reached).sound

  fine_of : (net : Net A) (choice : FrameChoice) (clock t : ℕ) (mesh : Mesh) → NetStands queries stands net choice clock mesh → clock ≤ t → Fine t (begin mesh)
  fine_of net choice clock t mesh s l = let p = s.past in fine_start t mesh (sound_of net choice clock mesh s) (omega (arith, p, l))

  -- ---- one happening more
  pub went_none : (net : Net A) (choice : FrameChoice) (clock : ℕ) (mesh : Mesh) (t : ℕ) (log : List Event) → NetStands queries stands net choice clock mesh → clock ≤ t → Went queries stands net choice clock mesh t 0 log log
  went_none net choice clock mesh t log s l = record {
    after = mesh;
    now = clock;
    standing = s;
    logged = logged_none choice mesh log;
    goes = refl;
    taken = refl;
    risen = omega arith;
    now_is = inl (refl, refl);
    within = l;
    way = λ keep r. r;
  }

  turn_next : (t : ℕ) (mesh after : Mesh) (h : Happening) → next_due t mesh ≡ Some h → after_happening (scenario_setup queries) h mesh ≡ Ok after → turn (scenario_setup queries) t (begin mesh) ≡ begin after
  turn_next t mesh after h due is = ap (after_next (scenario_setup queries) (begin mesh)) due ∙ ap (course_after mesh h) is

  pub went_next : (net net' : Net A) (choice : FrameChoice) (clock : ℕ) (mesh : Mesh) (t count : ℕ) (old mid new : List Event) → t ≤ clock_limit → (w : Went queries stands net choice clock mesh t count old mid) → Stepped queries stands net' choice w.after t mid new
      → Went queries stands net' choice clock mesh t (count + 1) old new
  went_next net net' choice clock mesh t count old mid new soon w s =
      let setup : Setup = scenario_setup queries in
      let sound = sound_of net choice w.now w.after w.standing in
      let due = ((finds_next t w.after sound).0 s.happening).1 s.next in
      let last = (step_is setup w.after s.happening s.after s.is).last in
      let rise = rank_rises t w.after s.happening sound s.next in
      let risen = w.risen in
      let high : rank mesh.last + (count + 1) ≤ rank s.happening = omega (arith, rise, risen) in
      record {
        after = s.after;
        now = s.happening.moment;
        standing = s.standing;
        logged = logged_both choice mesh w.after s.after old mid new w.logged s.logged;
        goes = w.goes ∙ one_turn setup t (begin w.after) s.happening (Ok s.after) fits (fine_of net choice w.now t w.after w.standing w.within) soon refl due s.is;
        taken = iterate-add (turn setup t) count 1 (begin mesh) ∙ ap (turn setup t) w.taken ∙ turn_next t w.after s.after s.happening due s.is;
        risen = subst (λ (x : Happening). rank mesh.last + (count + 1) ≤ rank x) (sym last) high;
        now_is = inr (ap (λ (x : Happening). x.moment) (sym last));
        within = s.next.within;
        way = λ keep r. happening_steps queries w.now t w.after s.after s.happening w.standing.reached s.next s.is keep (w.way keep r);
      }

  -- none is due
  pub went_rest : (net net' : Net A) (choice : FrameChoice) (clock : ℕ) (mesh : Mesh) (t count most : ℕ) (old mid new : List Event) → count ≤ most → (w : Went queries stands net choice clock mesh t count old mid) → Rested queries stands net' choice w.now w.after t mid new
      → WentUpTo queries stands net' choice clock mesh t most old new
  went_rest net net' choice clock mesh t count most old mid new few w r = record {
    count = count;
    few = few;
    went = record {
      after = w.after;
      now = w.now;
      standing = r.standing;
      logged = subst (Logged choice mesh w.after old) (sym r.as_before) w.logged;
      goes = w.goes;
      taken = w.taken;
      risen = w.risen;
      now_is = w.now_is;
      within = w.within;
      way = w.way;
    };
    full = inr r.quiet;
  }

  -- all were carried out
  pub went_all : (net : Net A) (choice : FrameChoice) (clock : ℕ) (mesh : Mesh) (t count most : ℕ) (old new : List Event) → count ≡ most → Went queries stands net choice clock mesh t count old new → WentUpTo queries stands net choice clock mesh t most old new
  went_all net choice clock mesh t count most old new e w = record { count = count; few = omega (arith, e); went = w; full = inl e }

  -- the next is refused
  pub went_fails : (net : Net A) (choice : FrameChoice) (clock : ℕ) (mesh : Mesh) (t count : ℕ) (old mid new : List Event) (error : NetErr) → t ≤ clock_limit → (w : Went queries stands net choice clock mesh t count old mid) → new ≡ mid → StepFails queries w.after t error
      → SliceTells (scenario_setup queries) choice mesh t old new error
  went_fails net choice clock mesh t count old mid new (net_errors.Limit limit) soon w same f =
      let setup : Setup = scenario_setup queries in
      let sound = sound_of net choice w.now w.after w.standing in
      let due = ((finds_next t w.after sound).0 f.happening).1 f.next in
      record {
        after = w.after;
        moment = f.happening.moment;
        goes = w.goes ∙ one_turn setup t (begin w.after) f.happening (Err limit) fits (fine_of net choice w.now t w.after w.standing w.within) soon refl due f.tells ∙ done_stays setup t (course_after w.after f.happening (Err limit)) refl;
        logged = subst (Logged choice mesh w.after old) (sym same) w.logged;
      }
  went_fails net choice clock mesh t count old mid new net_errors.Dead soon w same f = f.tells
  went_fails net choice clock mesh t count old mid new net_errors.Memory soon w same f = record {
    after = w.after;
    goes = w.goes;
    logged = subst (Logged choice mesh w.after old) (sym same) w.logged;
  }

  pub went_left : (net : Net A) (choice : FrameChoice) (clock : ℕ) (mesh : Mesh) (t count : ℕ) (old mid new : List Event) → Went queries stands net choice clock mesh t count old mid → new ≡ mid → LeftAt queries choice mesh t old new
  went_left net choice clock mesh t count old mid new w same = record {
    count = count;
    after = w.after;
    now = w.now;
    taken = w.taken;
    logged = subst (Logged choice mesh w.after old) (sym same) w.logged;
    is_reached = w.standing.reached;
    way = w.way;
  }

  -- nothing of it was begun
  pub none_left : (net : Net A) (choice : FrameChoice) (clock : ℕ) (mesh : Mesh) (t : ℕ) (log : List Event) → NetStands queries stands net choice clock mesh → LeavesRightly queries choice mesh t log log
  none_left net choice clock mesh t log s = left_rightly queries choice mesh t log log (record {
    count = 0;
    after = mesh;
    now = clock;
    taken = refl;
    logged = logged_none choice mesh log;
    is_reached = s.reached;
    way = λ keep r. r;
  })

  -- a step that was carried out, or not
  pub step_true : (net : Net A) (choice : FrameChoice) (clock : ℕ) (mesh : Mesh) (t : ℕ) (old new : List Event) (went : Bool) → went ≡ true → StepLeaves queries stands net choice clock mesh t old new went → Stepped queries stands net choice mesh t old new
  step_true net choice clock mesh t old new went e s = subst (StepLeaves queries stands net choice clock mesh t old new) e s

  pub step_false : (net : Net A) (choice : FrameChoice) (clock : ℕ) (mesh : Mesh) (t : ℕ) (old new : List Event) (went : Bool) → went ≡ false → StepLeaves queries stands net choice clock mesh t old new went → Rested queries stands net choice clock mesh t old new
  step_false net choice clock mesh t old new went e s = subst (StepLeaves queries stands net choice clock mesh t old new) e s

  -- ---- a slice
  clash : {X : Type 0} → true ≡ false → X
  clash e = cc

  full_of : (net : Net A) (choice : FrameChoice) (clock : ℕ) (mesh : Mesh) (t most : ℕ) (old new : List Event) (u : WentUpTo queries stands net choice clock mesh t most old new) → IsSomeDue net.post.queue t → u.count ≡ most
  full_of net choice clock mesh t most old new u some = elim u.full as (λ _. u.count ≡ most) [
    | inl e ↦ e
    | inr quiet ↦ absurd (some_not_quiet net.post.queue t u.went.after (sound_of net choice u.went.now u.went.after u.went.standing) u.went.standing.kept.amid.waits some quiet)
  ]

  pub slice_goes_on : (net : Net A) (choice : FrameChoice) (clock : ℕ) (mesh : Mesh) (t most : ℕ) (old new : List Event) → t ≤ clock_limit → WentUpTo queries stands net choice clock mesh t most old new → IsSomeDue net.post.queue t → RanOn queries stands net choice clock mesh t most old new true
  slice_goes_on net choice clock mesh t most old new soon u some = record {
    ran = record {
      after = u.went.after;
      now = u.went.now;
      standing = u.went.standing;
      gains = gains choice mesh u.went.after old new u.went.logged;
      goes = u.went.goes;
      count = u.count;
      few = u.few;
      taken = u.went.taken;
      broke_off = λ e. (
        full_of net choice clock mesh t most old new u some,
        some_not_quiet net.post.queue t u.went.after (sound_of net choice u.went.now u.went.after u.went.standing) u.went.standing.kept.amid.waits some,
        u.went.now_is,
      );
      ended = λ e. clash e;
      within = soon;
      right = rightly queries choice ⊤ u.went.now mesh u.went.after old new u.went.standing.reached (λ keep r none. u.went.way keep r) u.went.logged;
    };
    logged = u.went.logged;
    risen = u.went.risen;
    within_now = u.went.within;
  }

  -- the time passes
  abbrev pub at_clock : Net A → ℕ → Net A
  at_clock net t = record net { clock = t }

  pub slice_ends : (net : Net A) (choice : FrameChoice) (clock : ℕ) (mesh : Mesh) (t most : ℕ) (old new : List Event) → t ≤ clock_limit → WentUpTo queries stands net choice clock mesh t most old new → IsNoneDue net.post.queue t → RanOn queries stands (at_clock net t) choice clock mesh t most old new false
  slice_ends net choice clock mesh t most old new soon u none =
      let s = u.went.standing in
      let quiet = none_quiet net.post.queue t u.went.after (sound_of net choice u.went.now u.went.after s) s.kept.amid.waits none in
      let past = s.past in
      let within = u.went.within in
      record {
        ran = record {
          after = u.went.after;
          now = t;
          standing = record {
            alive = s.alive;
            choice_is = s.choice_is;
            clock_is = refl;
            last_is = s.last_is;
            past = omega (arith, past, within);
            low = soon;
            seats = s.seats;
            kept = s.kept;
            settled = s.settled;
            watched = s.watched;
            reached = passes u.went.now t u.went.after s.reached within soon quiet;
          };
          gains = gains choice mesh u.went.after old new u.went.logged;
          goes = u.went.goes;
          count = u.count;
          few = u.few;
          taken = u.went.taken;
          broke_off = λ e. clash (sym e);
          ended = λ e. (quiet, refl);
          within = soon;
          right = rightly queries choice ⊤ u.went.now mesh u.went.after old new s.reached (λ keep r none. u.went.way keep r) u.went.logged;
        };
        logged = u.went.logged;
        risen = u.went.risen;
        within_now = omega arith;
      }

  -- ---- a whole run
  -- a run is under way: the mesh and the clock now
  pub record UnderWay (net : Net A) (choice : FrameChoice) (mesh : Mesh) (t : ℕ) (old new : List Event) : Type 0 where
    pub after : Mesh
    pub now : ℕ
    pub standing : NetStands queries stands net choice now after
    pub logged : Logged choice mesh after old new
    pub goes : run_to (scenario_setup queries) t mesh ≡ going_on (scenario_setup queries) t (begin after)
    pub within : now ≤ t
    pub count : ℕ
    pub taken : iterate (turn (scenario_setup queries) t) count (begin mesh) ≡ begin after
    pub way : AllKeep queries → IsReachable queries mesh → IsReachable queries after

  pub under_way_first : (net : Net A) (choice : FrameChoice) (clock : ℕ) (mesh : Mesh) (t : ℕ) (log : List Event) → NetStands queries stands net choice clock mesh → clock ≤ t → UnderWay net choice mesh t log log
  under_way_first net choice clock mesh t log s l = record { after = mesh; now = clock; standing = s; logged = logged_none choice mesh log; goes = refl; within = l; count = 0; taken = refl; way = λ keep r. r }

  more_taken : (t one two : ℕ) (mesh mid after : Mesh) → iterate (turn (scenario_setup queries) t) one (begin mesh) ≡ begin mid → iterate (turn (scenario_setup queries) t) two (begin mid) ≡ begin after → iterate (turn (scenario_setup queries) t) (one + two) (begin mesh) ≡ begin after
  more_taken t one two mesh mid after p q = iterate-add (turn (scenario_setup queries) t) one two (begin mesh) ∙ ap (iterate (turn (scenario_setup queries) t) two) p ∙ q

  pub under_way_next : (net net' : Net A) (choice : FrameChoice) (mesh : Mesh) (t most : ℕ) (old mid new : List Event) (more : Bool) → (w : UnderWay net choice mesh t old mid) → RanOn queries stands net' choice w.now w.after t most mid new more → UnderWay net' choice mesh t old new
  under_way_next net net' choice mesh t most old mid new more w r = record {
    after = r.ran.after;
    now = r.ran.now;
    standing = r.ran.standing;
    logged = logged_both choice mesh w.after r.ran.after old mid new w.logged r.logged;
    goes = w.goes ∙ r.ran.goes;
    within = r.within_now;
    count = w.count + r.ran.count;
    taken = more_taken t w.count r.ran.count mesh w.after r.ran.after w.taken r.ran.taken;
    way = λ keep before. (r.ran.right.told keep (w.way keep before) tt).reachable;
  }

  -- it came to its end
  pub ran_all : (net net' : Net A) (choice : FrameChoice) (mesh : Mesh) (t most : ℕ) (old mid new : List Event) → t ≤ clock_limit → (w : UnderWay net choice mesh t old mid) → RanOn queries stands net' choice w.now w.after t most mid new false → RanAll queries stands (scenario_setup queries) net' choice mesh t old new
  ran_all net net' choice mesh t most old mid new soon w r =
      let end = r.ran.ended refl in
      let setup : Setup = scenario_setup queries in
      let sound = sound_of net' choice r.ran.now r.ran.after r.ran.standing in
      let none = (finds_next t r.ran.after sound).1 in
      record {
        after = r.ran.after;
        standing = subst (λ k. NetStands queries stands net' choice k r.ran.after) end.1 r.ran.standing;
        gains = gains choice mesh r.ran.after old new (logged_both choice mesh w.after r.ran.after old mid new w.logged r.logged);
        goes = w.goes ∙ r.ran.goes ∙ done_stays setup t (begin r.ran.after) (ap is_none (none.1 end.0));
        quiet = end.0;
        within = soon;
        right = rightly queries choice ⊤ r.ran.now mesh r.ran.after old new r.ran.standing.reached (λ keep before none. (r.ran.right.told keep (w.way keep before) tt).reachable) (logged_both choice mesh w.after r.ran.after old mid new w.logged r.logged);
      }

  -- the last happening rises, below a bound
  pub rises : (net net' : Net A) (choice : FrameChoice) (mesh : Mesh) (t most : ℕ) (old mid new : List Event) → 0 < most → (w : UnderWay net choice mesh t old mid) → RanOn queries stands net' choice w.now w.after t most mid new true
      → (t + 1) * 1099511627776 - rank net'.last < (t + 1) * 1099511627776 - rank net.last
  rises net net' choice mesh t most old mid new some w r =
      let risen = r.risen in
      let count = (r.ran.broke_off refl).0 in
      let low = rank_low t (begin r.ran.after) (fine_of net' choice r.ran.now t r.ran.after r.ran.standing r.within_now) in
      let above : rank w.after.last < rank r.ran.after.last = omega (arith, risen, count, some) in
      let by : (t + 1) * 1099511627776 - rank r.ran.after.last < (t + 1) * 1099511627776 - rank w.after.last = omega (arith, above, low) in
      subst (λ (h : Happening). (t + 1) * 1099511627776 - rank h < (t + 1) * 1099511627776 - rank net.last) (sym r.ran.standing.last_is)
      (subst (λ (h : Happening). (t + 1) * 1099511627776 - rank r.ran.after.last < (t + 1) * 1099511627776 - rank h) (sym w.standing.last_is) by)

  -- a slice of it is refused
  pub tells_on : (net : Net A) (choice : FrameChoice) (mesh : Mesh) (t : ℕ) (old mid new : List Event) (error : NetErr) → (w : UnderWay net choice mesh t old mid) → SliceTells (scenario_setup queries) choice w.after t mid new error → SliceTells (scenario_setup queries) choice mesh t old new error
  tells_on net choice mesh t old mid new (net_errors.Limit limit) w s = record {
    after = s.after;
    moment = s.moment;
    goes = w.goes ∙ s.goes;
    logged = logged_both choice mesh w.after s.after old mid new w.logged s.logged;
  }
  tells_on net choice mesh t old mid new net_errors.Dead w f = f
  tells_on net choice mesh t old mid new net_errors.Memory w s = record { after = s.after; goes = w.goes ∙ s.goes; logged = logged_both choice mesh w.after s.after old mid new w.logged s.logged }

  pub left_on : (net : Net A) (choice : FrameChoice) (mesh : Mesh) (t : ℕ) (old mid new : List Event) → (w : UnderWay net choice mesh t old mid) → LeftAt queries choice w.after t mid new → LeavesRightly queries choice mesh t old new
  left_on net choice mesh t old mid new w l = left_rightly queries choice mesh t old new (record {
    count = w.count + l.count;
    after = l.after;
    now = l.now;
    taken = more_taken t w.count l.count mesh w.after l.after w.taken l.taken;
    logged = logged_both choice mesh w.after l.after old mid new w.logged l.logged;
    is_reached = l.is_reached;
    way = λ keep before. l.way keep (w.way keep before);
  })

  -- ---- nets that stand for something
  -- one that stands for what another does, since they are equal
  pub same_live : (net net' : Net A) → net' ≡ net → IsLive queries stands net → IsLive queries stands net'
  same_live net net' e live = subst (IsLive queries stands) (sym e) live

  pub same_stands : (net net' : Net A) (choice : FrameChoice) (clock : ℕ) (mesh : Mesh) → net' ≡ net → NetStands queries stands net choice clock mesh → NetStands queries stands net' choice clock mesh
  same_stands net net' choice clock mesh e s = subst (λ (n : Net A). NetStands queries stands n choice clock mesh) (sym e) s

  -- after a happening
  pub live_next : (net net' : Net A) (t : ℕ) (old new : List Event) → (live : IsLive queries stands net) → Stepped queries stands net' live.choice live.mesh t old new → IsLive queries stands net'
  live_next net net' t old new live s = record { choice = live.choice; clock = s.happening.moment; mesh = s.after; standing = s.standing }

  -- after a slice
  pub live_on : (net net' : Net A) (t most : ℕ) (old new : List Event) (more : Bool) → (live : IsLive queries stands net) → RanOn queries stands net' live.choice live.clock live.mesh t most old new more → IsLive queries stands net'
  live_on net net' t most old new more live r = record { choice = live.choice; clock = r.ran.now; mesh = r.ran.after; standing = r.ran.standing }

  -- its clock isn't past the moment of a slice
  pub soon_on : (net net' : Net A) (t most : ℕ) (old new : List Event) (more : Bool) → (live : IsLive queries stands net) → RanOn queries stands net' live.choice live.clock live.mesh t most old new more → net'.clock ≤ t
  soon_on net net' t most old new more live r = let e = r.ran.standing.clock_is in let l = r.within_now in omega (arith, e, l)

  -- after a slice that may be refused
  pub net_on : (r : Result Bool NetErr) (net net' : Net A) (t most : ℕ) (old new : List Event) → (live : IsLive queries stands net)
      → OnErr r (IsDead net') → IfOk r (RanOn queries stands net' live.choice live.clock live.mesh t most old new) → IsNet queries stands net'
  net_on (Ok more) net net' t most old new live dead ran = inr (live_on net net' t most old new more live ran)
  net_on (Err error) net net' t most old new live dead ran = inl dead

  -- it isn't dead
  pub is_alive : {X : Type 0} → (net : Net A) → net.dead ≡ false → IsDead net → X
  is_alive net alive dead = clash (sym dead ∙ alive)

  -- its clock isn't past a moment that is later than the clock of each mesh that it stands for
  pub clock_soon : (net : Net A) (t : ℕ) → IsLive queries stands net → HoldsFor queries stands net (λ choice clock mesh. clock ≤ t) → net.clock ≤ t
  clock_soon net t live later = let e = live.standing.clock_is in let l = later live.choice live.clock live.mesh live.standing in omega (arith, e, l)
