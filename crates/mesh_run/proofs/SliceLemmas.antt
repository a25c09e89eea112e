-- Slices of a run that follow one another.
use Rattle.std.proofs.Common.{◌≡◌, ℕ, true, false, List, [], ◌++◌, Option, refl, sym, ap, ◌∙◌, subst, append-nil}
use Rattle.std.specs.Io.KnownBytes.{Appends}
use Rattle.mesh_model.specs.declared.ending.LimitName.{LimitName}
use Rattle.mesh_model.specs.declared.ending.Stop.TheVariants.{Limit as StopLimit}
use Rattle.mesh_model.specs.Net.Mesh.{Setup}
use Rattle.mesh_model.specs.Net.Runs.{run_to}
use Rattle.mesh_model.specs.Run.Outcome.{Outcome, reached}
use Rattle.mesh_model.specs.Run.Passing.{run_until}
use Rattle.mesh_model.specs.Run.State.{State, text_of}
use Rattle.mesh_run.specs.Inner.Lines.{Carried, CarryFails, Sliced, StandsAt}
use Rattle.mesh_scene.specs.Slices.{Passes}
use Rattle.mesh_run.specs.Outcome.{AppendsLess}
use Rattle.mesh_run.specs.declared.fault.Fault.{Fault}
use Rattle.mesh_run.specs.declared.fault.Fault.TheVariants.{Halted}
use Rattle.mesh_scene.specs.declared.slice.Passage.{Passage}
use Rattle.mesh_scene.specs.declared.slice.Passage.TheVariants.{Going, Ended}
use Rattle.mesh_scene.specs.declared.slice.Passage.TheVariants.{Stopped as StoppedAt}
use Rattle.mesh_laws.proofs.Lines.Printing.{Grows, course_grows}
use Rattle.mesh_laws.proofs.RunLemmas.{text-grows}
use Rattle.mesh_run.proofs.FrontLemmas.{appends-after, less-after, less-more}

-- a run in its middle: where it stands, and from where it goes on
pub record MidRun {S : Type 0} (stand : S → State → Type 0) (setup : Setup) (t : ℕ) (from : State) (base now : Option (List ℕ)) (scene : S) : Type 0 where
  pub mid : State
  pub same : run_until setup t from ≡ run_until setup t mid
  pub standing : StandsAt text_of stand base now scene mid

pub begins : {S : Type 0} (stand : S → State → Type 0) (setup : Setup) (t : ℕ) (from : State) (base now : Option (List ℕ)) (scene : S) → StandsAt text_of stand base now scene from → MidRun stand setup t from base now scene
begins stand setup t from base now scene stands = record { mid = from; same = refl; standing = stands }

-- one more slice
pub goes_further : {S : Type 0} (stand : S → State → Type 0) (setup : Setup) (t : ℕ) (from : State) (base old now : Option (List ℕ)) (before scene : S) → (run : MidRun stand setup t from base old before) → Sliced stand setup t run.mid base now scene true → MidRun stand setup t from base now scene
goes_further stand setup t from base old now before scene run sliced = record { mid = sliced.mid; same = run.same ∙ sliced.leads; standing = sliced.standing }

-- the last one
pub ends_run : {S : Type 0} (stand : S → State → Type 0) (setup : Setup) (t : ℕ) (from : State) (base old now : Option (List ℕ)) (before scene : S) → (run : MidRun stand setup t from base old before) → Sliced stand setup t run.mid base now scene false
    → Carried text_of stand (run_until setup t from) base now scene
ends_run stand setup t from base old now before scene run sliced = record { after = sliced.mid; carried = run.same ∙ sliced.leads; standing = sliced.standing }

-- a fault of a slice is one of the run
pub fails_so : {S : Type 0} (stand : S → State → Type 0) (setup : Setup) (t : ℕ) (from : State) (base old now : Option (List ℕ)) (before : S) (number : ℕ) (fault : Fault) → (run : MidRun stand setup t from base old before)
    → CarryFails text_of (run_until setup t run.mid) base now number fault → CarryFails text_of (run_until setup t from) base now number fault
fails_so stand setup t from base old now before number fault run fails = subst (λ (o : Outcome). CarryFails text_of o base now number fault) (sym run.same) fails

-- ---- one slice that is written

-- what a run prints, it prints behind what was printed before it
pub run_prints : (setup : Setup) (t : ℕ) (state : State) → Grows state (reached (run_until setup t state))
run_prints setup t state = course_grows state t (run_to setup t state.mesh).mesh (run_to setup t state.mesh).stop

pub slice_more : {S : Type 0} (stand : S → State → Type 0) (setup : Setup) (t : ℕ) (state : State) (base old now : Option (List ℕ)) (before scene : S) (printed : List ℕ) → StandsAt text_of stand base old before state → Passes stand setup t state scene printed Going
    → Appends old now printed → Sliced stand setup t state base now scene true
slice_more stand setup t state base old now before scene printed at p wrote = record {
  mid = p.mid;
  leads = p.leads;
  standing = record { scene_is = p.standing; printed = appends-after base old now (text_of state) printed (text_of p.mid) at.printed wrote p.text };
}

pub slice_last : {S : Type 0} (stand : S → State → Type 0) (setup : Setup) (t : ℕ) (state : State) (base old now : Option (List ℕ)) (before scene : S) (printed : List ℕ) → StandsAt text_of stand base old before state → Passes stand setup t state scene printed Ended
    → Appends old now printed → Sliced stand setup t state base now scene false
slice_last stand setup t state base old now before scene printed at p wrote = record {
  mid = p.mid;
  leads = p.leads;
  standing = record { scene_is = p.standing; printed = appends-after base old now (text_of state) printed (text_of p.mid) at.printed wrote p.text };
}

pub slice_stops : {S : Type 0} (stand : S → State → Type 0) (setup : Setup) (t : ℕ) (state : State) (base old now : Option (List ℕ)) (before scene : S) (printed : List ℕ) (number : ℕ) (limit : LimitName) → StandsAt text_of stand base old before state
    → Passes stand setup t state scene printed (StoppedAt limit) → Appends old now printed → CarryFails text_of (run_until setup t state) base now number (Halted number (StopLimit limit))
slice_stops stand setup t state base old now before scene printed number limit at p wrote = record {
  after = p.mid;
  ended = p.leads;
  numbered = refl;
  printed = appends-after base old now (text_of state) printed (text_of p.mid) at.printed wrote p.text;
}

-- what a slice printed is a front of what the run prints
slice_front : {S : Type 0} (stand : S → State → Type 0) (setup : Setup) (t : ℕ) (state : State) (scene : S) (printed : List ℕ) (passage : Passage) → (p : Passes stand setup t state scene printed passage)
    → (more : List ℕ) × (text_of (reached (run_until setup t state)) ≡ text_of p.mid ++ more)
slice_front stand setup t state scene printed Going p =
    let more = text-grows p.mid (reached (run_until setup t p.mid)) (run_prints setup t p.mid) in
    (more.0, ap (λ (o : Outcome). text_of (reached o)) p.leads ∙ more.1)
slice_front stand setup t state scene printed Ended p = ([], ap (λ (o : Outcome). text_of (reached o)) p.leads ∙ sym (append-nil (text_of p.mid)))
slice_front stand setup t state scene printed (StoppedAt limit) p = ([], ap (λ (o : Outcome). text_of (reached o)) p.leads ∙ sym (append-nil (text_of p.mid)))

pub slice_less : {S : Type 0} (stand : S → State → Type 0) (setup : Setup) (t : ℕ) (state : State) (base old now : Option (List ℕ)) (before scene : S) (printed : List ℕ) (passage : Passage) → StandsAt text_of stand base old before state → Passes stand setup t state scene printed passage
    → AppendsLess old now printed → AppendsLess base now (text_of (reached (run_until setup t state)))
slice_less stand setup t state base old now before scene printed passage at p less =
    let front = slice_front stand setup t state scene printed passage p in
    less-more base now (text_of p.mid) front.0 (text_of (reached (run_until setup t state))) (less-after base old now (text_of state) printed (text_of p.mid) at.printed less p.text) front.1
