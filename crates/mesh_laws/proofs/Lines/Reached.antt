-- Runs, and their first happenings, lead to states that are reached.
use Rattle.std.proofs.Common.{◌≡◌, ℕ, ◌≤◌, Option, Some, None, refl, sym, ap, subst, arith}
use Rattle.mesh_model.specs.declared.happening.Happening.{Happening}
use Rattle.mesh_model.specs.Net.Mesh.{Mesh, Setup}
use Rattle.mesh_model.specs.Net.Due.{next_due}
use Rattle.mesh_model.specs.Net.Limits.{clock_limit}
use Rattle.mesh_model.specs.Net.Runs.{PassedLimit, Course, begin, turn, run_to}
use Rattle.mesh_model.specs.Run.State.{State}
use Rattle.mesh_model.specs.Run.Outcome.{reached}
use Rattle.mesh_model.specs.Run.Passing.{course_outcome, run_until, clock_behind, one_happening}
use Rattle.mesh_laws.specs.LineLaws.{IsReached, CanPass}
use Rattle.mesh_laws.specs.Soundness.{KeepsBytes}
use Rattle.mesh_laws.proofs.Schedule.Steps.{step_is}
use Rattle.mesh_laws.proofs.Schedule.Due.{due_is_next}
use Rattle.mesh_laws.proofs.Schedule.Runs.{Turned, rests, goes, stops, turned, Fine}
use Rattle.mesh_laws.proofs.Schedule.Kept.{bytes_kept, bytes_turn, none_due}
use Rattle.mesh_laws.proofs.Lines.Courses.{Halts, halts_start, turn_halts, going_halts}
use Rattle.mesh_laws.proofs.Lines.Passing.{begun}

-- where the clock stands behind a course that no limit ended
abbrev StandsAt : ℕ → ℕ → Course → Type 0
StandsAt t k o = (o.mesh.last.moment ≤ k) × (k ≤ t)

course_reached : (t k : ℕ) (state : State) (o : Course) (stop : Option PassedLimit) → o.stop ≡ stop → t ≤ clock_limit → Halts t o → KeepsBytes o.mesh
    → (o.stop ≡ None → StandsAt t k o) → IsReached (reached (course_outcome state k o.mesh stop))
course_reached t k state o None s low h bytes at =
    let past = (at s).0 in
    let within = (at s).1 in
    record { sound = h.fine.sound; bytes = bytes; past = past; low = omega (arith, within, low) }
course_reached t k state o (Some p) s low h bytes at =
    let past = (h.within p s).0 in
    let within = (h.within p s).1 in
    record { sound = h.fine.sound; bytes = bytes; past = past; low = omega (arith, within, low) }

pub runs_are_reached : (setup : Setup) (t : ℕ) (state : State) → CanPass setup t state → IsReached (reached (run_until setup t state))
runs_are_reached setup t state can =
    let o : Course = run_to setup t state.mesh in
    let h = going_halts setup t (begin state.mesh) can.fits (halts_start t state.mesh (begun setup t state can)) in
    let within = h.fine.within in
    course_reached t t state o o.stop refl can.ends h (bytes_kept setup t (begin state.mesh) can.is_reached.bytes) (λ s. (within, omega arith))

some_stop : (p : PassedLimit) (o : Option PassedLimit) → o ≡ Some p → o ≡ None → ⊥
some_stop p None a b = cc
some_stop p (Some q) a b = cc

-- where the clock stands behind a turn
behind_turn : (setup : Setup) (t : ℕ) (mesh : Mesh) (o : Course) → Fine t (begin mesh) → Turned setup t (begin mesh) o → o.stop ≡ None → StandsAt t (clock_behind t (next_due t mesh)) o
behind_turn setup t mesh o fine (rests d e) s =
    let none : next_due t mesh ≡ None = none_due None (next_due t mesh) refl d in
    let within = fine.within in
    subst (λ n. StandsAt t (clock_behind t n) o) (sym none) (subst (StandsAt t t) (sym e) (within, omega arith))
behind_turn setup t mesh o fine (goes h after n d c e) s =
    let next = due_is_next t mesh fine.sound h d in
    let last : after.last.moment ≡ h.moment = ap (λ (x : Happening). x.moment) (step_is setup mesh h after c).last in
    let within = next.within in
    subst (λ n. StandsAt t (clock_behind t n) o) (sym d) (subst (StandsAt t h.moment) (sym e) (omega (arith, last), within))
behind_turn setup t mesh o fine (stops h limit n d c e) s = absurd (some_stop (record { moment = h.moment; limit = limit }) o.stop (ap (λ (x : Course). x.stop) e) s)

pub happenings_are_reached : (setup : Setup) (t : ℕ) (state : State) → CanPass setup t state → IsReached (reached (one_happening setup t state))
happenings_are_reached setup t state can =
    let o : Course = turn setup t (begin state.mesh) in
    let fine = begun setup t state can in
    let h = turn_halts setup t (begin state.mesh) can.fits (halts_start t state.mesh fine) in
    course_reached t (clock_behind t (next_due t state.mesh)) state o o.stop refl can.ends h
    (bytes_turn setup t (begin state.mesh) o can.is_reached.bytes (turned setup t (begin state.mesh)))
    (behind_turn setup t state.mesh o fine (turned setup t (begin state.mesh)))
