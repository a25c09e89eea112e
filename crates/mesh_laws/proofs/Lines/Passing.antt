-- Runs of states.
use Rattle.std.proofs.Common.{◌≡◌, ℕ, ◌≤◌, List, ◌++◌, map, ◌||◌, is_some, is_none, Option, Some, None, refl, sym, ap, ◌∙◌, append_assoc, arith}
use Rattle.std.proofs.lemmas.List.{map-append}
use Rattle.mesh_model.specs.declared.ending.Stop.TheVariants.{Limit}
use Rattle.mesh_model.specs.Net.Mesh.{Mesh, Setup}
use Rattle.mesh_model.specs.Net.Due.{next_due}
use Rattle.mesh_model.specs.Net.Limits.{clock_limit}
use Rattle.mesh_model.specs.Net.Runs.{PassedLimit, Course, begin, turn, going_on, run_to}
use Rattle.mesh_model.specs.Run.State.{Printed, Happened, State, names_of}
use Rattle.mesh_model.specs.Run.Outcome.{Goes, Ends, followed_by}
use Rattle.mesh_model.specs.Run.Passing.{events_since, gone_on, course_outcome, after_course, run_until, clock_behind, one_happening}
use Rattle.mesh_laws.specs.LineLaws.{CanPass}
use Rattle.mesh_laws.proofs.Schedule.Runs.{Fine, slices, done_stays, after_turn}
use Rattle.mesh_laws.proofs.Schedule.Kept.{fine_start}
use Rattle.mesh_laws.proofs.Lines.Courses.{Follows, since_both, turn_follows, going_follows}

printed_both : (printed : List Printed) (a b c : Mesh) → Follows a b → Follows b c
    → printed ++ map (Happened (names_of c)) (events_since a c) ≡ (printed ++ map (Happened (names_of b)) (events_since a b)) ++ map (Happened (names_of c)) (events_since b c)
printed_both printed a b c p q =
    ap (λ es. printed ++ map (Happened (names_of c)) es) (since_both a b c p q)
    ∙ ap (λ ps. printed ++ ps) (map-append (Happened (names_of c)) (events_since a b) (events_since b c))
    ∙ ap (λ ns. printed ++ (map (Happened ns) (events_since a b) ++ map (Happened (names_of c)) (events_since b c))) q.names
    ∙ sym (append_assoc printed (map (Happened (names_of b)) (events_since a b)) (map (Happened (names_of c)) (events_since b c)))

-- going on to a mesh by way of another
gone_on_twice : (state : State) (k t : ℕ) (b c : Mesh) → Follows state.mesh b → Follows b c → gone_on state t c ≡ gone_on (gone_on state k b) t c
gone_on_twice state k t b c p q = ap (λ ps. record state { mesh = c; clock = t; printed = ps }) (printed_both state.printed state.mesh b c p q)

outcome_twice : (state : State) (k t : ℕ) (b c : Mesh) (stop : Option PassedLimit) → Follows state.mesh b → Follows b c
    → course_outcome state t c stop ≡ course_outcome (gone_on state k b) t c stop
outcome_twice state k t b c None p q = ap Goes (gone_on_twice state k t b c p q)
outcome_twice state k t b c (Some passed) p q = ap (λ s. Ends s (Limit passed.limit)) (gone_on_twice state k passed.moment b c p q)

-- a course is cut at another that it goes on from
pub cut_by : (setup : Setup) (t k : ℕ) (state : State) (o : Course) (stop : Option PassedLimit) → o.stop ≡ stop → Follows state.mesh o.mesh
    → after_course state t (going_on setup t o) ≡ followed_by (course_outcome state k o.mesh stop) (run_until setup t)
cut_by setup t k state o None s f =
    let o_is : o ≡ begin o.mesh = λ i. record { mesh = o.mesh; stop = s i } in
    outcome_twice state k t o.mesh (going_on setup t o).mesh (going_on setup t o).stop f (going_follows setup t o)
    ∙ ap (λ x. after_course (gone_on state k o.mesh) t (going_on setup t x)) o_is
cut_by setup t k state o (Some passed) s f =
    ap (after_course state t) (done_stays setup t o (ap (λ x. is_some x || is_none (next_due t o.mesh)) s))
    ∙ ap (course_outcome state t o.mesh) s

pub cut : (setup : Setup) (t k : ℕ) (state : State) (o : Course) → Follows state.mesh o.mesh
    → after_course state t (going_on setup t o) ≡ followed_by (after_course state k o) (run_until setup t)
cut setup t k state o f = cut_by setup t k state o o.stop refl f

pub begun : (setup : Setup) (t : ℕ) (state : State) → CanPass setup t state → Fine t (begin state.mesh)
begun setup t state can =
    let p = can.is_reached.past in let l = can.begins in
    fine_start t state.mesh can.is_reached.sound (omega (arith, p, l))

pub goes_on : (setup : Setup) (first last : ℕ) (state : State) → CanPass setup first state → first ≤ last → last ≤ clock_limit
    → run_until setup last state ≡ followed_by (run_until setup first state) (run_until setup last)
goes_on setup first last state can later low =
    ap (after_course state last) (sym (slices setup first last (begin state.mesh) can.fits (begun setup first state can) later low))
    ∙ cut setup last first state (run_to setup first state.mesh) (going_follows setup first (begin state.mesh))

pub goes_by_happenings : (setup : Setup) (t : ℕ) (state : State) → CanPass setup t state → run_until setup t state ≡ followed_by (one_happening setup t state) (run_until setup t)
goes_by_happenings setup t state can =
    ap (after_course state t) (after_turn setup t (begin state.mesh) can.fits (begun setup t state can) can.ends)
    ∙ cut setup t (clock_behind t (next_due t state.mesh)) state (turn setup t (begin state.mesh)) (turn_follows setup t (begin state.mesh))
