-- Lines of routes: what a line leaves that was taken, and the cause of the fault of one that wasn't.
use Rattle.std.proofs.Common.{◌≡◌, ◌↔◌, ℕ, Bool, true, false, List, [], ◌++◌, length, Option, Ok, Err, Result, refl, sym, ap, ◌∙◌, append-nil, arith}
use Rattle.std.specs.Prelude.{◌&&◌, nat_le, not}
use Rattle.std.proofs.lemmas.Bool.Decides.{nat_tests}
use Rattle.std.specs.Io.KnownBytes.{Appends}
use Rattle.mesh_bisect.specs.Bisect.{IsLate, IsOneTooMany, after_reading, told_at_reading}
use Rattle.mesh_bisect.specs.declared.failure.BisectErr.{BisectErr}
use Rattle.mesh_bisect.specs.declared.failure.BisectErr.TheVariants as errors
use Rattle.mesh_loops.specs.Watch.{PassesPairs}
use Rattle.mesh_model.specs.declared.ending.LimitName.TheVariants.{Pairs}
use Rattle.mesh_model.specs.declared.ending.Refusal.TheVariants.{TimeBack}
use Rattle.mesh_model.specs.declared.ending.Stop.TheVariants.{Limit, Refused}
use Rattle.mesh_model.specs.declared.route_line.RouteLine.{RouteLine}
use Rattle.mesh_model.specs.declared.route_line.RoutePair.{RoutePair}
use Rattle.mesh_model.specs.declared.route_line.RouteReading.{RouteReading}
use Rattle.mesh_model.specs.declared.route_line.RouteReading.TheVariants.{Other, Route, Bad}
use Rattle.mesh_model.specs.Loops.Bisecting.{all_lines, is_late, pairs_limit, passes_pairs}
use Rattle.mesh_model.specs.Loops.Routes.{has_pair, pair_of_line, pairs_of}
use Rattle.mesh_model.specs.Run.InputRun.{loop_text}
use Rattle.mesh_model.specs.Run.LoopRun.{LoopState, after_route_reading}
use Rattle.mesh_model.specs.Run.Outcome.{Ends, Goes}
use Rattle.mesh_run.specs.Inner.Faults.{fault_at, route_fault}
use Rattle.mesh_run.specs.Inner.Lines.{CarryFails}
use Rattle.mesh_run.proofs.FrontLemmas.{front-before}
use Rattle.mesh_run.proofs.KindLemmas.{route_reading-prints}

-- ---- a pair too many

both : (a b : Bool) → (not a && b) ≡ true → (a ≡ false) × (b ≡ true)
both true b h = cc
both false b h = (refl, h)

passes_both : (lines : List RouteLine) (pair : RoutePair) → passes_pairs lines pair ≡ true → PassesPairs lines pair
passes_both lines pair h =
    let p = both (has_pair lines pair) (nat_le pairs_limit (length (pairs_of lines))) h in
    let full = p.1 in
    (p.0, grind (arith, nat_tests, full))

both_pass : (lines : List RouteLine) (pair : RoutePair) → PassesPairs lines pair → passes_pairs lines pair ≡ true
both_pass lines pair h =
    let most = h.1 in
    let full : nat_le pairs_limit (length (pairs_of lines)) ≡ true = grind (arith, nat_tests, most) in
    rw (h.0, full) refl

by_test : (test : Bool) → (test ≡ true → ⊥) → test ≡ false
by_test true h = absurd (h refl)
by_test false h = refl

-- ---- a line that was taken

-- the state after it
abbrev pub state_after : LoopState → RouteReading → LoopState
state_after state reading = record {
  lines = after_reading state.lines reading;
  printed = state.printed ++ told_at_reading state.lines reading;
}

printed_as : (state : LoopState) (text : List ℕ) → text ≡ state.printed → record state { printed = text } ≡ state
printed_as state text is = ap (λ t. record state { printed = t }) is

-- what a line leaves that is neither bad nor late, and names no pair too many
reading_goes : (state : LoopState) (reading : RouteReading) → (reading ≡ Bad → ⊥) → (IsLate state.lines reading → ⊥) → (IsOneTooMany state.lines reading → ⊥) → after_route_reading state reading ≡ Goes (state_after state reading)
reading_goes state Other bad late many = ap Goes (sym (printed_as state (state.printed ++ []) (append-nil state.printed)))
reading_goes state (Route line) bad late many =
    let early = by_test (is_late state.lines line) late in
    let few = by_test (passes_pairs (all_lines state.lines) (pair_of_line line)) (λ h. many (early, passes_both (all_lines state.lines) (pair_of_line line) h)) in
    rw (early, few) refl
reading_goes state Bad bad late many = absurd (bad refl)

no_ok : {X : Type 0} (r : Result (Unit {0}) BisectErr) (done : Unit {0}) (error : BisectErr) → r ≡ Ok done → r ≡ Err error → X
no_ok r done error p q = let h : Ok done ≡ Err error = sym p ∙ q in cc

-- where what reads lines took it
pub taken_goes : (state : LoopState) (reading : RouteReading) (r : Result (Unit {0}) BisectErr) (done : Unit {0}) → r ≡ Ok done → ((r ≡ Err errors.BadRoute) ↔ (reading ≡ Bad)) → ((r ≡ Err errors.TimeBack) ↔ IsLate state.lines reading)
    → ((r ≡ Err errors.Pairs) ↔ IsOneTooMany state.lines reading) → after_route_reading state reading ≡ Goes (state_after state reading)
taken_goes state reading r done is bad late many = reading_goes state reading (λ e. no_ok r done errors.BadRoute is (bad.1 e)) (λ l. no_ok r done errors.TimeBack is (late.1 l)) (λ m. no_ok r done errors.Pairs is (many.1 m))

-- ---- a line that wasn't

is_bad : (state : LoopState) (reading : RouteReading) → reading ≡ Bad → after_route_reading state reading ≡ after_route_reading state Bad
is_bad state reading is = ap (after_route_reading state) is

late_ends : (state : LoopState) (reading : RouteReading) → IsLate state.lines reading → after_route_reading state reading ≡ Ends state (Refused TimeBack)
late_ends state Other late = absurd late
late_ends state (Route line) late = rw late refl
late_ends state Bad late = absurd late

many_end : (state : LoopState) (reading : RouteReading) → IsOneTooMany state.lines reading → after_route_reading state reading ≡ Ends state (Limit Pairs)
many_end state Other many = absurd many
many_end state (Route line) many =
    let full = both_pass (all_lines state.lines) (pair_of_line line) many.1 in
    rw (many.0, full) refl
many_end state Bad many = absurd many

pub route_fails : (base now : Option (List ℕ)) (state : LoopState) (reading : RouteReading) (number : ℕ) (error : BisectErr) → (error ≡ errors.BadRoute → reading ≡ Bad) → (error ≡ errors.TimeBack → IsLate state.lines reading)
    → (error ≡ errors.Pairs → IsOneTooMany state.lines reading) → Appends base now state.printed → CarryFails loop_text (after_route_reading state reading) base now number (fault_at number (route_fault error))
route_fails base now state reading number errors.BadRoute bad late many printed = record { after = state; ended = is_bad state reading (bad refl); numbered = refl; printed = printed }
route_fails base now state reading number errors.TimeBack bad late many printed = record { after = state; ended = late_ends state reading (late refl); numbered = refl; printed = printed }
route_fails base now state reading number errors.Pairs bad late many printed = record { after = state; ended = many_end state reading (many refl); numbered = refl; printed = printed }
route_fails base now state reading number errors.Memory bad late many printed = front-before loop_text base now state (after_route_reading state reading) (route_reading-prints state reading) printed
