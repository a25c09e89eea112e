-- Runs of states in slices of so many happenings.
use Rattle.std.proofs.Common.{◌≡◌, ℕ, zero, suc, ◌+◌, ◌*◌, ◌<◌, ◌≤◌, ◌⊎◌, inl, inr, true, is_none, None, refl, ap, ◌∙◌, subst, arith}
use Rattle.std.specs.Fn.{iterate}
use Rattle.mesh_model.specs.Net.Due.{next_due}
use Rattle.mesh_model.specs.Net.Mesh.{Mesh, Setup}
use Rattle.mesh_model.specs.Net.Next.{IsQuiet}
use Rattle.mesh_model.specs.Net.Runs.{Course, begin, turn, is_done}
use Rattle.mesh_model.specs.Run.Outcome.{Goes}
use Rattle.mesh_model.specs.Run.Passing.{gone_on, after_course, run_until}
use Rattle.mesh_model.specs.Run.State.{State}
use Rattle.mesh_laws.specs.HappeningLaws.{CanRun}
use Rattle.mesh_laws.specs.LineLaws.{IsBehind}
use Rattle.mesh_laws.specs.Soundness.{FitsPlaces, IsSound, rank}
use Rattle.mesh_laws.proofs.Lines.Courses.{Follows, follows_itself, follows_both, turn_follows}
use Rattle.mesh_laws.proofs.Lines.Passing.{cut}
use Rattle.mesh_laws.proofs.Schedule.Due.{finds_next}
use Rattle.mesh_laws.proofs.Schedule.Kept.{fine_start, none_due}
use Rattle.mesh_laws.proofs.Schedule.Runs.{Fine, Progress, done_stays, fine_turn, rank_low, rests_on, turn_progress, turned}

-- the events of so many turns follow those before
pub turns_follow : (setup : Setup) (t count : ℕ) (o : Course) → Follows o.mesh (iterate (turn setup t) count o).mesh
turns_follow setup t zero o = follows_itself o.mesh
turns_follow setup t (suc count) o =
    follows_both o.mesh (turn setup t o).mesh (iterate (turn setup t) count (turn setup t o)).mesh (turn_follows setup t o) (turns_follow setup t count (turn setup t o))

pub behind_follows : (setup : Setup) (t : ℕ) (before after : Mesh) → IsBehind setup t before after → Follows before after
behind_follows setup t before after behind = subst (λ (o : Course). Follows before o.mesh) behind.taken (turns_follow setup t behind.count (begin before))

-- a run of a state goes on behind some of its happenings, wherever the clock stands meanwhile
pub goes_on_behind : (setup : Setup) (t now : ℕ) (state : State) (after : Mesh) → IsBehind setup t state.mesh after → run_until setup t state ≡ run_until setup t (gone_on state now after)
goes_on_behind setup t now state after behind =
    ap (after_course state t) behind.goes ∙ cut setup t now state (begin after) (behind_follows setup t state.mesh after behind)

-- where nothing is due any more, the run is at its end
pub ends_behind : (setup : Setup) (t : ℕ) (state : State) (after : Mesh) → IsBehind setup t state.mesh after → IsSound after → IsQuiet t after
    → run_until setup t state ≡ Goes (gone_on state t after)
ends_behind setup t state after behind sound quiet =
    let none = (finds_next t after sound).1.1 quiet in
    ap (after_course state t) (behind.goes ∙ done_stays setup t (begin after) (ap is_none none))

-- ---- happenings rise

-- where a happening is due behind so many turns, each of them carried one out
turns_rise : (setup : Setup) (t count : ℕ) (o : Course) → FitsPlaces setup → Fine t o
    → (is_done t (iterate (turn setup t) count o) ≡ true) ⊎ (rank o.mesh.last + count ≤ rank (iterate (turn setup t) count o).mesh.last)
turns_rise setup t zero o fits fine = inr (omega arith)
turns_rise setup t (suc count) o fits fine =
    either (turn_progress setup t o (turn setup t o) fine (turned setup t o)) (turns_rise setup t count (turn setup t o) fits (fine_turn setup t o (turn setup t o) fits fine (turned setup t o)))
  where
    after : Course
    after = turn setup t o

    last : Course
    last = iterate (turn setup t) count after

    either : Progress t o 1 after → (is_done t last ≡ true) ⊎ (rank after.mesh.last + count ≤ rank last.mesh.last) → (is_done t last ≡ true) ⊎ (rank o.mesh.last + suc count ≤ rank last.mesh.last)
    either (inl done) p = inl (ap (is_done t) (rests_on setup t count after done) ∙ done)
    either (inr p) (inl done) = inl done
    either (inr p) (inr q) = inr (omega (arith, p, q))

fine_turns_on : (setup : Setup) (t count : ℕ) (o : Course) → FitsPlaces setup → Fine t o → Fine t (iterate (turn setup t) count o)
fine_turns_on setup t zero o fits fine = fine
fine_turns_on setup t (suc count) o fits fine = fine_turns_on setup t count (turn setup t o) fits (fine_turn setup t o (turn setup t o) fits fine (turned setup t o))

-- how the last happening rises: below the bound of the run
pub record HasRisen (t count : ℕ) (before after : Mesh) : Type 0 where
  pub rises : rank before.last + count ≤ rank after.last
  pub low : rank after.last < (t + 1) * 1099511627776

pub risen : (setup : Setup) (t : ℕ) (before after : Mesh) → (behind : IsBehind setup t before after) → CanRun setup t before → (IsQuiet t after → ⊥) → HasRisen t behind.count before after
risen setup t before after behind can busy =
    let o : Course = begin before in
    let fine = fine_start t before can.sound can.begins in
    let last_fine = subst (Fine t) behind.taken (fine_turns_on setup t behind.count o can.fits fine) in
    record {
      rises = either (subst (λ (x : Course). (is_done t x ≡ true) ⊎ (rank before.last + behind.count ≤ rank x.mesh.last)) behind.taken (turns_rise setup t behind.count o can.fits fine)) last_fine;
      low = rank_low t (begin after) last_fine;
    }
  where
    either : (is_done t (begin after) ≡ true) ⊎ (rank before.last + behind.count ≤ rank after.last) → Fine t (begin after) → rank before.last + behind.count ≤ rank after.last
    either (inl done) fine = absurd (busy ((finds_next t after fine.sound).1.0 (none_due None (next_due t after) refl done)))
    either (inr p) fine = p
