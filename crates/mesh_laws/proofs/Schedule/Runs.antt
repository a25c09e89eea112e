-- Runs: they end, they may be cut, and what they keep.
use Rattle.std.proofs.Common.{◌≡◌, ℕ, zero, suc, ◌+◌, ◌*◌, ◌^◌, ◌-◌, ◌<◌, ◌≤◌, ◌⊎◌, inl, inr, Bool, true, false, cond, ◌||◌, is_some, is_none, Option, Some, None, option_and_then, Ok, Err, refl, sym, ap, ◌∙◌, subst, arith}
use Rattle.std.specs.Fn.{iterate}
use Rattle.std.proofs.lemmas.Bool.{true≢false, cases_lt, le-leb}
use Rattle.mesh_model.specs.declared.happening.Class.{Class}
use Rattle.mesh_model.specs.declared.happening.Class.TheVariants.{LinkDelivery, LanDelivery, NodeTick}
use Rattle.mesh_model.specs.declared.happening.Happening.{Happening}
use Rattle.mesh_model.specs.Net.Happenings.{class_number}
use Rattle.mesh_model.specs.Net.Mesh.{Mesh, Setup}
use Rattle.mesh_model.specs.Net.Sending.{Attempt}
use Rattle.mesh_model.specs.Net.Due.{next_happening, next_due, if_due}
use Rattle.mesh_model.specs.declared.ending.LimitName.{LimitName}
use Rattle.mesh_laws.specs.Soundness.{IsSound, FitsPlaces, rank}
use Rattle.mesh_model.specs.Net.Runs.{PassedLimit, after_happening, Course, begin, course_after, after_next, turn, is_done, unless_done, turns, going_on}
use Rattle.mesh_laws.proofs.Schedule.Due.{next_due_some, due_is_next}
use Rattle.mesh_laws.proofs.Schedule.Steps.{step_is}
use Rattle.mesh_laws.proofs.Schedule.Sound.{rank_rises, steps_keep_sound}

-- ---- a turn
-- what a turn leaves: the outcome, which is done; the mesh after the next happening; or a stop
pub data Turned (setup : Setup) (t : ℕ) (o after : Course) : Type 0 where
  rests : is_done t o ≡ true → after ≡ o → Turned setup t o after
  goes : (h : Happening) (mesh : Mesh) → o.stop ≡ None → next_due t o.mesh ≡ Some h → after_happening setup h o.mesh ≡ Ok mesh → after ≡ begin mesh → Turned setup t o after
  stops : (h : Happening) (limit : LimitName) → o.stop ≡ None → next_due t o.mesh ≡ Some h → after_happening setup h o.mesh ≡ Err limit → after ≡ course_after o.mesh h (Err limit) → Turned setup t o after

by_result : (setup : Setup) (t : ℕ) (o : Course) (h : Happening) (r : Attempt) → o.stop ≡ None → next_due t o.mesh ≡ Some h → after_happening setup h o.mesh ≡ r → Turned setup t o (course_after o.mesh h r)
by_result setup t o h (Ok mesh) s d e = goes h mesh s d e refl
by_result setup t o h (Err limit) s d e = stops h limit s d e refl

by_next : (setup : Setup) (t : ℕ) (o : Course) (n : Option Happening) → o.stop ≡ None → next_due t o.mesh ≡ n → Turned setup t o (after_next setup o n)
by_next setup t o None s d = rests (ap (λ x. is_some x || is_none (next_due t o.mesh)) s ∙ ap is_none d) refl
by_next setup t o (Some h) s d = by_result setup t o h (after_happening setup h o.mesh) s d refl

by_stop : (setup : Setup) (t : ℕ) (o : Course) (stop : Option PassedLimit) → o.stop ≡ stop → Turned setup t o (cond (is_some stop) o (after_next setup o (next_due t o.mesh)))
by_stop setup t o None s = by_next setup t o (next_due t o.mesh) s refl
by_stop setup t o (Some limit) s = rests (ap (λ x. is_some x || is_none (next_due t o.mesh)) s) refl

pub turned : (setup : Setup) (t : ℕ) (o : Course) → Turned setup t o (turn setup t o)
turned setup t o = by_stop setup t o o.stop refl

not_done : (t : ℕ) (o : Course) (h : Happening) → is_done t o ≡ true → o.stop ≡ None → next_due t o.mesh ≡ Some h → ⊥
not_done t o h d s n = true≢false (sym d ∙ ap (λ x. is_some x || is_none (next_due t o.mesh)) s ∙ ap is_none n)

rests_from : (setup : Setup) (t : ℕ) (o after : Course) → is_done t o ≡ true → Turned setup t o after → after ≡ o
rests_from setup t o after d (rests p e) = e
rests_from setup t o after d (goes h mesh s n c e) = absurd (not_done t o h d s n)
rests_from setup t o after d (stops h limit s n c e) = absurd (not_done t o h d s n)

pub done_rests : (setup : Setup) (t : ℕ) (o : Course) → is_done t o ≡ true → turn setup t o ≡ o
done_rests setup t o d = rests_from setup t o (turn setup t o) d (turned setup t o)

-- ---- turns
unless_keeps : (P : Course → Type 0) (b : Bool) (go : Course → Course) (o : Course) → P o → P (go o) → P (unless_done b go o)
unless_keeps P true go o p q = p
unless_keeps P false go o p q = q

pub turns_keep : (setup : Setup) (t : ℕ) (P : Course → Type 0) → ((o : Course) → P o → P (turn setup t o)) → (depth : ℕ) (o : Course) → P o → P (turns setup t depth o)
turns_keep setup t P step zero o p = step o p
turns_keep setup t P step (suc depth) o p =
    let once = turns_keep setup t P step depth o p in
    unless_keeps P (is_done t (turns setup t depth o)) (turns setup t depth) (turns setup t depth o) once (turns_keep setup t P step depth (turns setup t depth o) once)

-- a run until t
pub record Fine (t : ℕ) (o : Course) : Type 0 where
  pub sound : IsSound o.mesh
  pub within : o.mesh.last.moment ≤ t

pub fine_turn : (setup : Setup) (t : ℕ) (o after : Course) → FitsPlaces setup → Fine t o → Turned setup t o after → Fine t after
fine_turn setup t o after fits fine (rests p e) = subst (Fine t) (sym e) fine
fine_turn setup t o after fits fine (goes h mesh s n c e) =
    let is = due_is_next t o.mesh fine.sound h n in
    let step = step_is setup o.mesh h mesh c in
    subst (Fine t) (sym e) (record {
      sound = steps_keep_sound setup t o.mesh mesh h fits fine.sound is c;
      within = subst (λ (x : Happening). x.moment ≤ t) (sym step.last) is.within;
    })
fine_turn setup t o after fits fine (stops h limit s n c e) = subst (Fine t) (sym e) (record { sound = fine.sound; within = fine.within })

pub fine_turns : (setup : Setup) (t depth : ℕ) (o : Course) → FitsPlaces setup → Fine t o → Fine t (turns setup t depth o)
fine_turns setup t depth o fits fine = turns_keep setup t (Fine t) (λ o fine. fine_turn setup t o (turn setup t o) fits fine (turned setup t o)) depth o fine

-- ---- the end
abbrev pub Progress : ℕ → Course → ℕ → Course → Type 0
Progress t o n after = (is_done t after ≡ true) ⊎ (rank o.mesh.last + n ≤ rank after.mesh.last)

pub turn_progress : (setup : Setup) (t : ℕ) (o after : Course) → Fine t o → Turned setup t o after → Progress t o 1 after
turn_progress setup t o after fine (rests p e) = inl (ap (is_done t) e ∙ p)
turn_progress setup t o after fine (goes h mesh s n c e) =
    let rise = rank_rises t o.mesh h fine.sound (due_is_next t o.mesh fine.sound h n) in
    let last : after.mesh.last ≡ h = ap (λ (x : Course). x.mesh.last) e ∙ (step_is setup o.mesh h mesh c).last in
    inr (subst (λ x. rank o.mesh.last + 1 ≤ rank x) (sym last) (omega (arith, rise)))
turn_progress setup t o after fine (stops h limit s n c e) = inl (ap (is_done t) e)

twice_progress : (setup : Setup) (t depth : ℕ) (o after : Course) (b : Bool) → is_done t after ≡ b → Progress t o (2 ^ depth) after → ((o : Course) → Fine t o → Progress t o (2 ^ depth) (turns setup t depth o)) → Fine t after → Progress t o (2 ^ suc depth) (unless_done b (turns setup t depth) after)
twice_progress setup t depth o after true d p more fine = inl d
twice_progress setup t depth o after false d (inl done) more fine = absurd (true≢false (sym done ∙ d))
twice_progress setup t depth o after false d (inr p) more fine = add (more after fine)
  where
    add : Progress t after (2 ^ depth) (turns setup t depth after) → Progress t o (2 ^ suc depth) (turns setup t depth after)
    add (inl done) = inl done
    add (inr q) = inr (omega (arith, p, q))

pub progress : (setup : Setup) (t depth : ℕ) (o : Course) → FitsPlaces setup → Fine t o → Progress t o (2 ^ depth) (turns setup t depth o)
progress setup t zero o fits fine = turn_progress setup t o (turn setup t o) fine (turned setup t o)
progress setup t (suc depth) o fits fine =
    twice_progress setup t depth o (turns setup t depth o) (is_done t (turns setup t depth o)) refl (progress setup t depth o fits fine) (λ p f. progress setup t depth p fits f) (fine_turns setup t depth o fits fine)

class_low : (c : Class) → class_number c ≤ 2
class_low LinkDelivery = omega arith
class_low LanDelivery = omega arith
class_low NodeTick = omega arith

pub rank_low : (t : ℕ) (o : Course) → Fine t o → rank o.mesh.last < (t + 1) * 1099511627776
rank_low t o fine =
    let c = class_low o.mesh.last.class in let p = fine.sound.low_last in let w = fine.within in
    omega (arith, c, p, w)

pub ends : (setup : Setup) (t : ℕ) (o : Course) → FitsPlaces setup → Fine t o → t ≤ 1099511627776 → is_done t (going_on setup t o) ≡ true
unfolding going_on
ends setup t o fits fine low = either (progress setup t 82 o fits fine) (rank_low t (turns setup t 82 o) (fine_turns setup t 82 o fits fine))
  where
    either : Progress t o (2 ^ 82) (turns setup t 82 o) → rank (turns setup t 82 o).mesh.last < (t + 1) * 1099511627776 → is_done t (turns setup t 82 o) ≡ true
    either (inl done) l = done
    either (inr p) l = absurd (omega (arith, p, l, low))

-- ---- slices
pub iterate-add : {A : Type 0} (f : A → A) (m n : ℕ) (x : A) → iterate f (m + n) x ≡ iterate f n (iterate f m x)
iterate-add f zero n x = let e : zero + n ≡ n = omega arith in ap (λ k. iterate f k x) e
iterate-add f (suc m) n x = let e : suc m + n ≡ suc (m + n) = omega arith in ap (λ k. iterate f k x) e ∙ iterate-add f m n (f x)

abbrev pub Iterates : (Course → Course) → Course → Course → Type 0
Iterates f o after = (n : ℕ) × (after ≡ iterate f n o)

pub turns_iterate : (setup : Setup) (t depth : ℕ) (o : Course) → Iterates (turn setup t) o (turns setup t depth o)
turns_iterate setup t zero o = (1, refl)
turns_iterate setup t (suc depth) o = either (is_done t (turns setup t depth o)) (turns_iterate setup t depth o) (turns_iterate setup t depth (turns setup t depth o))
  where
    either : (b : Bool) → Iterates (turn setup t) o (turns setup t depth o) → Iterates (turn setup t) (turns setup t depth o) (turns setup t depth (turns setup t depth o)) → Iterates (turn setup t) o (unless_done b (turns setup t depth) (turns setup t depth o))
    either true p q = p
    either false p q = (p.0 + q.0, q.1 ∙ ap (iterate (turn setup t) q.0) p.1 ∙ sym (iterate-add (turn setup t) p.0 q.0 o))

pub rests_on : (setup : Setup) (t n : ℕ) (o : Course) → is_done t o ≡ true → iterate (turn setup t) n o ≡ o
rests_on setup t zero o d = refl
rests_on setup t (suc n) o d = ap (iterate (turn setup t) n) (done_rests setup t o d) ∙ rests_on setup t n o d

-- two ends of one run are one
same_end : (setup : Setup) (t m n : ℕ) (o : Course) → is_done t (iterate (turn setup t) m o) ≡ true → m ≤ n → iterate (turn setup t) n o ≡ iterate (turn setup t) m o
same_end setup t m n o d l =
    let e : n ≡ m + (n - m) = omega (arith, l) in
    ap (λ k. iterate (turn setup t) k o) e ∙ iterate-add (turn setup t) m (n - m) o ∙ rests_on setup t (n - m) (iterate (turn setup t) m o) d

one_end : (setup : Setup) (t m n : ℕ) (o : Course) → is_done t (iterate (turn setup t) m o) ≡ true → is_done t (iterate (turn setup t) n o) ≡ true → iterate (turn setup t) m o ≡ iterate (turn setup t) n o
one_end setup t m n o d e = either (cases_lt m n)
  where
    either : (m < n) ⊎ (n ≤ m) → iterate (turn setup t) m o ≡ iterate (turn setup t) n o
    either (inl l) = sym (same_end setup t m n o d (omega (arith, l)))
    either (inr l) = same_end setup t n m o e l

-- what is due until t is due until a later moment
due_later : (t u : ℕ) (mesh : Mesh) (h : Happening) → t ≤ u → next_due t mesh ≡ Some h → next_due u mesh ≡ Some h
due_later t u mesh h l d =
    let p = next_due_some t mesh h (next_happening mesh) refl d in
    ap (option_and_then (if_due u)) p.0 ∙ ap (λ b. cond b (Some h) None) (le-leb h.moment u (let w = p.1 in omega (arith, l, w)))

turn_of : (setup : Setup) (t : ℕ) (o : Course) (h : Happening) → o.stop ≡ None → next_due t o.mesh ≡ Some h → turn setup t o ≡ course_after o.mesh h (after_happening setup h o.mesh)
turn_of setup t o h s n = ap (λ x. cond (is_some x) o (after_next setup o (next_due t o.mesh))) s ∙ ap (after_next setup o) n

earlier_turn : (setup : Setup) (t u : ℕ) (o after : Course) → t ≤ u → Turned setup t o after → (turn setup t o ≡ o) ⊎ (turn setup t o ≡ turn setup u o)
earlier_turn setup t u o after l (rests d e) = inl (done_rests setup t o d)
earlier_turn setup t u o after l (goes h mesh s n c e) = inr (turn_of setup t o h s n ∙ sym (turn_of setup u o h s (due_later t u o.mesh h l n)))
earlier_turn setup t u o after l (stops h limit s n c e) = inr (turn_of setup t o h s n ∙ sym (turn_of setup u o h s (due_later t u o.mesh h l n)))

later_iterates : (setup : Setup) (t u n : ℕ) (o : Course) → t ≤ u → Iterates (turn setup u) o (iterate (turn setup t) n o)
later_iterates setup t u zero o l = (0, refl)
later_iterates setup t u (suc n) o l = either (earlier_turn setup t u o (turn setup t o) l (turned setup t o)) (later_iterates setup t u n (turn setup t o) l)
  where
    either : (turn setup t o ≡ o) ⊎ (turn setup t o ≡ turn setup u o) → Iterates (turn setup u) (turn setup t o) (iterate (turn setup t) n (turn setup t o)) → Iterates (turn setup u) o (iterate (turn setup t) n (turn setup t o))
    either (inl e) p = (p.0, p.1 ∙ ap (iterate (turn setup u) p.0) e)
    either (inr e) p = (suc p.0, p.1 ∙ ap (iterate (turn setup u) p.0) e)

going_iterates : (setup : Setup) (t : ℕ) (o : Course) → Iterates (turn setup t) o (going_on setup t o)
unfolding going_on
going_iterates setup t o = turns_iterate setup t 82 o

pub fine_going : (setup : Setup) (t : ℕ) (o : Course) → FitsPlaces setup → Fine t o → Fine t (going_on setup t o)
unfolding going_on
fine_going setup t o fits fine = fine_turns setup t 82 o fits fine

pub slices : (setup : Setup) (t u : ℕ) (o : Course) → FitsPlaces setup → Fine t o → t ≤ u → u ≤ 1099511627776 → going_on setup u (going_on setup t o) ≡ going_on setup u o
slices setup t u o fits fine l low =
    let first = going_iterates setup t o in
    let begun = later_iterates setup t u first.0 o l in
    let begun_is : going_on setup t o ≡ iterate (turn setup u) begun.0 o = first.1 ∙ begun.1 in
    let a : Course = going_on setup t o in
    let second = going_iterates setup u a in
    let whole = going_iterates setup u o in
    let second_is : going_on setup u a ≡ iterate (turn setup u) (begun.0 + second.0) o = second.1 ∙ ap (iterate (turn setup u) second.0) begun_is ∙ sym (iterate-add (turn setup u) begun.0 second.0 o) in
    let w = fine.within in
    let fine_a = fine_going setup t o fits fine in
    let w_a = fine_a.within in
    let done_second = ends setup u a fits (record { sound = fine_a.sound; within = omega (arith, w_a, l) }) low in
    let done_whole = ends setup u o fits (record { sound = fine.sound; within = omega (arith, w, l) }) low in
    second_is
    ∙ one_end setup u (begun.0 + second.0) whole.0 o (ap (is_done u) (sym second_is) ∙ done_second) (ap (is_done u) (sym whole.1) ∙ done_whole)
    ∙ sym whole.1

-- ---- happening by happening
pub done_stays : (setup : Setup) (t : ℕ) (o : Course) → is_done t o ≡ true → going_on setup t o ≡ o
done_stays setup t o d = let p = going_iterates setup t o in p.1 ∙ rests_on setup t p.0 o d

pub after_turn : (setup : Setup) (t : ℕ) (o : Course) → FitsPlaces setup → Fine t o → t ≤ 1099511627776 → going_on setup t o ≡ going_on setup t (turn setup t o)
after_turn setup t o fits fine low =
    let p = going_iterates setup t o in
    let q = going_iterates setup t (turn setup t o) in
    let fine' = fine_turn setup t o (turn setup t o) fits fine (turned setup t o) in
    p.1 ∙ one_end setup t p.0 (suc q.0) o (ap (is_done t) (sym p.1) ∙ ends setup t o fits fine low) (ap (is_done t) (sym q.1) ∙ ends setup t (turn setup t o) fits fine' low) ∙ sym q.1

pub one_turn : (setup : Setup) (t : ℕ) (o : Course) (h : Happening) (r : Attempt) → FitsPlaces setup → Fine t o → t ≤ 1099511627776 → o.stop ≡ None → next_due t o.mesh ≡ Some h → after_happening setup h o.mesh ≡ r → going_on setup t o ≡ going_on setup t (course_after o.mesh h r)
one_turn setup t o h r fits fine low s n c = after_turn setup t o fits fine low ∙ ap (going_on setup t) (turn_of setup t o h s n ∙ ap (course_after o.mesh h) c)
