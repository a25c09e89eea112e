-- What a run keeps: frames, and the bytes of each delivery.
use Rattle.std.proofs.Common.{◌≡◌, ℕ, zero, suc, ◌≤◌, ◌⊎◌, inl, inr, true, ◌||◌, is_some, is_none, List, [], ◌++◌, slice_get, Option, Some, None, Ok, refl, sym, ap, ◌∙◌, subst, append_assoc, append-nil}
use Rattle.std.specs.Fn.{iterate}
use Rattle.mesh_model.specs.declared.happening.Happening.{Happening}
use Rattle.mesh_model.specs.Net.Happenings.{Before}
use Rattle.mesh_model.specs.Net.Mesh.{NodeLog, SentFrame, Mesh, Setup}
use Rattle.mesh_model.specs.Net.Due.{next_due}
use Rattle.mesh_model.specs.Net.Next.{Has, AtMost, IsQuiet}
use Rattle.mesh_laws.specs.Soundness.{IsSound, FitsPlaces, GivesItsBytes, KeepsBytes}
use Rattle.mesh_model.specs.Net.Runs.{PassedLimit, after_happening, Course, begin, turn, is_done, going_on}
use Rattle.mesh_laws.proofs.Schedule.Order.{at_most_before}
use Rattle.mesh_laws.proofs.Schedule.Due.{due_is_next, due_none_is_quiet}
use Rattle.mesh_laws.proofs.Schedule.Sends.{Adds}
use Rattle.mesh_laws.proofs.Schedule.Steps.{Was, ticks_of, HasStepped, step_is, get_front, gave_later}
use Rattle.mesh_laws.proofs.Schedule.Sound.{steps_keep_sound}
use Rattle.mesh_laws.proofs.Schedule.Runs.{Turned, rests, goes, stops, turned, turns_keep, Fine, ends}

-- ---- frames
abbrev Stay : List SentFrame → List SentFrame → Type 0
Stay before after = (more : List SentFrame) × (after ≡ before ++ more)

stay_turn : (setup : Setup) (t : ℕ) (frames : List SentFrame) (o after : Course) → Stay frames o.mesh.frames → Turned setup t o after → Stay frames after.mesh.frames
stay_turn setup t frames o after p (rests d e) = subst (λ (x : Course). Stay frames x.mesh.frames) (sym e) p
stay_turn setup t frames o after p (goes h mesh s n c e) =
    let step = step_is setup o.mesh h mesh c in
    subst (λ (x : Course). Stay frames x.mesh.frames) (sym e)
    (p.0 ++ step.adds.more, step.adds.frames ∙ ap (λ fs. fs ++ step.adds.more) p.1 ∙ append_assoc frames p.0 step.adds.more)
stay_turn setup t frames o after p (stops h limit s n c e) = subst (λ (x : Course). Stay frames x.mesh.frames) (sym e) p

pub frames_stay : (setup : Setup) (t : ℕ) (o : Course) (place : ℕ) (frame : SentFrame) → slice_get o.mesh.frames place ≡ Some frame → slice_get (going_on setup t o).mesh.frames place ≡ Some frame
unfolding going_on
frames_stay setup t o place frame found =
    let p = turns_keep setup t (λ x. Stay o.mesh.frames x.mesh.frames) (λ x p. stay_turn setup t o.mesh.frames x (turn setup t x) p (turned setup t x)) 82 o ([], sym (append-nil o.mesh.frames)) in
    subst (λ fs. slice_get fs place ≡ Some frame) (sym p.1) (get_front o.mesh.frames p.0 place frame found)

-- ---- bytes
pub bytes_after : (setup : Setup) (extra : ℕ → ℕ) (now : ℕ) (mesh after : Mesh) → KeepsBytes mesh → ((place : ℕ) (node : NodeLog) → slice_get after.nodes place ≡ Some node → Was mesh.nodes after.frames (extra place) place node) → Adds setup now mesh after → KeepsBytes after
bytes_after setup extra now mesh after kept nodes adds place node found e has = either (w.grew.entries e has)
  where
    w : Was mesh.nodes after.frames (extra place) place node
    w = nodes place node found

    either : Has w.node.log e ⊎ GivesItsBytes after.frames e.given → GivesItsBytes after.frames e.given
    either (inl old) = subst (λ fs. GivesItsBytes fs e.given) (sym adds.frames) (gave_later mesh.frames adds.more e.given (kept place w.node w.found e old))
    either (inr g) = g

step_bytes : (setup : Setup) (mesh : Mesh) (h : Happening) (after : Mesh) → KeepsBytes mesh → HasStepped setup mesh h after → KeepsBytes after
step_bytes setup mesh h after kept step = bytes_after setup (ticks_of h.class h.place) h.moment mesh after kept step.nodes step.adds

pub bytes_turn : (setup : Setup) (t : ℕ) (o after : Course) → KeepsBytes o.mesh → Turned setup t o after → KeepsBytes after.mesh
bytes_turn setup t o after p (rests d e) = subst (λ (x : Course). KeepsBytes x.mesh) (sym e) p
bytes_turn setup t o after p (goes h mesh s n c e) = subst (λ (x : Course). KeepsBytes x.mesh) (sym e) (step_bytes setup o.mesh h mesh p (step_is setup o.mesh h mesh c))
bytes_turn setup t o after p (stops h limit s n c e) = subst (λ (x : Course). KeepsBytes x.mesh) (sym e) p

pub bytes_kept : (setup : Setup) (t : ℕ) (o : Course) → KeepsBytes o.mesh → KeepsBytes (going_on setup t o).mesh
unfolding going_on
bytes_kept setup t o kept = turns_keep setup t (λ x. KeepsBytes x.mesh) (λ x p. bytes_turn setup t x (turn setup t x) p (turned setup t x)) 82 o kept

-- ---- later happenings are later
pub record Later (h : Happening) (o : Course) : Type 0 where
  pub sound : IsSound o.mesh
  pub after : AtMost h o.mesh.last

pub later_turn : (setup : Setup) (t : ℕ) (h : Happening) (o after : Course) → FitsPlaces setup → Later h o → Turned setup t o after → Later h after
later_turn setup t h o after fits l (rests d e) = subst (Later h) (sym e) l
later_turn setup t h o after fits l (goes k mesh s n c e) =
    let is = due_is_next t o.mesh l.sound k n in
    let step = step_is setup o.mesh k mesh c in
    subst (Later h) (sym e) (record {
      sound = steps_keep_sound setup t o.mesh mesh k fits l.sound is c;
      after = subst (AtMost h) (sym step.last) (inr (at_most_before h o.mesh.last k l.after is.after));
    })
later_turn setup t h o after fits l (stops k limit s n c e) = subst (Later h) (sym e) (record { sound = l.sound; after = l.after })

later_iterate : (setup : Setup) (t : ℕ) (h : Happening) (n : ℕ) (o : Course) → FitsPlaces setup → Later h o → Later h (iterate (turn setup t) n o)
later_iterate setup t h zero o fits l = l
later_iterate setup t h (suc n) o fits l = later_iterate setup t h n (turn setup t o) fits (later_turn setup t h o (turn setup t o) fits l (turned setup t o))

pub later_is_later : (setup : Setup) (t u : ℕ) (mesh after : Mesh) (h k : Happening) (more : ℕ) → FitsPlaces setup → IsSound mesh → next_due t mesh ≡ Some h → after_happening setup h mesh ≡ Ok after → next_due u (iterate (turn setup u) more (begin after)).mesh ≡ Some k → Before h k
later_is_later setup t u mesh after h k more fits sound n c m =
    let is = due_is_next t mesh sound h n in
    let step = step_is setup mesh h after c in
    let o : Course = begin after in
    let first : Later h o = record { sound = steps_keep_sound setup t mesh after h fits sound is c; after = inl (sym step.last) } in
    let l = later_iterate setup u h more o fits first in
    at_most_before h (iterate (turn setup u) more o).mesh.last k l.after (due_is_next u (iterate (turn setup u) more o).mesh l.sound k m).after

-- ---- the laws as they are stated
pub sound_kept : (setup : Setup) (t : ℕ) (o : Course) → FitsPlaces setup → IsSound o.mesh → IsSound (going_on setup t o).mesh
unfolding going_on
sound_kept setup t o fits sound =
    let l = turns_keep setup t (Later o.mesh.last) (λ x p. later_turn setup t o.mesh.last x (turn setup t x) fits p (turned setup t x)) 82 o (record { sound = sound; after = inl refl }) in l.sound

pub none_due : (stop : Option PassedLimit) (n : Option Happening) → stop ≡ None → (is_some stop || is_none n) ≡ true → n ≡ None
none_due None None s d = refl
none_due None (Some h) s d = cc
none_due (Some l) n s d = cc

pub quiet_from_done : (t : ℕ) (o : Course) → IsSound o.mesh → o.stop ≡ None → is_done t o ≡ true → IsQuiet t o.mesh
quiet_from_done t o sound s d = due_none_is_quiet t o.mesh sound (none_due o.stop (next_due t o.mesh) s d)

pub runs_end_quiet : (setup : Setup) (t : ℕ) (o : Course) → FitsPlaces setup → Fine t o → t ≤ 1099511627776 → (going_on setup t o).stop ≡ None → IsQuiet t (going_on setup t o).mesh
runs_end_quiet setup t o fits fine low s = quiet_from_done t (going_on setup t o) (sound_kept setup t o fits fine.sound) s (ends setup t o fits fine low)

-- a run's beginning
pub fine_start : (t : ℕ) (mesh : Mesh) → IsSound mesh → mesh.last.moment ≤ t → Fine t (begin mesh)
fine_start t mesh sound within = record { sound = sound; within = within }
