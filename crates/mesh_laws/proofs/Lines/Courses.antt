-- What a course of a mesh adds to its events, and when a limit ends it.
use Rattle.std.proofs.Common.{◌≡◌, ℕ, ◌≤◌, List, [], ◌++◌, length, drop, Some, refl, sym, ap, ap₂, ◌∙◌, subst, append_assoc, append-nil, arith}
use Rattle.std.proofs.Math.Seq.{drop-append_seam}
use Rattle.mesh_base.specs.declared.event.Event.{Event}
use Rattle.mesh_model.specs.Net.Mesh.{Mesh, Setup}
use Rattle.mesh_model.specs.Net.Runs.{PassedLimit, Course, begin, turn, going_on}
use Rattle.mesh_model.specs.Run.State.{names_of}
use Rattle.mesh_model.specs.Run.Passing.{events_since}
use Rattle.mesh_laws.specs.Soundness.{FitsPlaces}
use Rattle.mesh_laws.proofs.Schedule.Order.{moments}
use Rattle.mesh_laws.proofs.Schedule.Due.{due_is_next}
use Rattle.mesh_laws.proofs.Schedule.Steps.{step_is}
use Rattle.mesh_laws.proofs.Schedule.Runs.{Turned, rests, goes, stops, turned, turns_keep, Fine, fine_turn}

-- a mesh has the events of another and more, and its names
pub record Follows (before after : Mesh) : Type 0 where
  pub more : List Event
  pub events : after.events ≡ before.events ++ more
  pub names : names_of after ≡ names_of before

pub follows_itself : (mesh : Mesh) → Follows mesh mesh
follows_itself mesh = record { more = []; events = sym (append-nil mesh.events); names = refl }

pub follows_both : (a b c : Mesh) → Follows a b → Follows b c → Follows a c
follows_both a b c p q = record {
  more = p.more ++ q.more;
  events = q.events ∙ ap (λ es. es ++ q.more) p.events ∙ append_assoc a.events p.more q.more;
  names = q.names ∙ p.names;
}

-- the events since a mesh that is followed
pub since_is : (before after : Mesh) → (f : Follows before after) → events_since before after ≡ f.more
since_is before after f = ap (drop (length before.events)) f.events ∙ drop-append_seam before.events f.more

-- what happened between three meshes that follow one another
pub since_both : (a b c : Mesh) → Follows a b → Follows b c → events_since a c ≡ events_since a b ++ events_since b c
unfolding follows_both
since_both a b c p q = since_is a c (follows_both a b c p q) ∙ ap₂ (λ x y. x ++ y) (sym (since_is a b p)) (sym (since_is b c q))

follows_turn : (setup : Setup) (t : ℕ) (start : Mesh) (o after : Course) → Follows start o.mesh → Turned setup t o after → Follows start after.mesh
follows_turn setup t start o after f (rests d e) = subst (λ (x : Course). Follows start x.mesh) (sym e) f
follows_turn setup t start o after f (goes h mesh s n c e) =
    let step = step_is setup o.mesh h mesh c in
    subst (λ (x : Course). Follows start x.mesh) (sym e)
    (follows_both start o.mesh mesh f (record { more = step.adds.more_events; events = step.adds.events; names = step.names }))
follows_turn setup t start o after f (stops h limit s n c e) = subst (λ (x : Course). Follows start x.mesh) (sym e) f

pub turn_follows : (setup : Setup) (t : ℕ) (o : Course) → Follows o.mesh (turn setup t o).mesh
turn_follows setup t o = follows_turn setup t o.mesh o (turn setup t o) (follows_itself o.mesh) (turned setup t o)

pub going_follows : (setup : Setup) (t : ℕ) (o : Course) → Follows o.mesh (going_on setup t o).mesh
unfolding going_on
going_follows setup t o = turns_keep setup t (λ x. Follows o.mesh x.mesh) (λ x f. follows_turn setup t o.mesh x (turn setup t x) f (turned setup t x)) 82 o (follows_itself o.mesh)

-- a limit that ends a course is passed within its time, after the last happening
abbrev pub StopsWithin : ℕ → Course → Type 0
StopsWithin t o = (p : PassedLimit) → o.stop ≡ Some p → (o.mesh.last.moment ≤ p.moment) × (p.moment ≤ t)

pub record Halts (t : ℕ) (o : Course) : Type 0 where
  pub fine : Fine t o
  pub within : StopsWithin t o

one_passed : (p q : PassedLimit) → Some p ≡ Some q → p ≡ q
one_passed p q e = cc

halts_turn : (setup : Setup) (t : ℕ) (o after : Course) → FitsPlaces setup → Halts t o → Turned setup t o after → Halts t after
halts_turn setup t o after fits h (rests d e) = subst (Halts t) (sym e) h
halts_turn setup t o after fits h (goes k mesh s n c e) = record {
  fine = fine_turn setup t o after fits h.fine (goes k mesh s n c e);
  within = subst (StopsWithin t) (sym e) (λ p q. none p q);
}
  where
    none : (p : PassedLimit) → (begin mesh).stop ≡ Some p → ((begin mesh).mesh.last.moment ≤ p.moment) × (p.moment ≤ t)
    none p q = cc
halts_turn setup t o after fits h (stops k limit s n c e) = record {
  fine = fine_turn setup t o after fits h.fine (stops k limit s n c e);
  within = subst (StopsWithin t) (sym e) (λ p q.
      let is = due_is_next t o.mesh h.fine.sound k n in
      let at : k.moment ≡ p.moment = ap (λ (x : PassedLimit). x.moment) (one_passed (record { moment = k.moment; limit = limit }) p q) in
      let low = moments o.mesh.last k is.after in
      let high = is.within in
      (omega (arith, at, low), omega (arith, at, high)));
}

pub turn_halts : (setup : Setup) (t : ℕ) (o : Course) → FitsPlaces setup → Halts t o → Halts t (turn setup t o)
turn_halts setup t o fits h = halts_turn setup t o (turn setup t o) fits h (turned setup t o)

pub going_halts : (setup : Setup) (t : ℕ) (o : Course) → FitsPlaces setup → Halts t o → Halts t (going_on setup t o)
unfolding going_on
going_halts setup t o fits h = turns_keep setup t (Halts t) (λ x p. turn_halts setup t x fits p) 82 o h

pub halts_start : (t : ℕ) (mesh : Mesh) → Fine t (begin mesh) → Halts t (begin mesh)
halts_start t mesh fine = record { fine = fine; within = λ p q. none p q }
  where
    none : (p : PassedLimit) → (begin mesh).stop ≡ Some p → ((begin mesh).mesh.last.moment ≤ p.moment) × (p.moment ≤ t)
    none p q = cc
