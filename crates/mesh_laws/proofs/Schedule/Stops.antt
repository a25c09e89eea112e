-- What ends a run.
use Rattle.std.proofs.Common.{◌≡◌, ℕ, Some, Err, sym, ap, ◌∙◌, subst}
use Rattle.mesh_model.specs.Net.Mesh.{Mesh, Setup}
use Rattle.mesh_model.specs.Net.Runs.{PassedLimit, Course, begin, turn, going_on, run_to}
use Rattle.mesh_laws.specs.HappeningLaws.{IsPassedNext}
use Rattle.mesh_laws.proofs.Schedule.Runs.{Turned, rests, goes, stops, turned, turns_keep}

-- what ended a course is passed by the next happening
abbrev StopsNext : Setup → ℕ → Course → Type 0
StopsNext setup t o = (p : PassedLimit) → o.stop ≡ Some p → IsPassedNext setup t o.mesh p

one_passed : (p q : PassedLimit) → Some p ≡ Some q → p ≡ q
one_passed p q e = cc

not_begun : (setup : Setup) (t : ℕ) (mesh : Mesh) → StopsNext setup t (begin mesh)
not_begun setup t mesh p e = none p e
  where
    none : (p : PassedLimit) → (begin mesh).stop ≡ Some p → IsPassedNext setup t mesh p
    none p e = cc

stops_turn : (setup : Setup) (t : ℕ) (o after : Course) → StopsNext setup t o → Turned setup t o after → StopsNext setup t after
stops_turn setup t o after before (rests d e) = subst (StopsNext setup t) (sym e) before
stops_turn setup t o after before (goes h mesh s n c e) = subst (StopsNext setup t) (sym e) (not_begun setup t mesh)
stops_turn setup t o after before (stops h limit s n c e) = subst (StopsNext setup t) (sym e) (λ p q.
    let is : record { moment = h.moment; limit = limit } ≡ p = one_passed (record { moment = h.moment; limit = limit }) p q in
    record {
      happening = h;
      next = n;
      attempt = c ∙ ap (λ (x : PassedLimit). Err x.limit) is;
      moment = sym (ap (λ (x : PassedLimit). x.moment) is);
    })

pub passed_next : (setup : Setup) (t : ℕ) (mesh : Mesh) → StopsNext setup t (run_to setup t mesh)
unfolding going_on
passed_next setup t mesh = turns_keep setup t (StopsNext setup t) (λ o p. stops_turn setup t o (turn setup t o) p (turned setup t o)) 82 (begin mesh) (not_begun setup t mesh)
