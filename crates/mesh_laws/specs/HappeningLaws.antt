-- Laws of what happens: the next happening is found where there is one, and it is one; a run has
-- turns enough, leaves nothing due, and carries each happening out once, in rising order; it may be
-- cut at any moment and behind any happening.
use Rattle.std.specs.Prelude.{◌≡◌, ℕ, ◌≤◌, ◌<◌, ◌↔◌, ◌⊎◌, true, Some, None, Ok, Err}
use Rattle.std.specs.Fn.{iterate}
use Rattle.mesh_model.specs.declared.ending.LimitName.{LimitName}
use Rattle.mesh_model.specs.declared.happening.Happening.{Happening}
use Rattle.mesh_model.specs.Net.Happenings.{Before}
use Rattle.mesh_model.specs.Net.Mesh.{Mesh, Setup}
use Rattle.mesh_model.specs.Net.Due.{next_due}
use Rattle.mesh_model.specs.Net.Next.{Happens, IsNext, IsQuiet}
use Rattle.mesh_model.specs.Net.Limits.{clock_limit}
use Rattle.mesh_model.specs.Net.Runs.{PassedLimit, after_happening, begin, course_after, turn, is_done, going_on, run_to}
use Rattle.mesh_laws.specs.Soundness.{FitsPlaces, IsSound, rank}

-- the next happening is computed exactly where there is one
abbrev pub FindsNext : Type 0
FindsNext = (t : ℕ) (mesh : Mesh) → IsSound mesh →
    ((h : Happening) → (next_due t mesh ≡ Some h) ↔ IsNext t mesh h)
    × ((next_due t mesh ≡ None) ↔ IsQuiet t mesh)

-- there is at most one next happening
abbrev pub OneNext : Type 0
OneNext = (t : ℕ) (mesh : Mesh) (h k : Happening) →
    IsNext t mesh h → IsNext t mesh k → h ≡ k

-- the last happening rises with each that is carried out, as a number too
abbrev pub LastRises : Type 0
LastRises = (setup : Setup) (t : ℕ) (mesh after : Mesh) (h : Happening) → IsSound mesh →
    IsNext t mesh h → after_happening setup h mesh ≡ Ok after →
    (after.last ≡ h) × Before mesh.last h × (rank mesh.last < rank h)

-- what a happening adds comes after it: nothing is ever added before the last happening
abbrev pub NothingAddedBefore : Type 0
NothingAddedBefore = (setup : Setup) (t : ℕ) (mesh after : Mesh) (h x : Happening) → IsSound mesh →
    IsNext t mesh h → after_happening setup h mesh ≡ Ok after →
    Happens after x → Happens mesh x ⊎ Before h x

-- what is carried out after a happening comes after it, so each is carried out at most once
abbrev pub LaterIsLater : Type 0
LaterIsLater = (setup : Setup) (t u : ℕ) (mesh after : Mesh) (h k : Happening) (more : ℕ) →
    FitsPlaces setup → IsSound mesh →
    next_due t mesh ≡ Some h → after_happening setup h mesh ≡ Ok after →
    next_due u (iterate (turn setup u) more (begin after)).mesh ≡ Some k → Before h k

-- a run until a moment that begins before it
pub record CanRun (setup : Setup) (t : ℕ) (mesh : Mesh) : Type 0 where
  pub fits : FitsPlaces setup
  pub sound : IsSound mesh
  pub begins : mesh.last.moment ≤ t
  pub ends : t ≤ clock_limit

-- in a run that no limit ends, all that happens until its end is carried out at some turn
abbrev pub AllIsCarriedOut : Type 0
AllIsCarriedOut = (setup : Setup) (t : ℕ) (mesh : Mesh) (x : Happening) → CanRun setup t mesh →
    (run_to setup t mesh).stop ≡ None →
    Happens (run_to setup t mesh).mesh x → Before mesh.last x → x.moment ≤ t →
    (n : ℕ) × (next_due t (iterate (turn setup t) n (begin mesh)).mesh ≡ Some x)

-- a run never ends for want of turns
abbrev pub HasTurnsEnough : Type 0
HasTurnsEnough = (setup : Setup) (t : ℕ) (mesh : Mesh) → CanRun setup t mesh →
    is_done t (run_to setup t mesh) ≡ true

-- a run that no limit ends leaves nothing due
abbrev pub LeavesNothingDue : Type 0
LeavesNothingDue = (setup : Setup) (t : ℕ) (mesh : Mesh) → CanRun setup t mesh →
    (run_to setup t mesh).stop ≡ None → IsQuiet t (run_to setup t mesh).mesh

-- a limit that ends a run is passed by the next happening, at its moment
pub record IsPassedNext (setup : Setup) (t : ℕ) (mesh : Mesh) (passed : PassedLimit) : Type 0 where
  pub happening : Happening
  pub next : next_due t mesh ≡ Some happening
  pub attempt : after_happening setup happening mesh ≡ Err passed.limit
  pub moment : passed.moment ≡ happening.moment

-- so it is wherever a run is ended
abbrev pub LimitsArePassedNext : Type 0
LimitsArePassedNext = (setup : Setup) (t : ℕ) (mesh : Mesh) (passed : PassedLimit) →
    (run_to setup t mesh).stop ≡ Some passed →
    IsPassedNext setup t (run_to setup t mesh).mesh passed

-- a run until a moment that goes on until a later one is the run until the later one
abbrev pub RunsInSlices : Type 0
RunsInSlices = (setup : Setup) (t u : ℕ) (mesh : Mesh) → CanRun setup t mesh →
    t ≤ u → u ≤ clock_limit → going_on setup u (run_to setup t mesh) ≡ run_to setup u mesh

-- a run is its first happening and then the run, or nothing where none is due
abbrev pub RunsByHappenings : Type 0
RunsByHappenings = (setup : Setup) (t : ℕ) (mesh : Mesh) → CanRun setup t mesh →
    (IsQuiet t mesh → run_to setup t mesh ≡ begin mesh)
    × ((h : Happening) → IsNext t mesh h →
    ((after : Mesh) → after_happening setup h mesh ≡ Ok after →
    run_to setup t mesh ≡ run_to setup t after)
    × ((limit : LimitName) → after_happening setup h mesh ≡ Err limit →
    run_to setup t mesh ≡ course_after mesh h (Err limit)))
