-- The queue of a net: the happenings that are to come. Those that wait are the deliveries after the
-- last happening, of link frames and of LAN frames, and the first tick to come of each node. The
-- main word is `Awaits`.
use Rattle.std.specs.Prelude.{◌≡◌, ◌↔◌, ℕ, ◌<◌, ◌≤◌, ◌⊎◌, List, ◌++◌, slice_get, Option, Some, None}
use Rattle.mesh_model.specs.declared.happening.Happening.{Happening}
use Rattle.mesh_model.specs.Net.Due.{deliveries, lan_deliveries}
use Rattle.mesh_model.specs.Net.Happenings.{Before}
use Rattle.mesh_model.specs.Net.Mesh.{NetLink, SentFrame, LanPut}
use Rattle.mesh_model.specs.Net.Next.{AtMost, Has}

-- each comes before those behind it
abbrev pub IsRising : List Happening → Type 0
IsRising waiting = (i j : ℕ) (x y : Happening) → i < j → slice_get waiting i ≡ Some x →
    slice_get waiting j ≡ Some y → Before x y

-- the first of those that wait, where one does
abbrev pub IsEarliest : List Happening → Option Happening → Type 0
IsEarliest waiting None = (x : Happening) → Has waiting x → ⊥
IsEarliest waiting (Some h) = Has waiting h × ((x : Happening) → Has waiting x → AtMost h x)

-- one more waits
abbrev pub Joins : Happening → List Happening → List Happening → Type 0
Joins h old new = (x : Happening) → Has new x ↔ (x ≡ h) ⊎ Has old x

-- one that was before all others waits no more
pub record Leaves (h : Happening) (old new : List Happening) : Type 0 where
  pub kept : (x : Happening) → Has old x → (x ≡ h) ⊎ Has new x
  pub had : (x : Happening) → Has new x → Has old x
  pub above : (x : Happening) → Has new x → Before h x

-- a happening until a moment was the first of those that waited, and was taken away
pub record IsPopped (old new : List Happening) (t : ℕ) (h : Happening) : Type 0 where
  pub waited : Has old h
  pub leaves : Leaves h old new
  pub within : h.moment ≤ t

-- none that waits is until a moment
abbrev pub IsNoneDue : List Happening → ℕ → Type 0
IsNoneDue waiting t = (x : Happening) → Has waiting x → t < x.moment

-- one that waits is until a moment
abbrev pub IsSomeDue : List Happening → ℕ → Type 0
IsSomeDue waiting t = (x : Happening) × Has waiting x × (x.moment ≤ t)

-- the deliveries of these link frames, and of these LAN frames
abbrev pub all_deliveries : List NetLink → List SentFrame → List LanPut → List Happening
all_deliveries links frames puts = deliveries links 0 frames ++ lan_deliveries 0 puts

-- those wait that are deliveries of these frames after a happening, and these ticks
abbrev pub Awaits : List Happening → Happening → List Happening → List NetLink → List SentFrame
    → List LanPut → Type 0
Awaits waiting last ticks links frames puts = (x : Happening) → Has waiting x ↔
    (Has (all_deliveries links frames puts) x × Before last x) ⊎ Has ticks x
