-- The requests for tables: an originator is asked too soon where less than 3,000 ms passed since it
-- was last asked in its life. The main word is `too_soon`.
use Rattle.std.specs.Prelude.{ℕ, ◌-◌, nat_lt, [], ◌∷◌, Option, Some, None, option_and_then, if◌then◌else◌}
use Rattle.mesh_base.specs.declared.address.Mac.{Mac}
use Rattle.mesh_model.specs.Marks.Calls.{Call, Calls, Marked, Released, Unmarked, Advised, Asked, Forgotten}
use Rattle.mesh_model.specs.Routes.Addresses.{same_mac}

-- how long an originator isn't asked again, in milliseconds
abbrev pub asking_pause : ℕ
asking_pause = 3000

-- when an originator was last asked after a call, from when it was before
abbrev pub next_asked : Call → Mac → Option ℕ → Option ℕ
next_asked (Marked now k target told) orig before = before
next_asked (Released target byte) orig before = before
next_asked (Unmarked k) orig before = before
next_asked (Advised now k) orig before = before
next_asked (Asked now o) orig before = if same_mac o orig then Some now else before
next_asked (Forgotten o) orig before = if same_mac o orig then None else before

-- when an originator was last asked in its life
abbrev pub asked_by : Calls → Mac → Option ℕ
asked_by [] orig = None
asked_by (call ∷ older) orig = next_asked call orig (asked_by older orig)

-- a moment of asking, where the next one would be too soon
abbrev pub if_recent : ℕ → ℕ → Option ℕ
if_recent now asked_at = if nat_lt (now - asked_at) asking_pause then Some asked_at else None

-- when an originator was asked so lately that it isn't asked again
abbrev pub too_soon : ℕ → Calls → Mac → Option ℕ
too_soon now calls orig = option_and_then (if_recent now) (asked_by calls orig)
