-- A count of faults: it only ever rises, and stays at its last value once it is there. The main
-- word is `Rose`.
use Rattle.std.specs.Prelude.{◌≡◌, ℕ, Bool, true, false, ◌+◌, ◌-◌, ◌^◌, ◌<◌, min, ◌⊎◌}
use Rattle.mesh_base.specs.declared.failure.OpenErr.{OpenErr}
use Rattle.mesh_base.specs.declared.failure.OpenErr.TheVariants.{Failed, Memory}

-- the last value of a count
abbrev pub last_count : ℕ
last_count = 2 ^ 64 - 1

-- a count after one more
abbrev pub one_more : ℕ → ℕ
one_more count = min (count + 1) last_count

-- a call that met a fault counted one more
abbrev pub CountsOne : ℕ → ℕ → Type 0
CountsOne old new = new ≡ one_more old

-- what a call counts by whether it met a fault: one more, or none
abbrev pub CountsFault : Bool → ℕ → ℕ → Type 0
CountsFault true old new = CountsOne old new
CountsFault false old new = new ≡ old

-- the count rose, or stood at its last value and still does
abbrev pub Rose : ℕ → ℕ → Type 0
Rose old new = (old < new) ⊎ ((old ≡ last_count) × (new ≡ last_count))

-- the cause of an open's answer: `Failed` only where the count rose, and want of memory is free
abbrev pub HasOpenCause : ℕ → ℕ → OpenErr → Type 0
HasOpenCause old new Failed = Rose old new
HasOpenCause old new Memory = Unit {0}

-- what an open that failed counted: one more for a fault, and none for want of memory
abbrev pub CountsOpen : ℕ → ℕ → OpenErr → Type 0
CountsOpen old new Failed = CountsOne old new
CountsOpen old new Memory = new ≡ old
