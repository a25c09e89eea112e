-- Moments that never fall. The main word is `RiseWithin`.
use Rattle.std.specs.Prelude.{◌≤◌, ℕ, List, [], ◌∷◌}

-- moments that never fall, from one to another
abbrev pub RiseWithin : ℕ → List ℕ → ℕ → Type 0
RiseWithin first [] last = first ≤ last
RiseWithin first (moment ∷ moments) last = (first ≤ moment) × RiseWithin moment moments last
