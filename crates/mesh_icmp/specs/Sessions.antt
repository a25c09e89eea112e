-- How a list of open probes and the number of the last probe stand for the calls that were made.
-- The list is in the order in which its probes were given, so that a number is found by halving.
-- The main word is `StandsFor`.
use Rattle.std.specs.Prelude.{◌≡◌, ◌<◌, ℕ, ◌+◌, ◌-◌, ◌%◌, ◌==◌, nat_lt, Bool, not, List, [], ◌∷◌, filter, find, if◌then◌else◌}
use Rattle.std.specs.List.{AllByRecursion}
use Rattle.mesh_model.specs.declared.probe.OpenProbe.{OpenProbe}
use Rattle.mesh_model.specs.Probes.OpenProbes.{ProbeCall, numbers, probes_by}

-- what is kept: the number of the last probe, and the open ones, oldest first
pub record Kept : Type 0 where
  pub latest : ℕ
  pub probes : List OpenProbe

-- the same, and how many more probes find room
pub record Queue : Type 0 where
  pub latest : ℕ
  pub probes : List OpenProbe
  pub room : ℕ

-- whether a probe has a number
abbrev pub has_number : ℕ → OpenProbe → Bool
has_number seq open_probe = seq == open_probe.probe.seq

-- the probes that have another number
abbrev pub without : ℕ → List OpenProbe → List OpenProbe
without seq probes = filter (λ p. not (has_number seq p)) probes

-- the number after another
abbrev pub next_after : ℕ → ℕ
next_after latest = (latest + 1) % numbers

-- how far a number stands behind the oldest one that can be open: 0 for the next number, whose
-- probe was given longest ago, and 65,535 for the last one
abbrev pub number_rank : ℕ → ℕ → ℕ
number_rank latest seq =
    if nat_lt latest seq then seq - latest - 1 else seq + (numbers - 1) - latest

-- the probes stand in the order in which they were given, each under a number of its own
abbrev pub AreInOrder : ℕ → List OpenProbe → Type 0
AreInOrder latest [] = Unit {0}
AreInOrder latest (p ∷ newer) = (p.probe.seq < numbers)
    × AllByRecursion (λ q. number_rank latest p.probe.seq < number_rank latest q.probe.seq) newer
    × AreInOrder latest newer

-- what is kept is what these calls leave
pub record StandsFor (kept : Kept) (made : List ProbeCall) : Type 0 where
  pub numbered : kept.latest ≡ (probes_by made).given % numbers
  pub open_is : (seq : ℕ) → find (has_number seq) kept.probes ≡ (probes_by made).waiting seq
