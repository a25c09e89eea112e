-- What holds of the fragments of a cut that come to a node, whatever else comes. In any order and
-- however often, the last one that was missing makes the packet whole; and nothing but the packet
-- is ever made whole of them. The main words are `CutsComeBack` and `OnlyWhole`.
use Rattle.std.specs.Prelude.{◌≡◌, ◌⊎◌, ℕ, ◌+◌, ◌<◌, ◌≤◌, ◌==◌, ◌&&◌, Bool, true, false, List, ◌++◌, length, slice_get, None, Some, IsSomeAnd}
use Rattle.std.specs.List.{AllByRecursion, list_any}
use Rattle.mesh_model.specs.Fragments.Assembly.{PartCall, assembly, assembly_age, is_part_of, made_whole, standing}
use Rattle.mesh_model.specs.Fragments.Cutting.{CanBeMade, Cut, fragments}
use Rattle.mesh_frag.specs.Frags.{part_of_head}

-- whether a part is of an assembly of this cut
abbrev pub is_of_cut : Cut → PartCall → Bool
is_of_cut cut call = is_part_of cut.me cut.number (length cut.packet) call

-- a part is the fragment of a cut at its place, however many hops that has left
abbrev pub IsFragment : Cut → PartCall → Type 0
IsFragment cut call = IsSomeAnd (slice_get (fragments cut) call.place)
    (λ fragment. part_of_head call.moment fragment.0 fragment.1 ≡ Some call)

-- of these parts those of the cut are fragments of it
abbrev pub AreFragments : Cut → List PartCall → Type 0
AreFragments cut calls =
    AllByRecursion (λ call. is_of_cut cut call ≡ true → IsFragment cut call) calls

-- what a fragment makes whole, after others of the same cut, is the packet that was cut
abbrev pub OnlyWhole : Type 0
OnlyWhole = (cut : Cut) (call : PartCall) (older : List PartCall) (bytes : List ℕ)
    → IsFragment cut call → AreFragments cut older → made_whole call older ≡ Some bytes
    → bytes ≡ cut.packet

-- a part comes less than 10,000 ms after a moment
abbrev pub IsInTime : ℕ → PartCall → Type 0
IsInTime start call = (start ≤ call.moment) × (call.moment < start + assembly_age)

-- of these parts those of a cut come less than 10,000 ms after a moment
abbrev pub AreInTime : Cut → ℕ → List PartCall → Type 0
AreInTime cut start calls =
    AllByRecursion (λ call. is_of_cut cut call ≡ true → IsInTime start call) calls

-- whether a part of a cut came for this place
abbrev pub has_come : Cut → List PartCall → ℕ → Bool
has_come cut calls place = list_any (λ call. is_of_cut cut call && (place == call.place)) calls

-- a part is the last fragment of a cut that was missing, after others that came since a moment at
-- which no assembly of the cut was open
pub record IsLastMissing (cut : Cut) (start : ℕ) (before came : List PartCall) (call : PartCall)
    : Type 0 where
  -- at that moment none is open
  pub closed : standing start (assembly before cut.me cut.number (length cut.packet)) ≡ None
  -- the others of the cut are fragments, and come in time
  pub others_are : AreFragments cut came
  pub others_in_time : AreInTime cut start came
  -- so is the part, and so does it
  pub is : IsFragment cut call
  pub in_time : IsInTime start call
  -- none came for its place
  pub missing : has_come cut came call.place ≡ false
  -- and one for each other
  pub last : (place : ℕ) → place < length (fragments cut) →
      (place ≡ call.place) ⊎ (has_come cut came place ≡ true)

-- the last fragment of a cut that was missing makes the packet whole
abbrev pub CutsComeBack : Type 0
CutsComeBack = (cut : Cut) (start : ℕ) (before came : List PartCall) (call : PartCall)
    → CanBeMade cut → IsLastMissing cut start before came call
    → made_whole call (came ++ before) ≡ Some cut.packet
