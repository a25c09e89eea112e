-- Rows in the order of their opening, whose moments never fall, and those that are open still.
use Rattle.std.proofs.Common.{◌≡◌, ◌≤◌, ℕ, Bool, true, false, cond, List, [], ◌∷◌, ◌++◌, filter, map, slice_get, IfSome, Some, refl, sym, ap, ◌∙◌, arith}
use Rattle.std.specs.Map.{lookup, remove_entry, set_value}
use Rattle.std.proofs.lemmas.Option.{same_Some}
use Rattle.mesh_laws.specs.Rising.{RiseWithin}

from_earlier : (low first last : ℕ) (moments : List ℕ) → low ≤ first → RiseWithin first moments last → RiseWithin low moments last
from_earlier low first last [] le rise = omega (arith, le, rise)
from_earlier low first last (moment ∷ moments) le rise = (omega (arith, le, rise.0), rise.1)

-- what rises to a moment rises to a later one
pub to_later : (first last now : ℕ) (moments : List ℕ) → last ≤ now → RiseWithin first moments last → RiseWithin first moments now
to_later first last now [] le rise = omega (arith, le, rise)
to_later first last now (moment ∷ moments) le rise = (rise.0, to_later moment last now moments le rise.1)

module _ {K V : Type 0} (opened : V → ℕ) where
  -- the moments at which rows were opened
  abbrev moments_of : List (K × V) → List ℕ
  moments_of rows = map (λ (row : K × V). opened row.1) rows

  -- they rise with one more row that is opened then
  pub one_opened : (first now : ℕ) (rows : List (K × V)) (row : K × V) → opened row.1 ≡ now → RiseWithin first (moments_of rows) now → RiseWithin first (moments_of (rows ++ row ∷ [])) now
  one_opened first now [] row is rise = (omega (arith, is, rise), omega (arith, is))
  one_opened first now (e ∷ rows) row is rise = (rise.0, one_opened (opened e.1) now rows row is rise.1)

  -- and without a row
  pub one_removed : (first last : ℕ) (test : K → Bool) (rows : List (K × V)) → RiseWithin first (moments_of rows) last → RiseWithin first (moments_of (remove_entry test rows)) last
  one_removed first last test [] rise = rise
  one_removed first last test (row ∷ rows) rise =
      elim (test row.0) as (λ b. RiseWithin first (moments_of (cond b rows (row ∷ remove_entry test rows))) last) [
        | true ↦ from_earlier first (opened row.1) last (moments_of rows) rise.0 rise.1
        | false ↦ (rise.0, one_removed (opened row.1) last test rows rise.1)
      ]

  -- a row that is written keeps the moment of its opening
  pub one_written : (test : K → Bool) (rows : List (K × V)) (before after : V) → lookup test rows ≡ Some before → opened after ≡ opened before → moments_of (set_value test rows after) ≡ moments_of rows
  one_written test [] before after found same = refl
  one_written test (row ∷ rows) before after found same =
      elim (test row.0) as (λ b. cond b (Some row.1) (lookup test rows) ≡ Some before → moments_of (cond b ((row.0, after) ∷ rows) (row ∷ set_value test rows after)) ≡ moments_of (row ∷ rows)) [
        | true ↦ λ is. ap (λ moment. moment ∷ moments_of rows) (same ∙ ap opened (sym (same_Some row.1 before is)))
        | false ↦ λ is. ap (λ moments. opened row.1 ∷ moments) (one_written test rows before after is same)
      ] found

  -- where what was opened no earlier than what is open still is open still
  module _ (is_open : V → Bool) (later_open : (one other : V) → is_open one ≡ true → opened one ≤ opened other → is_open other ≡ true) where
    abbrev open_rows : List (K × V) → List (K × V)
    open_rows rows = filter (λ (row : K × V). is_open row.1) rows

    -- what is open still rises as all do
    pub open_rise : (first last : ℕ) (rows : List (K × V)) → RiseWithin first (moments_of rows) last → RiseWithin first (moments_of (open_rows rows)) last
    open_rise first last [] rise = rise
    open_rise first last (row ∷ rows) rise =
        elim (is_open row.1) as (λ b. RiseWithin first (moments_of (cond b (row ∷ open_rows rows) (open_rows rows))) last) [
          | true ↦ (rise.0, open_rise (opened row.1) last rows rise.1)
          | false ↦ from_earlier first (opened row.1) last (moments_of (open_rows rows)) rise.0 (open_rise (opened row.1) last rows rise.1)
        ]

    -- all that rises from what is open still is open still
    pub all_open : (one : V) (last : ℕ) (rows : List (K × V)) → is_open one ≡ true → RiseWithin (opened one) (moments_of rows) last → open_rows rows ≡ rows
    all_open one last [] is rise = refl
    all_open one last (row ∷ rows) is rise =
        let here = later_open one row.1 is rise.0 in
        ap (λ b. cond b (row ∷ open_rows rows) (open_rows rows)) here
        ∙ ap (λ (others : List (K × V)). row ∷ others) (all_open row.1 last rows here rise.1)

    -- where the first row is open still, all are
    pub first_open : (first last : ℕ) (rows : List (K × V)) → IfSome (slice_get rows 0) (λ (row : K × V). is_open row.1 ≡ true) → RiseWithin first (moments_of rows) last → open_rows rows ≡ rows
    first_open first last [] is rise = refl
    first_open first last (row ∷ rows) is rise = all_open row.1 last (row ∷ rows) is (omega arith, rise.1)
