-- The offset of the first separator, as it is found.
use Rattle.std.proofs.Common.{◌≡◌, ℕ, zero, suc, ◌<◌, Bool, true, false, List, [], ◌∷◌, length, get_or, Option, Some, None, refl, arith}
use Rattle.std.specs.Prelude.{unwrap_or}
use Rattle.std.specs.List.{position_or_len}
use Rattle.memchr.specs.Find.{IsFirstByte}
use Rattle.mesh_model.specs.Scenario.Words.{is_separator}

-- no byte of a list is a separator
abbrev AreNone : List ℕ → ℕ → Type 0
AreNone xs n = (k : ℕ) → k < n → is_separator (get_or xs k 0) ≡ true → ⊥

-- the offset in a list by that in its rest, where the first byte is no separator
later : (x : ℕ) (xs : List ℕ) (n : ℕ) (separates : Bool) → is_separator x ≡ separates → (separates ≡ true → ⊥)
    → n ≡ position_or_len is_separator xs → suc n ≡ position_or_len is_separator (x ∷ xs)
later x xs n true is other offset = absurd (other refl)
later x xs n false is other offset = rw is (omega (arith, offset))

none_offset : (xs : List ℕ) → AreNone xs (length xs) → length xs ≡ position_or_len is_separator xs
none_offset [] none = refl
none_offset (x ∷ xs) none = later x xs (length xs) (is_separator x) refl (none 0 (omega arith))
    (none_offset xs (λ k lt is. none (suc k) (omega (arith, lt)) is))

some_offset : (xs : List ℕ) (i : ℕ) → i < length xs → AreNone xs i → is_separator (get_or xs i 0) ≡ true
    → i ≡ position_or_len is_separator xs
some_offset [] i lt before is = absurd (omega (arith, lt))
some_offset (x ∷ xs) zero lt before is = rw is refl
some_offset (x ∷ xs) (suc i) lt before is = later x xs i (is_separator x) refl (before 0 (omega arith))
    (some_offset xs i (omega (arith, lt)) (λ k within. before (suc k) (omega (arith, within))) is)

-- the offset that was found, or the length
pub first_offset : (xs : List ℕ) (found : Option ℕ) → IsFirstByte is_separator xs found
    → unwrap_or found (length xs) ≡ position_or_len is_separator xs
first_offset xs None none = none_offset xs (λ k lt is. none k (omega arith) lt is)
first_offset xs (Some i) first = some_offset xs i (first.0.high) (λ k lt is. first.0.before k (omega arith) lt is) first.1
