-- Bytes that are written from hex digits, while the greatest pair tells whether one is no digit.
use Rattle.std.proofs.Common.{◌≡◌, ℕ, zero, suc, ◌+◌, ◌*◌, ◌%◌, ◌<◌, ◌≤◌, ◌⊎◌, inl, inr, Bool, true, List, length, take, drop, slice_index, slice_set, Option, Some, None, unwrap_or, Ok, Err, refl, sym, ap, ◌∙◌, arith}
use Rattle.std.specs.Prelude.{◌==◌, ◌&&◌, if◌then◌else◌, max, nat_lt}
use Rattle.std.specs.Result.{result_ok}
use Rattle.std.proofs.Math.Nat.{le-max_left, le-max_right, max-le}
use Rattle.std.proofs.lemmas.Bool.{and_parts, cases_lt, eqb-true, le-ltb, lt-ltb}
use Rattle.hex.specs.Hex.{decode_pairs, digit_or_error, hex_digit_value, pair_value, value_at}
use Rattle.hex.specs.declared.error.FromHexError.{FromHexError}
use Rattle.hex.specs.declared.error.FromHexError.TheVariants.{InvalidHexCharacter}
use Rattle.hex.proofs.Pairs.{prepend, decode_step, decode_err, decode_done, decode_start}
use Rattle.mesh_scenario.specs.declared.hex_bytes.TheConstants.{VALUES}

-- ---- the table of values

-- whether the first values are those of the bytes as digits
abbrev are_values : ℕ → Bool
are_values zero = true
are_values (suc byte) = (slice_index VALUES.now byte == unwrap_or (hex_digit_value byte) 256) && are_values byte

value_below : (n byte : ℕ) → are_values n ≡ true → byte < n → slice_index VALUES.now byte ≡ unwrap_or (hex_digit_value byte) 256
value_below zero byte all below = absurd (omega arith)
value_below (suc n) byte all below =
    let parts = and_parts (slice_index VALUES.now n == unwrap_or (hex_digit_value n) 256) (are_values n) all in
    elim (cases_lt byte n) [
      | inl before ↦ value_below n byte parts.1 before
      | inr last ↦
          let same : byte ≡ n = omega arith in
          rw same (eqb-true _ _ parts.0)
    ]

-- each value is that of its byte
pub value-at : (byte : ℕ) → byte < 256 → slice_index VALUES.now byte ≡ unwrap_or (hex_digit_value byte) 256
value-at byte below = value_below 256 byte refl below

-- a digit's value is below the base
digit_small : (byte : ℕ) → (value : ℕ) → hex_digit_value byte ≡ Some value → value < 16
digit_small byte value is = grind (arith)

-- ---- pairs

-- the pair of these values is one byte if both are digits, and else greater
pair_cases : (a b i : ℕ) (first second : Option ℕ) → ((v : ℕ) → first ≡ Some v → v < 16) → ((v : ℕ) → second ≡ Some v → v < 16)
    → value_at a i ≡ digit_or_error a i first → value_at b (i + 1) ≡ digit_or_error b (i + 1) second
    → ((unwrap_or first 256 * 16 + unwrap_or second 256 < 256) × (pair_value a b i ≡ Ok (unwrap_or first 256 * 16 + unwrap_or second 256)))
    ⊎ ((256 ≤ unwrap_or first 256 * 16 + unwrap_or second 256) × ((error : FromHexError) × (pair_value a b i ≡ Err error)))
pair_cases a b i (Some high) (Some low) h l is_high is_low =
    let small_high = h high refl in
    let small_low = l low refl in
    inl (omega (arith, small_high, small_low), rw (is_high, is_low) refl)
pair_cases a b i (Some high) None h l is_high is_low =
    inr (omega arith, (InvalidHexCharacter b (i + 1), rw (is_high, is_low) refl))
pair_cases a b i None second h l is_high is_low =
    inr (omega arith, (InvalidHexCharacter a i, rw is_high refl))

-- ---- the loop

-- so many bytes are written if all pairs so far are bytes; else the digits spell none
pub record Spells (digits bytes : List ℕ) (i greatest : ℕ) : Type 0 where
  pub written : greatest < 256 → decode_pairs 0 digits ≡ prepend (take i bytes) (decode_pairs (2 * i) (drop (2 * i) digits))
  pub none : 256 ≤ greatest → result_ok (decode_pairs 0 digits) ≡ None

pub spells-start : (digits bytes : List ℕ) → Spells digits bytes 0 0
spells-start digits bytes = record { written = λ small. decode_start digits bytes; none = λ great. absurd (omega (arith, great)) }

-- behind one pair more
spells_step : (digits bytes : List ℕ) (i greatest pair byte : ℕ) → 2 * i + 1 < length digits → i < length bytes → byte ≡ pair % 256
    → ((pair < 256) × (pair_value (slice_index digits (2 * i)) (slice_index digits (2 * i + 1)) (2 * i) ≡ Ok pair))
    ⊎ ((256 ≤ pair) × ((error : FromHexError) × (pair_value (slice_index digits (2 * i)) (slice_index digits (2 * i + 1)) (2 * i) ≡ Err error)))
    → Spells digits bytes i greatest → Spells digits (slice_set bytes i byte) (i + 1) (max greatest pair)
spells_step digits bytes i greatest pair byte fits room byte_is (inl read) so_far =
    let left = le-max_left greatest pair in
    let whole : byte ≡ pair = omega (arith, byte_is, read.0) in
    record {
      written = λ small. decode_step digits bytes i byte fits room (rw whole read.1) (so_far.written (omega (arith, small, left)));
      none = λ great. elim (cases_lt greatest 256) [
        | inl below ↦ let most : max greatest pair ≤ 255 = max-le (omega arith) (omega (arith, read.0)) in absurd (omega (arith, great, most))
        | inr above ↦ so_far.none above
      ];
    }
spells_step digits bytes i greatest pair byte fits room byte_is (inr bad) so_far =
    let right = le-max_right greatest pair in
    record {
      written = λ small. absurd (omega (arith, small, right, bad.0));
      none = λ great. elim (cases_lt greatest 256) [
        | inl below ↦ ap result_ok (decode_err digits bytes i bad.1.0 fits bad.1.1 (so_far.written below))
        | inr above ↦ so_far.none above
      ];
    }

pub spells-more : (digits bytes : List ℕ) (i greatest pair byte : ℕ) → 2 * i + 1 < length digits → i < length bytes → byte ≡ pair % 256
    → pair ≡ unwrap_or (hex_digit_value (slice_index digits (2 * i))) 256 * 16 + unwrap_or (hex_digit_value (slice_index digits (2 * i + 1))) 256
    → Spells digits bytes i greatest → Spells digits (slice_set bytes i byte) (i + 1) (max greatest pair)
spells-more digits bytes i greatest pair byte fits room byte_is pair_is so_far =
    let a = slice_index digits (2 * i) in
    let b = slice_index digits (2 * i + 1) in
    spells_step digits bytes i greatest pair byte fits room byte_is
    (rw pair_is (pair_cases a b (2 * i) (hex_digit_value a) (hex_digit_value b) (digit_small a) (digit_small b) refl refl)) so_far

-- behind all pairs
pub spells-end : (digits bytes : List ℕ) (i greatest : ℕ) → length bytes ≤ i → length digits ≤ 2 * i → Spells digits bytes i greatest
    → result_ok (decode_pairs 0 digits) ≡ (if nat_lt greatest 256 then Some bytes else None)
spells-end digits bytes i greatest room fits so_far = elim (cases_lt greatest 256) [
  | inl small ↦ ap result_ok (decode_done digits bytes i room fits (so_far.written small))
      ∙ sym (ap (λ below. if below then Some bytes else None) (lt-ltb greatest 256 small))
  | inr great ↦ so_far.none great
      ∙ sym (ap (λ below. if below then Some bytes else None) (le-ltb greatest 256 great))
]
