-- Sequence numbers as the bits of a word: bit i says that the number i below the newest was seen.
-- The main word is `numbers_of`.
use Rattle.std.specs.Prelude.{◌≡◌, ◌⊎◌, ℕ, zero, suc, ◌+◌, ◌-◌, ◌*◌, ◌%◌, ◌^◌, ◌<◌, ◌&&◌, nat_eq, nat_le, nat_lt, Bool, true, false, List, [], ◌∷◌, Option, Some, None, if◌then◌else◌}
use Rattle.std.specs.Int.{bit_at}
use Rattle.mesh_model.specs.Routes.Numbers.{has, greatest, among, window_length}

-- whether a bit of a word is set
abbrev pub is_bit : ℕ → ℕ → Bool
is_bit word i = nat_eq (bit_at word i) 1

-- the numbers that a word has below the newest, in rising order
unfoldable pub numbers_of : ℕ → ℕ → List ℕ
numbers_of newest word = among newest window_length (λ number. is_bit word (newest - number))

-- a word that may stand beside a newest number: it is 0 before the first, and has no bit for a
-- number below 0
pub record IsWord (newest word : ℕ) : Type 0 where
  pub top : (is_bit word 0 ≡ true) ⊎ ((word ≡ 0) × (newest ≡ 0))
  pub below : (i : ℕ) → i < 64 → newest < i → is_bit word i ≡ false
  pub fits : word < 2 ^ 64

-- the word of those bits below `count` that pass a test
unfoldable pub word_by : ℕ → (ℕ → Bool) → ℕ
word_by zero passes = 0
word_by (suc i) passes = (if passes i then 1 else 0) * 2 ^ i + word_by i passes

-- the word that has some numbers below the greatest of them
unfoldable pub word_of : List ℕ → ℕ
word_of numbers =
    word_by window_length
    (λ i. nat_le i (greatest numbers) && has (greatest numbers - i) numbers)

-- a word whose newest number rises by so much
abbrev pub shifted_word : ℕ → ℕ → ℕ
shifted_word word by = if nat_lt by 64 then word * 2 ^ by % 2 ^ 64 else 0

-- the newest of some numbers
abbrev pub newest_of : List ℕ → Option ℕ
newest_of [] = None
newest_of (number ∷ numbers) = Some (greatest (number ∷ numbers))
