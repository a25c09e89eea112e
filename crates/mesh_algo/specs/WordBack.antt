-- A word and its newest number are given back by the numbers that they have. No public clause cites
-- this module.
use Rattle.std.proofs.Common.{◌≡◌, ℕ, suc, zero, ◌+◌, ◌-◌, ◌*◌, ◌^◌, ◌<◌, ◌≤◌, nat_eq, nat_lt, nat_le, Bool, true, false, cond, ◌&&◌, arith, refl, sym, ap, ◌∙◌, ⊎_elim}
use Rattle.std.proofs.lemmas.Bool.{cases_lt, lt-leb}
use Rattle.std.proofs.lemmas.Bool.Decides.{nat_tests}
use Rattle.std.proofs.Math.Nat.{pow-suc}
use Rattle.std.proofs.lemmas.Nat.Bits.{bit_at-lt, bit_at_cat_low, bit_at_cat_high, same_from_bits_below}
use Rattle.mesh_model.specs.Routes.Numbers.{has, greatest}
use Rattle.mesh_laws.proofs.WindowLemmas.{has-among, greatest-among, greatest-among-le}
use Rattle.mesh_algo.specs.Words.{is_bit, numbers_of, word_by, word_of, IsWord}

-- bits that are told alike are one
same_bit : (a b : ℕ) → a < 2 → b < 2 → nat_eq a 1 ≡ nat_eq b 1 → a ≡ b
same_bit a b l m e = grind (arith, nat_tests)

bits_lt : (b : Bool) (k r : ℕ) → r < 2 ^ k → cond b 1 0 * 2 ^ k + r < 2 ^ suc k
bits_lt true k r lt = rw pow-suc (omega (arith, lt))
bits_lt false k r lt = rw pow-suc (omega (arith, lt))

word_by-lt : (k : ℕ) (p : ℕ → Bool) → word_by k p < 2 ^ k
unfolding word_by
word_by-lt zero p = omega arith
word_by-lt (suc k) p = bits_lt (p k) k (word_by k p) (word_by-lt k p)

lowest : (b : Bool) → is_bit (cond b 1 0) 0 ≡ b
lowest true = refl
lowest false = refl

bit_of-word_by : (k i : ℕ) (p : ℕ → Bool) → i < k → is_bit (word_by k p) i ≡ p i
unfolding word_by
bit_of-word_by zero i p lt = absurd (omega arith)
bit_of-word_by (suc k) i p lt =
    ⊎_elim (λ low. ap (λ b. nat_eq b 1) (bit_at_cat_low (cond (p k) 1 0) k (word_by k p) i low) ∙ bit_of-word_by k i p low)
    (λ high. let e : i ≡ k = omega arith in let z : i - k ≡ 0 = omega arith in
    ap (λ b. nat_eq b 1) (bit_at_cat_high (cond (p k) 1 0) k (word_by k p) i (word_by-lt k p) high)
    ∙ ap (λ j. is_bit (cond (p k) 1 0) j) z ∙ lowest (p k) ∙ ap p (sym e))
    (cases_lt i k)

-- what a word has
pub has-numbers : (n newest word : ℕ) → has n (numbers_of newest word) ≡ (nat_le n newest && (nat_lt (newest - n) 64 && is_bit word (newest - n)))
unfolding numbers_of
has-numbers n newest word = has-among n newest 64 (λ m. is_bit word (newest - m))

-- the greatest of a word's numbers is its newest
pub newest_back : (newest word : ℕ) → IsWord newest word → greatest (numbers_of newest word) ≡ newest
unfolding numbers_of
newest_back newest word h =
    ⊎_elim (λ e. let z : newest - newest ≡ 0 = omega arith in greatest-among newest 64 (λ m. is_bit word (newest - m)) (omega arith) (ap (λ i. is_bit word i) z ∙ e))
    (λ (e : (word ≡ 0) × (newest ≡ 0)). let le = greatest-among-le newest 64 (λ m. is_bit word (newest - m)) in let z = e.1 in omega arith) h.top

all_true : (i newest : ℕ) (b : Bool) → i ≤ newest → i < 64 → (nat_le i newest && (nat_le (newest - i) newest && (nat_lt i 64 && b))) ≡ b
all_true i newest b le lt = grind (arith, nat_tests)

first_false : (i newest : ℕ) (a b : Bool) → newest < i → b ≡ false → (nat_le i newest && a) ≡ b
first_false i newest a b lt e = ap (λ x. x && a) (lt-leb i newest lt) ∙ sym e

own_bit : (i newest word : ℕ) → i < 64 → IsWord newest word → (nat_le i newest && has (newest - i) (numbers_of newest word)) ≡ is_bit word i
own_bit i newest word lt h =
    ⊎_elim (λ above. first_false i newest _ (is_bit word i) above (h.below i lt above))
    (λ le. let e : newest - (newest - i) ≡ i = omega arith in
    ap (λ b. nat_le i newest && b) (has-numbers (newest - i) newest word)
    ∙ ap (λ j. nat_le i newest && (nat_le (newest - i) newest && (nat_lt j 64 && is_bit word j))) e
    ∙ all_true i newest (is_bit word i) le lt)
    (cases_lt newest i)

-- the bits of the word that has a word's numbers are its own
pub word_back : (newest word : ℕ) → IsWord newest word → word_of (numbers_of newest word) ≡ word
unfolding word_of
word_back newest word h =
    let numbers = numbers_of newest word in
    let test : ℕ → Bool = λ i. nat_le i (greatest numbers) && has (greatest numbers - i) numbers in
    same_from_bits_below 64 (word_by 64 test) word (word_by-lt 64 test) h.fits (λ i lt.
    same_bit _ _ (bit_at-lt (word_by 64 test) i) (bit_at-lt word i)
    (bit_of-word_by 64 i test lt ∙ ap (λ g. nat_le i g && has (g - i) numbers) (newest_back newest word h) ∙ own_bit i newest word lt h))
