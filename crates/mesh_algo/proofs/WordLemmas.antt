-- How a word changes where a number is seen, and how many numbers it has.
use Rattle.std.proofs.Common.{◌≡◌, inl, ℕ, suc, zero, ◌+◌, ◌-◌, ◌*◌, ◌/◌, ◌%◌, ◌^◌, ◌<◌, ◌≤◌, max, nat_eq, nat_lt, nat_le, bit_and, bit_or, Bool, true, false, cond, ◌&&◌, ◌||◌, List, [], ◌∷◌, length, arith, refl, sym, ap, ap₂, ◌∙◌, ⊎_elim, Some, None, add-zero}
use Rattle.std.specs.Int.{bit_at, w64}
use Rattle.std.specs.Int.RustNames.{count_ones}
use Rattle.std.proofs.lemmas.Bool.{cases_Bool, cases_eq, cases_lt, le-leb, lt-leb, lt-ltb, le-ltb, ltb-false, eq-eqb, ne_eqb, true≢false}
use Rattle.std.proofs.lemmas.Bool.Decides.{nat_tests}
use Rattle.std.proofs.lemmas.Nat.{div-add-mod', mod-pow-add, mod_below, or_lt, ones_cat, pow_pos}
use Rattle.std.proofs.lemmas.Nat.Bits.{bit_at-lt, bit_at-zero, bit_at-pow_other, bit_at_cat_low, bit_at_cat_high, bit_at_or, bit_at_set_same, bit_at_set_other, shr_and_one}
use Rattle.mesh_model.specs.Routes.Numbers.{has, greatest, among, seen_among, window, window_length}
use Rattle.mesh_laws.proofs.WindowLemmas.{among-agree}
use Rattle.mesh_algo.specs.Words.{is_bit, numbers_of, newest_of, shifted_word, IsWord}
use Rattle.mesh_algo.specs.WordBack.{has-numbers, newest_back}

-- ---- bits
max_bit : (x y : ℕ) → x < 2 → y < 2 → nat_eq (max x y) 1 ≡ (nat_eq x 1 || nat_eq y 1)
max_bit x y l m = grind (arith, nat_tests)

or_bit : (a b i : ℕ) → is_bit (bit_or a b) i ≡ (is_bit a i || is_bit b i)
or_bit a b i = ap (λ x. nat_eq x 1) (bit_at_or a b i) ∙ max_bit (bit_at a i) (bit_at b i) (bit_at-lt a i) (bit_at-lt b i)

one_bit : (i : ℕ) → is_bit 1 i ≡ nat_eq i 0
one_bit i =
    ⊎_elim (λ e. ap (λ j. is_bit 1 j) e ∙ sym (eq-eqb i 0 e)) (λ n. ap (λ b. nat_eq b 1) (bit_at-pow_other 0 i n) ∙ sym (ne_eqb i 0 n)) (cases_eq i 0)

mod_bit : (x i : ℕ) → i < 64 → is_bit (x % 2 ^ 64) i ≡ is_bit x i
mod_bit x i lt = ap (λ b. nat_eq b 1) (sym (bit_at_cat_low (x / 2 ^ 64) 64 (x % 2 ^ 64) i lt)) ∙ ap (λ y. is_bit y i) (div-add-mod' x (2 ^ 64))

zero_bit : (i : ℕ) → is_bit 0 i ≡ false
zero_bit i = ap (λ b. nat_eq b 1) (bit_at-zero i)

shl_bit : (word by i : ℕ) → is_bit (word * 2 ^ by) i ≡ (nat_le by i && is_bit word (i - by))
shl_bit word by i =
    ap (λ x. is_bit x i) (sym (add-zero (word * 2 ^ by)))
    ∙ ⊎_elim (λ low. ap (λ b. nat_eq b 1) (bit_at_cat_low word by 0 i low) ∙ zero_bit i ∙ sym (ap (λ b. b && is_bit word (i - by)) (lt-leb by i low)))
    (λ high. ap (λ b. nat_eq b 1) (bit_at_cat_high word by 0 i (pow_pos by) high) ∙ sym (ap (λ b. b && is_bit word (i - by)) (le-leb by i high)))
    (cases_lt i by)

shifted_bit : (word by i : ℕ) → i < 64 → is_bit (shifted_word word by) i ≡ (nat_le by i && is_bit word (i - by))
shifted_bit word by i lt =
    ⊎_elim (λ e. ap (λ b. is_bit (cond b (word * 2 ^ by % 2 ^ 64) 0) i) e ∙ mod_bit (word * 2 ^ by) i lt ∙ shl_bit word by i)
    (λ e. ap (λ b. is_bit (cond b (word * 2 ^ by % 2 ^ 64) 0) i) e ∙ zero_bit i
    ∙ (let far = ltb-false by 64 e in let above : i < by = omega arith in sym (ap (λ b. b && is_bit word (i - by)) (lt-leb by i above))))
    (cases_Bool (nat_lt by 64))

pub shifted_fits : (word by : ℕ) → shifted_word word by < 2 ^ 64
shifted_fits word by =
    elim (nat_lt by 64) as (λ b. cond b (word * 2 ^ by % 2 ^ 64) 0 < 2 ^ 64) [ true ↦ mod_below (word * 2 ^ by) (2 ^ 64) (omega arith) | false ↦ omega arith ]

set_bit : (word k i : ℕ) → k < 64 → is_bit (bit_or word (1 * 2 ^ k % 2 ^ 64)) i ≡ (nat_eq i k || is_bit word i)
set_bit word k i lt =
    ⊎_elim (λ e. ap (λ j. is_bit (bit_or word (1 * 2 ^ k % 2 ^ 64)) j) e ∙ ap (λ b. nat_eq b 1) (bit_at_set_same w64 word k lt) ∙ sym (ap (λ b. b || is_bit word i) (eq-eqb i k e)))
    (λ n. ap (λ b. nat_eq b 1) (bit_at_set_other w64 word k lt i n) ∙ sym (ap (λ b. b || is_bit word i) (ne_eqb i k n)))
    (cases_eq i k)

-- ---- a number that is seen
-- a word whose bits say what was seen has the window of it
from_bits : (newest word : ℕ) (seen : List ℕ) → greatest seen ≡ newest → ((n : ℕ) → n ≤ newest → newest - n < 64 → is_bit word (newest - n) ≡ has n seen) → numbers_of newest word ≡ window seen
unfolding numbers_of window
from_bits newest word seen top bits =
    among-agree newest 64 (λ n. is_bit word (newest - n)) (λ n. has n seen) bits ∙ ap (λ g. among g 64 (λ n. has n seen)) (sym top)

above_tests : (s newest n : ℕ) (b : Bool) → newest < s → n ≤ s → s - n < 64
    → ((nat_le (s - newest) (s - n) && b) || nat_eq (s - n) 0) ≡ (nat_eq n s || (nat_le n newest && (nat_lt (newest - n) 64 && b)))
above_tests s newest n b above low lt = grind (arith, nat_tests)

-- a number above the newest
pub see_above : (newest word s : ℕ) → IsWord newest word → newest < s → numbers_of s (bit_or (shifted_word word (s - newest)) 1) ≡ window (s ∷ numbers_of newest word)
see_above newest word s h above =
    from_bits s _ (s ∷ numbers_of newest word) (let g = newest_back newest word h in omega arith) (λ n low lt.
    let e : s - n - (s - newest) ≡ newest - n = omega arith in
    or_bit (shifted_word word (s - newest)) 1 (s - n)
    ∙ ap₂ (λ a b. a || b) (shifted_bit word (s - newest) (s - n) lt ∙ ap (λ i. nat_le (s - newest) (s - n) && is_bit word i) e) (one_bit (s - n))
    ∙ above_tests s newest n (is_bit word (newest - n)) above low lt
    ∙ sym (ap (λ b. nat_eq n s || b) (has-numbers n newest word)))

or_true : (a : Bool) → (a || true) ≡ true
or_true true = refl
or_true false = refl

and_false : (a : Bool) → (a && false) ≡ false
and_false true = refl
and_false false = refl

shifted_below : (newest word s i : ℕ) → IsWord newest word → newest ≤ s → i < 64 → s < i → is_bit (shifted_word word (s - newest)) i ≡ false
shifted_below newest word s i h le lt above =
    shifted_bit word (s - newest) i lt ∙ ap (λ b. nat_le (s - newest) i && b) (h.below (i - (s - newest)) (omega arith) (omega arith)) ∙ and_false _

pub word_above : (newest word s : ℕ) → IsWord newest word → newest < s → IsWord s (bit_or (shifted_word word (s - newest)) 1)
word_above newest word s h above = record {
  top = inl (or_bit (shifted_word word (s - newest)) 1 0 ∙ or_true _);
  below = λ i lt gt. or_bit (shifted_word word (s - newest)) 1 i
      ∙ ap₂ (λ a b. a || b) (shifted_below newest word s i h (omega arith) lt gt) (one_bit i ∙ ne_eqb i 0 (λ e. omega arith));
  fits = or_lt 64 _ 1 (shifted_fits word (s - newest)) (omega arith);
}

near_tests : (s newest n : ℕ) (b : Bool) → s ≤ newest → newest - s < 64 → n ≤ newest → newest - n < 64
    → (nat_eq (newest - n) (newest - s) || b) ≡ (nat_eq n s || (nat_le n newest && (nat_lt (newest - n) 64 && b)))
near_tests s newest n b le near low lt = grind (arith, nat_tests)

-- a number not far below the newest
pub see_near : (newest word s : ℕ) → IsWord newest word → s ≤ newest → newest - s < 64 → numbers_of newest (bit_or word (1 * 2 ^ (newest - s) % 2 ^ 64)) ≡ window (s ∷ numbers_of newest word)
see_near newest word s h le near =
    from_bits newest _ (s ∷ numbers_of newest word) (let g = newest_back newest word h in omega arith) (λ n low lt.
    set_bit word (newest - s) (newest - n) near ∙ near_tests s newest n (is_bit word (newest - n)) le near low lt
    ∙ sym (ap (λ b. nat_eq n s || b) (has-numbers n newest word)))

pub word_near : (newest word s : ℕ) → IsWord newest word → s ≤ newest → newest - s < 64 → IsWord newest (bit_or word (1 * 2 ^ (newest - s) % 2 ^ 64))
word_near newest word s h le near = record {
  top = inl (set_bit word (newest - s) 0 near ∙ ⊎_elim (λ e. ap (λ b. nat_eq 0 (newest - s) || b) e ∙ or_true _)
      (λ (e : (word ≡ 0) × (newest ≡ 0)). let z : 0 ≡ newest - s = (let z = e.1 in omega arith) in ap (λ b. b || is_bit word 0) (eq-eqb 0 (newest - s) z)) h.top);
  below = λ i lt gt. set_bit word (newest - s) i near ∙ ap₂ (λ a b. a || b) (ne_eqb i (newest - s) (λ e. omega arith)) (h.below i lt gt);
  fits = or_lt 64 word _ h.fits (mod_below (1 * 2 ^ (newest - s)) (2 ^ 64) (omega arith));
}

far_tests : (s newest n : ℕ) (b : Bool) → 64 ≤ newest - s → n ≤ newest → newest - n < 64 → b ≡ (nat_eq n s || (nat_le n newest && (nat_lt (newest - n) 64 && b)))
far_tests s newest n b far low lt = grind (arith, nat_tests)

-- a number far below the newest
pub see_far : (newest word s : ℕ) → IsWord newest word → 64 ≤ newest - s → numbers_of newest word ≡ window (s ∷ numbers_of newest word)
see_far newest word s h far =
    from_bits newest _ (s ∷ numbers_of newest word) (let g = newest_back newest word h in omega arith) (λ n low lt.
    far_tests s newest n (is_bit word (newest - n)) far low lt ∙ sym (ap (λ b. nat_eq n s || b) (has-numbers n newest word)))

-- ---- how many numbers
one_more : (b : Bool) (x n : ℕ) (rest : List ℕ) → length rest ≡ n → length (cond b (x ∷ rest) rest) ≡ cond b 1 0 + n
one_more true x n rest e = omega (arith, e)
one_more false x n rest e = omega (arith, e)

ones_of_bit : (b : ℕ) → b < 2 → count_ones b ≡ cond (nat_eq b 1) 1 0
unfolding count_ones
ones_of_bit b lt =
    ⊎_elim (λ (e : b ≡ 0). ap (λ x. count_ones x) e ∙ sym (ap (λ x. cond (nat_eq x 1) 1 0) e))
    (λ n. let e : b ≡ 1 = omega arith in ap (λ x. count_ones x) e ∙ sym (ap (λ x. cond (nat_eq x 1) 1 0) e)) (cases_eq b 0)

next_bit : (top word k : ℕ) → (top < k → is_bit word k ≡ false) → (nat_le k top && is_bit word (top - (top - k))) ≡ is_bit word k
next_bit top word k below =
    ⊎_elim (λ above. ap (λ b. b && is_bit word (top - (top - k))) (lt-leb k top above) ∙ sym (below above))
    (λ le. let e : top - (top - k) ≡ k = omega arith in ap (λ b. b && is_bit word (top - (top - k))) (le-leb k top le) ∙ ap (λ i. is_bit word i) e)
    (cases_lt top k)

more_ones : (word k : ℕ) → count_ones (word % 2 ^ suc k) ≡ cond (is_bit word k) 1 0 + count_ones (word % 2 ^ k)
more_ones word k =
    let e : suc k ≡ 1 + k = omega arith in
    ap (λ j. count_ones (word % 2 ^ j)) e ∙ ap (λ x. count_ones x) (mod-pow-add word 1 k)
    ∙ ones_cat k (word / 2 ^ k % 2) (word % 2 ^ k) (mod_below word (2 ^ k) (pow_pos k))
    ∙ ap (λ n. n + count_ones (word % 2 ^ k)) (ones_of_bit (bit_at word k) (bit_at-lt word k))

count_among : (top word k : ℕ) → ((i : ℕ) → i < k → top < i → is_bit word i ≡ false) → length (among top k (λ n. is_bit word (top - n))) ≡ count_ones (word % 2 ^ k)
unfolding among count_ones
count_among top word zero below = let z : word % 1 ≡ 0 = omega arith in sym (ap (λ x. count_ones x) z)
count_among top word (suc k) below =
    one_more _ (top - k) _ (among top k (λ n. is_bit word (top - n))) (count_among top word k (λ i lt gt. below i (omega arith) gt))
    ∙ ap (λ b. cond b 1 0 + count_ones (word % 2 ^ k)) (next_bit top word k (below k (omega arith)))
    ∙ sym (more_ones word k)

count_word : (top word : ℕ) → word < 2 ^ 64 → ((i : ℕ) → i < 64 → top < i → is_bit word i ≡ false) → count_ones word ≡ length (among top 64 (λ n. is_bit word (top - n)))
count_word top word fits below =
    let e : word % 2 ^ 64 ≡ word = omega arith in
    sym (count_among top word 64 below ∙ ap (λ x. count_ones x) e)

-- the bits of a word are as many as its numbers
pub count_numbers : (newest word : ℕ) → IsWord newest word → count_ones word ≡ length (numbers_of newest word)
unfolding numbers_of
count_numbers newest word h = count_word newest word h.fits h.below

top_tests : (newest top n : ℕ) (b : Bool) → newest ≤ top → n ≤ top → top - n < 64
    → (nat_le (top - newest) (top - n) && b) ≡ (nat_le n newest && (nat_lt (newest - n) 64 && b))
top_tests newest top n b le low lt = grind (arith, nat_tests)

count_from : (newest word top : ℕ) → IsWord newest word → newest ≤ top → count_ones (shifted_word word (top - newest)) ≡ length (seen_among top window_length (numbers_of newest word))
count_from newest word top h le =
    count_word top (shifted_word word (top - newest)) (shifted_fits word (top - newest)) (λ i lt gt. shifted_below newest word top i h le lt gt)
    ∙ ap (λ l. length l) (among-agree top 64 (λ n. is_bit (shifted_word word (top - newest)) (top - n)) (λ n. has n (numbers_of newest word)) (λ n low lt.
    let e : top - n - (top - newest) ≡ newest - n = omega arith in
    shifted_bit word (top - newest) (top - n) lt ∙ ap (λ i. nat_le (top - newest) (top - n) && is_bit word i) e
    ∙ top_tests newest top n (is_bit word (newest - n)) le low lt ∙ sym (has-numbers n newest word)))

-- the last numbers up to a top are those of a shifted word
pub count_shifted : (newest word top : ℕ) → IsWord newest word
    → count_ones (shifted_word word (top - newest)) ≡ length (seen_among (max top (greatest (numbers_of newest word))) window_length (numbers_of newest word))
count_shifted newest word top h =
    let g = newest_back newest word h in
    let d : top - newest ≡ max top newest - newest = omega arith in
    ap (λ by. count_ones (shifted_word word by)) d ∙ count_from newest word (max top newest) h (omega arith)
    ∙ ap (λ n. length (seen_among (max top n) window_length (numbers_of newest word))) (sym g)

-- ---- a number that is looked up
pub has_near : (newest word s : ℕ) → s ≤ newest → newest - s < 64 → nat_eq (bit_and (word / 2 ^ (newest - s)) 1) 1 ≡ has s (numbers_of newest word)
has_near newest word s le near =
    ap (λ b. nat_eq b 1) (shr_and_one word (newest - s))
    ∙ sym (has-numbers s newest word ∙ ap₂ (λ a b. a && (b && is_bit word (newest - s))) (le-leb s newest le) (lt-ltb (newest - s) 64 near))

pub has_far : (newest word s : ℕ) → 64 ≤ newest - s → false ≡ has s (numbers_of newest word)
has_far newest word s far =
    sym (has-numbers s newest word ∙ ap (λ a. nat_le s newest && (a && is_bit word (newest - s))) (le-ltb (newest - s) 64 far) ∙ and_false _)

pub has_above : (newest word s : ℕ) → newest < s → false ≡ has s (numbers_of newest word)
has_above newest word s above =
    sym (has-numbers s newest word ∙ ap (λ a. a && (nat_lt (newest - s) 64 && is_bit word (newest - s))) (lt-leb s newest above))

-- ---- the newest number
none_seen : numbers_of 0 0 ≡ []
unfolding numbers_of among
none_seen = refl

newest_of_some : (n : ℕ) (seen : List ℕ) → has n seen ≡ true → newest_of seen ≡ Some (greatest seen)
newest_of_some n [] h = absurd (true≢false (sym h))
newest_of_some n (m ∷ seen) h = refl

top_is_seen : (newest word : ℕ) → is_bit word 0 ≡ true → has newest (numbers_of newest word) ≡ true
top_is_seen newest word e =
    let z : newest - newest ≡ 0 = omega arith in
    sym (has_near newest word newest (omega arith) (omega arith)) ∙ ap (λ b. nat_eq b 1) (shr_and_one word (newest - newest)) ∙ ap (λ i. is_bit word i) z ∙ e

zero_or_bit : (newest word : ℕ) → IsWord newest word → newest_of (numbers_of newest word) ≡ cond (nat_eq word 0) None (Some newest)
zero_or_bit newest word h =
    ⊎_elim (λ e. let filled : word ≡ 0 → ⊥ = λ z. true≢false (sym e ∙ ap (λ w. is_bit w 0) z) in
    newest_of_some newest (numbers_of newest word) (top_is_seen newest word e) ∙ ap (λ n. Some n) (newest_back newest word h)
    ∙ sym (ap (λ b. cond b None (Some newest)) (ne_eqb word 0 filled)))
    (λ (e : (word ≡ 0) × (newest ≡ 0)). ap₂ (λ n w. newest_of (numbers_of n w)) e.1 e.0 ∙ ap (λ l. newest_of l) none_seen
    ∙ sym (ap (λ b. cond b None (Some newest)) (eq-eqb word 0 e.0))) h.top

pub no_numbers : numbers_of 0 0 ≡ []
no_numbers = none_seen

pub newest_where_zero : (newest word : ℕ) → IsWord newest word → word ≡ 0 → None ≡ newest_of (numbers_of newest word)
newest_where_zero newest word h e = sym (zero_or_bit newest word h ∙ ap (λ b. cond b None (Some newest)) (eq-eqb word 0 e))

pub newest_where_filled : (newest word : ℕ) → IsWord newest word → (word ≡ 0 → ⊥) → Some newest ≡ newest_of (numbers_of newest word)
newest_where_filled newest word h n = sym (zero_or_bit newest word h ∙ ap (λ b. cond b None (Some newest)) (ne_eqb word 0 n))
