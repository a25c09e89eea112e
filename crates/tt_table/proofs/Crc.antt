-- Eight bits of a register at once: the XOR of what is left of it and of what two halves of a byte leave.
use Rattle.std.proofs.Common.{◌≡◌, ℕ, zero, suc, ◌+◌, ◌*◌, ◌/◌, ◌%◌, ◌^◌, ◌-◌, ◌<◌, inl, inr, pow-suc, mul_assoc, List, map, get_or, cond, nat_eq, refl, sym, ap, ap₂, ◌∙◌, arith, bit_xor}
use Rattle.std.specs.Fn.{iterate}
use Rattle.std.specs.Int.{bit_at}
use Rattle.std.specs.List.{range_with_len}
use Rattle.std.specs.Int.Bits.{xor_self, xor_zero_r}
use Rattle.std.proofs.lemmas.Bool.{cases_lt}
use Rattle.std.proofs.lemmas.List.FromFn.{get_or-map-range_with_len}
use Rattle.std.proofs.lemmas.Nat.{xor_comm}
use Rattle.std.proofs.lemmas.Nat.Bits.{bit_at_lowest, bit_at-lt, bit_at-suc, bit_at-zero, bit_at_above, bit_at_cat_high, bit_at_cat_low, bit_at_xor, same_from_bits}
use Rattle.mesh_model.specs.Tables.Checksum.{after_bit, crc_polynomial}

pub xor_assoc : (a b c : ℕ) → bit_xor (bit_xor a b) c ≡ bit_xor a (bit_xor b c)
xor_assoc a b c = same_from_bits _ _ (λ i.
    let l = bit_at_xor (bit_xor a b) c i in let m = bit_at_xor a b i in
    let r = bit_at_xor a (bit_xor b c) i in let n = bit_at_xor b c i in omega (arith, l, m, r, n))

half_xor : (x y : ℕ) → bit_xor x y / 2 ≡ bit_xor (x / 2) (y / 2)
half_xor x y = same_from_bits _ _ (λ i.
    sym (bit_at-suc (bit_xor x y) i) ∙ bit_at_xor x y (suc i)
    ∙ ap₂ (λ p q. (p + q) % 2) (bit_at-suc x i) (bit_at-suc y i) ∙ sym (bit_at_xor (x / 2) (y / 2) i))

odd_xor : (x y : ℕ) → bit_xor x y % 2 ≡ (x % 2 + y % 2) % 2
odd_xor x y = let l = bit_at_lowest (bit_xor x y) in let m = bit_at_lowest x in let n = bit_at_lowest y in let e = bit_at_xor x y 0 in
    omega (arith, l, m, n, e)

-- XORs in another order
swapped : (a b p : ℕ) → bit_xor (bit_xor a b) p ≡ bit_xor (bit_xor a p) b
swapped a b p = xor_assoc a b p ∙ ap (bit_xor a) (xor_comm b p) ∙ sym (xor_assoc a p b)

twice : (a b p : ℕ) → bit_xor a b ≡ bit_xor (bit_xor a p) (bit_xor b p)
twice a b p = sym (ap (bit_xor (bit_xor a p)) (xor_comm b p) ∙ sym (xor_assoc (bit_xor a p) p b) ∙ ap (λ z. bit_xor z b) (xor_assoc a p p ∙ ap (bit_xor a) (xor_self p) ∙ xor_zero_r a))

-- a bit goes out of each part by itself
abbrev bit_out : ℕ → ℕ → ℕ → ℕ
bit_out p b x = cond (nat_eq b 1) (bit_xor x p) x

out_xor : (p m n x y : ℕ) → m < 2 → n < 2 → bit_out p ((m + n) % 2) (bit_xor x y) ≡ bit_xor (bit_out p m x) (bit_out p n y)
out_xor p zero zero x y a b = refl
out_xor p zero (suc zero) x y a b = xor_assoc x y p
out_xor p (suc zero) zero x y a b = swapped x y p
out_xor p (suc zero) (suc zero) x y a b = twice x y p
out_xor p (suc (suc m)) n x y a b = absurd (omega (arith, a))
out_xor p zero (suc (suc n)) x y a b = absurd (omega (arith, b))
out_xor p (suc zero) (suc (suc n)) x y a b = absurd (omega (arith, b))

pub after_xor : (x y : ℕ) → after_bit (bit_xor x y) ≡ bit_xor (after_bit x) (after_bit y)
after_xor x y =
    ap₂ (bit_out crc_polynomial) (odd_xor x y) (half_xor x y)
    ∙ out_xor crc_polynomial (x % 2) (y % 2) (x / 2) (y / 2) (omega arith) (omega arith)

bits_of_xor : (n x y : ℕ) → iterate after_bit n (bit_xor x y) ≡ bit_xor (iterate after_bit n x) (iterate after_bit n y)
bits_of_xor zero x y = refl
bits_of_xor (suc n) x y = ap (iterate after_bit n) (after_xor x y) ∙ bits_of_xor n (after_bit x) (after_bit y)

-- a number is the XOR of its high bits and its low ones
cat_xor : (a k b : ℕ) → b < 2 ^ k → bit_xor (a * 2 ^ k) b ≡ a * 2 ^ k + b
cat_xor a k b small = same_from_bits _ _ (λ i. elim (cases_lt i k) as (λ s. bit_at (bit_xor (a * 2 ^ k) b) i ≡ bit_at (a * 2 ^ k + b) i) [
  | inl low ↦
      let x = bit_at_xor (a * 2 ^ k) b i in let l = bit_at_cat_low a k b i low in let z = bit_at_cat_low a k 0 i low in
      let n = bit_at-zero i in let e : a * 2 ^ k + 0 ≡ a * 2 ^ k = omega arith in let f = ap (λ y. bit_at y i) e in let s = bit_at-lt b i in omega (arith, x, l, z, n, f, s)
  | inr high ↦
      let x = bit_at_xor (a * 2 ^ k) b i in let l = bit_at_cat_high a k b i small high in let z = bit_at_cat_high a k 0 i (omega (arith, small)) high in
      let n = bit_at_above b k i small high in let e : a * 2 ^ k + 0 ≡ a * 2 ^ k = omega arith in let f = ap (λ y. bit_at y i) e in let s = bit_at-lt a (i - k) in omega (arith, x, l, z, n, f, s)
])

even_out : (y z : ℕ) → y ≡ z * 2 → after_bit y ≡ z
even_out y z e =
    let even : y % 2 ≡ 0 = omega (arith, e) in let half : y / 2 ≡ z = omega (arith, e) in ap₂ (bit_out crc_polynomial) even half

zeros_out : (n q : ℕ) → iterate after_bit n (q * 2 ^ n) ≡ q
zeros_out zero q = omega arith
zeros_out (suc n) q =
    let p = pow-suc 2 n in
    ap (iterate after_bit n) (even_out (q * 2 ^ suc n) (q * 2 ^ n) (ap (λ y. q * y) p ∙ sym (mul_assoc q (2 ^ n) 2))) ∙ zeros_out n q

-- eight bits out of the register at once, by what the two halves of its lowest byte leave
pub eight_bits : (x : ℕ) → bit_xor (bit_xor (x / 256) (iterate after_bit 8 (x % 16))) (iterate after_bit 8 (x / 16 % 16 * 16)) ≡ iterate after_bit 8 x
eight_bits x =
    let q = x / 256 in let h = x / 16 % 16 in let l = x % 16 in
    let parts : bit_xor (q * 2 ^ 8) (bit_xor (h * 2 ^ 4) l) ≡ x =
    ap (bit_xor (q * 2 ^ 8)) (cat_xor h 4 l (omega arith)) ∙ cat_xor q 8 (h * 2 ^ 4 + l) (omega arith) ∙ omega arith in
    let high = iterate after_bit 8 (h * 16) in let low = iterate after_bit 8 l in
    xor_assoc q low high ∙ ap (bit_xor q) (xor_comm low high)
    ∙ ap (λ y. bit_xor y (bit_xor high low)) (sym (zeros_out 8 q))
    ∙ ap (bit_xor (iterate after_bit 8 (q * 2 ^ 8))) (sym (bits_of_xor 8 (h * 2 ^ 4) l))
    ∙ sym (bits_of_xor 8 (q * 2 ^ 8) (bit_xor (h * 2 ^ 4) l)) ∙ ap (iterate after_bit 8) parts

-- what the low halves of a byte leave, and what the high ones leave
abbrev low_halves : List ℕ
low_halves = map (iterate after_bit 8) (range_with_len 0 16)

abbrev high_halves : List ℕ
high_halves = map (λ n. iterate after_bit 8 (n * 16)) (range_with_len 0 16)

-- the same by two tables
pub by_tables : (x : ℕ) → bit_xor (bit_xor (x / 256) (get_or low_halves (x % 16) 0)) (get_or high_halves (x / 16 % 16) 0) ≡ iterate after_bit 8 x
by_tables x =
    ap₂ (λ l h. bit_xor (bit_xor (x / 256) l) h)
    (get_or-map-range_with_len (iterate after_bit 8) 0 16 (x % 16) (x % 16) 0 (omega arith) (omega arith))
    (get_or-map-range_with_len (λ n. iterate after_bit 8 (n * 16)) 0 16 (x / 16 % 16) (x / 16 % 16) 0 (omega arith) (omega arith))
    ∙ eight_bits x
