-- Two numbers below 2 ^ 48 stand to one another as their six bytes, the highest first.
use Rattle.std.proofs.Common.{◌≡◌, ⊎_elim, ℕ, ◌+◌, ◌*◌, ◌/◌, ◌%◌, ◌<◌, ◌==◌, ◌^◌, nat_cmp, cond, get_or, List, ◌∷◌, drop, Ordering, Less, Equal, Greater, arith, refl, sym, ap, ap₂, ◌∙◌}
use Rattle.std.specs.Int.{to_be_bytes, w64}
use Rattle.std.specs.Cmp.Lexicographic.{slice_cmp}
use Rattle.std.specs.Ordering.{ordering_then}
use Rattle.std.proofs.lemmas.Bool.{cases_order, eq-eqb, le-ltb, lt-ltb, ne_eqb}
use native.Mathlib.Nat as nat

less : (x y : ℕ) → x < y → nat_cmp x y ≡ Less
less x y l = ap (λ b. cond b Less (cond (x == y) Equal Greater)) (lt-ltb x y l)

equal : (x y : ℕ) → x ≡ y → nat_cmp x y ≡ Equal
equal x y e = ap (λ b. cond b Less (cond (x == y) Equal Greater)) (le-ltb x y (omega (arith, e))) ∙ ap (λ b. cond b Equal Greater) (eq-eqb x y e)

more : (x y : ℕ) → y < x → nat_cmp x y ≡ Greater
more x y g = ap (λ b. cond b Less (cond (x == y) Equal Greater)) (le-ltb x y (omega (arith, g))) ∙ ap (λ b. cond b Equal Greater) (ne_eqb x y (λ e. omega (arith, e, g)))

-- what is above the lowest byte decides, and then the lowest byte
step : (m n q s r t : ℕ) → m ≡ q * 256 + r → n ≡ s * 256 + t → r < 256 → t < 256 → nat_cmp m n ≡ ordering_then (nat_cmp q s) (nat_cmp r t)
step m n q s r t is_m is_n low_r low_t =
    ⊎_elim
    (λ e. ⊎_elim
    (λ f. equal m n (omega (arith, e, f)) ∙ sym (ap₂ (λ x y. ordering_then x y) (equal q s e) (equal r t f)))
    (λ o. ⊎_elim
    (λ l. less m n (omega (arith, e, l)) ∙ sym (ap₂ (λ x y. ordering_then x y) (equal q s e) (less r t l)))
    (λ g. more m n (omega (arith, e, g)) ∙ sym (ap₂ (λ x y. ordering_then x y) (equal q s e) (more r t g))) o)
    (cases_order r t))
    (λ o. ⊎_elim
    (λ l. less m n (omega (arith, l)) ∙ sym (ap (λ x. ordering_then x (nat_cmp r t)) (less q s l)))
    (λ g. more m n (omega (arith, g)) ∙ sym (ap (λ x. ordering_then x (nat_cmp r t)) (more q s g))) o)
    (cases_order q s)

split : (n p : ℕ) → n / p ≡ n / (p * 256) * 256 + n / p % 256
split n p = omega (arith, nat.div-div-eq-div-mul n p 256)

step_at : (p m n : ℕ) → nat_cmp (m / p) (n / p) ≡ ordering_then (nat_cmp (m / (p * 256)) (n / (p * 256))) (nat_cmp (m / p % 256) (n / p % 256))
step_at p m n = step (m / p) (n / p) (m / (p * 256)) (n / (p * 256)) (m / p % 256) (n / p % 256) (split m p) (split n p) (omega arith) (omega arith)

joined : (a b c d e f : Ordering) → ordering_then (ordering_then (ordering_then (ordering_then (ordering_then a b) c) d) e) f
    ≡ ordering_then a (ordering_then b (ordering_then c (ordering_then d (ordering_then e (ordering_then f Equal)))))
joined Less b c d e f = refl
joined Greater b c d e f = refl
joined Equal Less c d e f = refl
joined Equal Greater c d e f = refl
joined Equal Equal Less d e f = refl
joined Equal Equal Greater d e f = refl
joined Equal Equal Equal Less e f = refl
joined Equal Equal Equal Greater e f = refl
joined Equal Equal Equal Equal Less f = refl
joined Equal Equal Equal Equal Greater f = refl
joined Equal Equal Equal Equal Equal Less = refl
joined Equal Equal Equal Equal Equal Equal = refl
joined Equal Equal Equal Equal Equal Greater = refl

-- numbers below 2 ^ 48 stand as their bytes
by_bytes : (m n : ℕ) → m < 281474976710656 → n < 281474976710656 → nat_cmp m n ≡ slice_cmp nat_cmp (drop 2 (to_be_bytes w64 m)) (drop 2 (to_be_bytes w64 n))
by_bytes m n fits_m fits_n =
    let a = nat_cmp (m / 1099511627776 % 256) (n / 1099511627776 % 256) in
    let b = nat_cmp (m / 4294967296 % 256) (n / 4294967296 % 256) in
    let c = nat_cmp (m / 16777216 % 256) (n / 16777216 % 256) in
    let d = nat_cmp (m / 65536 % 256) (n / 65536 % 256) in
    let e = nat_cmp (m / 256 % 256) (n / 256 % 256) in
    let f = nat_cmp (m % 256) (n % 256) in
    let high_m : m / 1099511627776 ≡ m / 1099511627776 % 256 = omega arith in
    let high_n : n / 1099511627776 ≡ n / 1099511627776 % 256 = omega arith in
    step m n (m / 256) (n / 256) (m % 256) (n % 256) (omega arith) (omega arith) (omega arith) (omega arith)
    ∙ ap (λ o. ordering_then o f) (step_at 256 m n
    ∙ ap (λ o. ordering_then o e) (step_at 65536 m n
    ∙ ap (λ o. ordering_then o d) (step_at 16777216 m n
    ∙ ap (λ o. ordering_then o c) (step_at 4294967296 m n
    ∙ ap (λ o. ordering_then o b) (ap₂ nat_cmp high_m high_n)))))
    ∙ joined a b c d e f

-- two numbers stand to one another as the bytes that they have
pub words_ordered : (a b : List ℕ) (m n : ℕ) → m < 2 ^ 64 → n < 2 ^ 64 → to_be_bytes w64 m ≡ 0 ∷ 0 ∷ a → to_be_bytes w64 n ≡ 0 ∷ 0 ∷ b → nat_cmp m n ≡ slice_cmp nat_cmp a b
words_ordered a b m n in_m in_n has_m has_n =
    let m_1 : m / 72057594037927936 % 256 ≡ 0 = ap (λ l. get_or l 0 0) has_m in
    let m_2 : m / 281474976710656 % 256 ≡ 0 = ap (λ l. get_or l 1 0) has_m in
    let n_1 : n / 72057594037927936 % 256 ≡ 0 = ap (λ l. get_or l 0 0) has_n in
    let n_2 : n / 281474976710656 % 256 ≡ 0 = ap (λ l. get_or l 1 0) has_n in
    by_bytes m n (omega arith) (omega arith)
    ∙ ap₂ (λ x y. slice_cmp nat_cmp x y) (ap (drop 2) has_m) (ap (drop 2) has_n)
