-- Six bytes are one number, and the number tells them.
use Rattle.std.specs.Prelude.{zero, suc}
use Rattle.std.proofs.Common.{◌≡◌, ℕ, ◌<◌, ◌*◌, ◌+◌, length, nat_eq, Bool, true, false, ◌&&◌, List, [], ◌∷◌, ◌++◌, drop, take, get_or, arith, refl, sym, subst, ap, ap₂, ◌∙◌}
use Rattle.std.specs.Int.{from_be_bytes, to_be_bytes, w16, w32, w64}
use Rattle.std.specs.Cmp.Lexicographic.{pointwise}
use Rattle.std.proofs.lemmas.List.{get_or_past, take-append-drop}
use Rattle.std.proofs.lemmas.Nat.{be_bytes_8}
use Rattle.std.proofs.lemmas.Bool.{eqb-true, eq-eqb, false≢true}

-- the number of six bytes
abbrev word : List ℕ → ℕ
word bytes = from_be_bytes w64 (0 ∷ 0 ∷ bytes)

small : (bytes : List ℕ) → length bytes ≡ 6 → get_or bytes 0 0 < 256 → get_or bytes 1 0 < 256 → get_or bytes 2 0 < 256 → get_or bytes 3 0 < 256 → get_or bytes 4 0 < 256 → get_or bytes 5 0 < 256 → (i : ℕ) → get_or (0 ∷ 0 ∷ bytes) i 0 < 256
small bytes six a b c d e f zero = omega arith
small bytes six a b c d e f (suc zero) = omega arith
small bytes six a b c d e f (suc (suc zero)) = a
small bytes six a b c d e f (suc (suc (suc zero))) = b
small bytes six a b c d e f (suc (suc (suc (suc zero)))) = c
small bytes six a b c d e f (suc (suc (suc (suc (suc zero))))) = d
small bytes six a b c d e f (suc (suc (suc (suc (suc (suc zero)))))) = e
small bytes six a b c d e f (suc (suc (suc (suc (suc (suc (suc zero))))))) = f
small bytes six a b c d e f (suc (suc (suc (suc (suc (suc (suc (suc i)))))))) =
    subst (λ n. n < 256) (sym (get_or_past bytes (suc (suc (suc (suc (suc (suc i)))))) 0 (omega (arith, six)))) (omega arith)

-- the number of six bytes has them
pub bytes_back : (bytes : List ℕ) (n : ℕ) → length bytes ≡ 6 → get_or bytes 0 0 < 256 → get_or bytes 1 0 < 256 → get_or bytes 2 0 < 256 → get_or bytes 3 0 < 256 → get_or bytes 4 0 < 256 → get_or bytes 5 0 < 256 → n ≡ word bytes → to_be_bytes w64 n ≡ 0 ∷ 0 ∷ bytes
bytes_back bytes n six a b c d e f is = be_bytes_8 (0 ∷ 0 ∷ bytes) n (omega (arith, six)) (small bytes six a b c d e f) is

-- the number is that of the first four, with that of the last two behind it
pub word_of_two : (bytes : List ℕ) → length bytes ≡ 6 → from_be_bytes w32 (take 4 bytes) * 65536 + from_be_bytes w16 (drop 4 bytes) ≡ word bytes
word_of_two (a ∷ b ∷ c ∷ d ∷ e ∷ f ∷ []) six = omega arith
word_of_two [] six = omega (arith, six)
word_of_two (a ∷ []) six = omega (arith, six)
word_of_two (a ∷ b ∷ []) six = omega (arith, six)
word_of_two (a ∷ b ∷ c ∷ []) six = omega (arith, six)
word_of_two (a ∷ b ∷ c ∷ d ∷ []) six = omega (arith, six)
word_of_two (a ∷ b ∷ c ∷ d ∷ e ∷ []) six = omega (arith, six)
word_of_two (a ∷ b ∷ c ∷ d ∷ e ∷ f ∷ g ∷ rest) six = omega (arith, six)

same_self : (a : List ℕ) → pointwise nat_eq a a ≡ true
same_self [] = refl
same_self (x ∷ xs) = ap₂ (λ p q. p && q) (eq-eqb x x refl) (same_self xs)

both : (p q : Bool) → (p && q) ≡ true → (p ≡ true) × (q ≡ true)
both true q t = (refl, t)
both false q t = absurd (false≢true t)

equal : (a b : List ℕ) → pointwise nat_eq a b ≡ true → a ≡ b
equal [] [] t = refl
equal [] (y ∷ ys) t = absurd (false≢true t)
equal (x ∷ xs) [] t = absurd (false≢true t)
equal (x ∷ xs) (y ∷ ys) t =
    let p = both (nat_eq x y) (pointwise nat_eq xs ys) t in
    ap₂ (λ z zs. z ∷ zs) (eqb-true x y p.0) (equal xs ys p.1)

same_tests : (p q : Bool) → (p ≡ true → q ≡ true) → (q ≡ true → p ≡ true) → p ≡ q
same_tests true true f g = refl
same_tests true false f g = sym (f refl)
same_tests false true f g = g refl
same_tests false false f g = refl

-- of two that agree in the last two bytes, the first four tell whether they are equal
pub heads_agree : (a b : List ℕ) (m n : ℕ) → m ≡ from_be_bytes w32 (take 4 a) → n ≡ from_be_bytes w32 (take 4 b) → to_be_bytes w32 m ≡ take 4 a → to_be_bytes w32 n ≡ take 4 b → drop 4 a ≡ drop 4 b
    → nat_eq m n ≡ pointwise nat_eq a b
heads_agree a b m n is_m is_n has_m has_n tails =
    same_tests (nat_eq m n) (pointwise nat_eq a b)
    (λ t.
    let heads : take 4 a ≡ take 4 b = sym has_m ∙ ap (to_be_bytes w32) (eqb-true m n t) ∙ has_n in
    let same : a ≡ b = sym (take-append-drop 4 a) ∙ ap₂ (λ x y. x ++ y) heads tails ∙ take-append-drop 4 b in
    ap (λ c. pointwise nat_eq a c) (sym same) ∙ same_self a)
    (λ t. eq-eqb m n (is_m ∙ ap (λ c. from_be_bytes w32 (take 4 c)) (equal a b t) ∙ sym is_n))
