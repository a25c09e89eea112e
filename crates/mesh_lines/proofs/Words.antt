-- Bytes that stand in no word of a line, and the words of numbers, addresses and bytes in hex.
use Rattle.std.proofs.Common.{append_assoc, append-nil, ◌≡◌, ℕ, zero, suc, ◌+◌, ◌/◌, ◌%◌, ◌<◌, ◌≤◌, ◌&&◌, Bool, true, false, cond, List, [], ◌∷◌, ◌++◌, get_or, Some, None, refl, sym, ap, ap₂, ◌∙◌, arith, append_assoc, append-nil, ◌^◌, ◌⊎◌, inl, inr}
use Rattle.std.specs.Prelude.{◌==◌, decimal, slice_index}
use Rattle.std.specs.Fmt.{digits, digits_onto, digit_glyph}
use Rattle.std.proofs.lemmas.Bool.{lt-ltb, ne_eqb}
use Rattle.std.proofs.lemmas.Bool.{cases_lt, false≢true}
use Rattle.std.proofs.lemmas.List.{get_or_past}
use Rattle.hex.proofs.HexLemmas.{IsDigits-lower_digits}
use Rattle.hex.specs.Hex.{encode_with, encode_lower, lower_digits, hex_digit_value}
use Rattle.mesh_base.specs.Address.{hex_of_byte, pairs_text, mac_text, colon}
use Rattle.mesh_base.specs.declared.address.Mac.{Mac}
use Rattle.mesh_lines.specs.LineWords.{IsWord, is_plain}
use Rattle.mesh_lines.specs.TableText.{AreBytes}

-- whether every byte is such
abbrev pub is_word : List ℕ → Bool
is_word [] = true
is_word (b ∷ bs) = is_plain b && is_word bs

and_left_true : (a b : Bool) → (a && b) ≡ true → a ≡ true
and_left_true true b e = refl
and_left_true false b e = e

and_right_true : (a b : Bool) → (a && b) ≡ true → b ≡ true
and_right_true true b e = e
and_right_true false true e = refl
and_right_true false false e = e

pub word_if : (bs : List ℕ) → is_word bs ≡ true → IsWord bs
word_if [] e = tt
word_if (b ∷ bs) e = (and_left_true (is_plain b) (is_word bs) e, word_if bs (and_right_true (is_plain b) (is_word bs) e))

pub word_both : (a b : List ℕ) → IsWord a → IsWord b → IsWord (a ++ b)
word_both [] b p q = q
word_both (x ∷ a) b p q = (p.0, word_both a b p.1 q)

-- ---- numbers
pub plain_at : (b : ℕ) → (b ≡ 10 → ⊥) → (b ≡ 32 → ⊥) → (b ≡ 62 → ⊥) → is_plain b ≡ true
plain_at b p q r = rw (ne_eqb b 10 p, ne_eqb b 32 q, ne_eqb b 62 r) refl

glyph_is : (d : ℕ) → d < 10 → digit_glyph false d ≡ 48 + d
glyph_is d low = rw (lt-ltb d 10 low) refl

glyph_plain : (d : ℕ) → d < 10 → is_plain (digit_glyph false d) ≡ true
glyph_plain d low = rw (glyph_is d low) (plain_at (48 + d) (λ e. omega (arith, e, low)) (λ e. omega (arith, e, low)) (λ e. omega (arith, e, low)))

pub either_word : (b : Bool) (x y : List ℕ) → IsWord x → IsWord y → IsWord (cond b x y)
either_word true x y p q = p
either_word false x y p q = q

digits_word : (fuel n : ℕ) (acc : List ℕ) → IsWord acc → IsWord (digits_onto fuel 10 false n acc)
digits_word zero n acc w = w
digits_word (suc fuel) n acc w =
    let more : IsWord (digit_glyph false (n % 10) ∷ acc) = (glyph_plain (n % 10) (omega arith), w) in
    either_word (n / 10 == 0) (digit_glyph false (n % 10) ∷ acc) (digits_onto fuel 10 false (n / 10) (digit_glyph false (n % 10) ∷ acc)) more
    (digits_word fuel (n / 10) (digit_glyph false (n % 10) ∷ acc) more)

pub decimal_word : (n : ℕ) → IsWord (decimal n)
unfolding digits
decimal_word n = digits_word 64 n [] tt

-- ---- hex digits
-- a digit of a table of words
digit_word : (i : ℕ) → is_plain (slice_index lower_digits i) ≡ true
digit_word i = at lower_digits i refl
  where
    at : (bs : List ℕ) (i : ℕ) → is_word bs ≡ true → is_plain (get_or bs i 0) ≡ true
    at [] i e = refl
    at (b ∷ bs) zero e = and_left_true (is_plain b) (is_word bs) e
    at (b ∷ bs) (suc i) e = at bs i (and_right_true (is_plain b) (is_word bs) e)

pub hex_byte_word : (b : ℕ) → IsWord (hex_of_byte b)
hex_byte_word b = (digit_word (b / 16), (digit_word (b % 16), tt))

pub pairs_word : (bs : List ℕ) → IsWord (pairs_text bs)
pairs_word [] = tt
pairs_word (b ∷ []) = hex_byte_word b
pairs_word (b ∷ next ∷ rest) = word_both (hex_of_byte b) (colon ∷ pairs_text (next ∷ rest)) (hex_byte_word b) (refl, pairs_word (next ∷ rest))

pub mac_word : (mac : Mac) → IsWord (mac_text mac)
mac_word mac = pairs_word mac.0

encoded_word : (bs : List ℕ) → IsWord (encode_with lower_digits bs)
unfolding encode_with
encoded_word [] = tt
encoded_word (b ∷ bs) = (digit_word (b / 16), (digit_word (b % 16), encoded_word bs))

pub hex_word : (bs : List ℕ) → IsWord (encode_lower bs)
hex_word bs = encoded_word bs

-- ---- what a word tells
one_some : {X : Type 0} (x y : X) → Some x ≡ Some y → x ≡ y
one_some x y e = cc

digit_from : (i j : ℕ) → i < 16 → slice_index lower_digits i ≡ slice_index lower_digits j → i ≡ j
digit_from i j low e = go (cases_lt j 16)
  where
    none : (i : ℕ) → Some i ≡ None → ⊥
    none i e = cc

    go : (j < 16) ⊎ (16 ≤ j) → i ≡ j
    go (inl below) = one_some i j (sym (IsDigits-lower_digits i low) ∙ ap hex_digit_value e ∙ IsDigits-lower_digits j below)
    go (inr above) = absurd (none i (sym (IsDigits-lower_digits i low) ∙ ap hex_digit_value (e ∙ get_or_past lower_digits j 0 above)))

byte_from : (b c : ℕ) → b < 2 ^ 8 → slice_index lower_digits (b / 16) ≡ slice_index lower_digits (c / 16) → slice_index lower_digits (b % 16) ≡ slice_index lower_digits (c % 16) → b ≡ c
byte_from b c low p q =
    let high : b / 16 ≡ c / 16 = digit_from (b / 16) (c / 16) (omega (arith, low)) p in
    let rest : b % 16 ≡ c % 16 = digit_from (b % 16) (c % 16) (omega arith) q in
    omega (arith, high, rest)

pub pairs_from : (xs ys : List ℕ) → AreBytes xs → pairs_text xs ≡ pairs_text ys → xs ≡ ys
pairs_from [] [] all e = refl
pairs_from [] (y ∷ []) all e = cc
pairs_from [] (y ∷ z ∷ rest) all e = cc
pairs_from (x ∷ []) [] all e = cc
pairs_from (x ∷ []) (y ∷ []) all e =
    let high : slice_index lower_digits (x / 16) ≡ slice_index lower_digits (y / 16) = cc in
    let low : slice_index lower_digits (x % 16) ≡ slice_index lower_digits (y % 16) = cc in
    ap (λ b. b ∷ []) (byte_from x y all.0 high low)
pairs_from (x ∷ []) (y ∷ z ∷ rest) all e = cc
pairs_from (x ∷ w ∷ more) [] all e = cc
pairs_from (x ∷ w ∷ more) (y ∷ []) all e = cc
pairs_from (x ∷ w ∷ more) (y ∷ z ∷ rest) all e =
    let high : slice_index lower_digits (x / 16) ≡ slice_index lower_digits (y / 16) = cc in
    let low : slice_index lower_digits (x % 16) ≡ slice_index lower_digits (y % 16) = cc in
    let left : pairs_text (w ∷ more) ≡ pairs_text (z ∷ rest) = cc in
    ap₂ (λ b bs. b ∷ bs) (byte_from x y all.0 high low) (pairs_from (w ∷ more) (z ∷ rest) all.1 left)

pub mac_from : (a b : Mac) → AreBytes a.0 → mac_text a ≡ mac_text b → a ≡ b
mac_from a b all e = let p = pairs_from a.0 b.0 all e in λ i. record { 0 = p i }

encoded_from : (xs ys : List ℕ) → AreBytes xs → encode_with lower_digits xs ≡ encode_with lower_digits ys → xs ≡ ys
unfolding encode_with
encoded_from [] [] all e = refl
encoded_from [] (y ∷ ys) all e = cc
encoded_from (x ∷ xs) [] all e = cc
encoded_from (x ∷ xs) (y ∷ ys) all e =
    let high : slice_index lower_digits (x / 16) ≡ slice_index lower_digits (y / 16) = cc in
    let low : slice_index lower_digits (x % 16) ≡ slice_index lower_digits (y % 16) = cc in
    let left : encode_with lower_digits xs ≡ encode_with lower_digits ys = cc in
    ap₂ (λ b bs. b ∷ bs) (byte_from x y all.0 high low) (encoded_from xs ys all.1 left)

pub hex_from : (xs ys : List ℕ) → AreBytes xs → encode_lower xs ≡ encode_lower ys → xs ≡ ys
hex_from xs ys all e = encoded_from xs ys all e

-- ---- where a word ends
-- what stands before, the byte there, and what stands behind are the same
pub record SameParts (x y : List ℕ) (c d : ℕ) (r s : List ℕ) : Type 0 where
  pub word : x ≡ y
  pub end : c ≡ d
  pub rest : r ≡ s

first_same : (b c : ℕ) (xs ys : List ℕ) → b ∷ xs ≡ c ∷ ys → (b ≡ c) × (xs ≡ ys)
first_same b c xs ys e = (cc, cc)

pub words_part : (x y : List ℕ) (c d : ℕ) (r s : List ℕ) → IsWord x → IsWord y → is_plain c ≡ false → is_plain d ≡ false → x ++ c ∷ r ≡ y ++ d ∷ s → SameParts x y c d r s
words_part [] [] c d r s w v p q e = let f = first_same c d r s e in record { word = refl; end = f.0; rest = f.1 }
words_part [] (b ∷ y) c d r s w v p q e = absurd (false≢true (sym p ∙ ap is_plain (first_same c b r (y ++ d ∷ s) e).0 ∙ v.0))
words_part (b ∷ x) [] c d r s w v p q e = absurd (false≢true (sym q ∙ ap is_plain (sym (first_same b d (x ++ c ∷ r) s e).0) ∙ w.0))
words_part (b ∷ x) (a ∷ y) c d r s w v p q e =
    let f = first_same b a (x ++ c ∷ r) (y ++ d ∷ s) e in
    let more = words_part x y c d r s w.1 v.1 p q f.1 in
    record { word = ap₂ (λ h t. h ∷ t) f.0 more.word; end = more.end; rest = more.rest }

-- likewise where more follows both
pub words_next : (x y : List ℕ) (c d : ℕ) (r s t u : List ℕ) → IsWord x → IsWord y → is_plain c ≡ false → is_plain d ≡ false → (x ++ c ∷ r) ++ t ≡ (y ++ d ∷ s) ++ u → SameParts x y c d (r ++ t) (s ++ u)
words_next x y c d r s t u w v p q e = words_part x y c d (r ++ t) (s ++ u) w v p q (sym (append_assoc x (c ∷ r) t) ∙ e ∙ append_assoc y (d ∷ s) u)

-- a last word
pub words_last : (x y : List ℕ) (c : ℕ) → IsWord x → IsWord y → is_plain c ≡ false → (x ++ []) ++ c ∷ [] ≡ (y ++ []) ++ c ∷ [] → x ≡ y
words_last x y c w v p e = (words_part x y c c [] [] w v p p (ap (λ l. l ++ c ∷ []) (sym (append-nil x)) ∙ e ∙ ap (λ l. l ++ c ∷ []) (append-nil y))).word
