-- Numbers in bytes: what is read from a list of bytes is spelled as they are.
use Rattle.std.proofs.Common.{◌≡◌, ℕ, zero, suc, ◌+◌, ◌/◌, ◌%◌, ◌*◌, ◌^◌, ◌<◌, ◌≤◌, List, [], ◌∷◌, length, take, slice_index, refl, sym, ap, ap₂, subst, ◌∙◌, arith, Bool, true, false}
use Rattle.std.specs.Prelude.{◌||◌, nat_eq}
use Rattle.std.proofs.lemmas.Bool.Decides.{nat_tests}
use Rattle.std.proofs.lemmas.List.Elements.{All-drop}
use Rattle.std.specs.Int.{bytes_high_first}
use Rattle.byteorder.specs.Endian.{big_number}
use Rattle.mesh_laws.specs.PacketLaws.{AreBytes}

small_tail : (byte : ℕ) (bytes : List ℕ) → AreBytes (byte ∷ bytes) → AreBytes bytes
small_tail byte bytes small = All-drop (λ b. b < 2 ^ 8) 1 (byte ∷ bytes) small

-- each place holds less than 256
pub small_at : (bytes : List ℕ) → AreBytes bytes → (i : ℕ) → slice_index bytes i < 256
small_at [] small i = omega arith
small_at (byte ∷ bytes) small zero = small 0 0 (omega arith)
small_at (byte ∷ bytes) small (suc i) = small_at bytes (small_tail byte bytes small) i

-- a width that a number has in packets
abbrev pub is_width : ℕ → Bool
is_width size = nat_eq size 1 || (nat_eq size 2 || nat_eq size 4)

one_back : (bytes : List ℕ) → AreBytes bytes → 1 ≤ length bytes → take 1 bytes ≡ bytes_high_first 1 (big_number 1 bytes)
one_back [] small some = absurd (omega (arith, some))
one_back (a ∷ bytes) small some =
    let a_small = small_at (a ∷ bytes) small 0 in
    let first : a ≡ (a * 256 ^ 0 + 0) % 256 = omega (arith, a_small) in
    ap (λ (x : ℕ). x ∷ []) first

two_back : (bytes : List ℕ) → AreBytes bytes → 2 ≤ length bytes → take 2 bytes ≡ bytes_high_first 2 (big_number 2 bytes)
two_back [] small some = absurd (omega (arith, some))
two_back (a ∷ []) small some = absurd (omega (arith, some))
two_back (a ∷ b ∷ bytes) small some =
    let a_small = small_at (a ∷ b ∷ bytes) small 0 in
    let b_small = small_at (a ∷ b ∷ bytes) small 1 in
    let value = a * 256 + b in
    let whole : value ≡ big_number 2 (a ∷ b ∷ bytes) = omega arith in
    let first : a ≡ value / 256 % 256 = omega (arith, a_small, b_small) in
    let second : b ≡ value % 256 = omega (arith, a_small, b_small) in
    ap₂ (λ (x y : ℕ). x ∷ y ∷ []) first second ∙ ap (bytes_high_first 2) whole

four_back : (bytes : List ℕ) → AreBytes bytes → 4 ≤ length bytes → take 4 bytes ≡ bytes_high_first 4 (big_number 4 bytes)
four_back [] small some = absurd (omega (arith, some))
four_back (a ∷ []) small some = absurd (omega (arith, some))
four_back (a ∷ b ∷ []) small some = absurd (omega (arith, some))
four_back (a ∷ b ∷ c ∷ []) small some = absurd (omega (arith, some))
four_back (a ∷ b ∷ c ∷ d ∷ bytes) small some =
    let all = a ∷ b ∷ c ∷ d ∷ bytes in
    let a_small = small_at all small 0 in
    let b_small = small_at all small 1 in
    let c_small = small_at all small 2 in
    let d_small = small_at all small 3 in
    let value = a * 16777216 + (b * 65536 + (c * 256 + d)) in
    let whole : value ≡ big_number 4 all = omega arith in
    let first : a ≡ value / 16777216 % 256 = omega (arith, a_small, b_small, c_small, d_small) in
    let second : b ≡ value / 65536 % 256 = omega (arith, a_small, b_small, c_small, d_small) in
    let third : c ≡ value / 256 % 256 = omega (arith, a_small, b_small, c_small, d_small) in
    let fourth : d ≡ value % 256 = omega (arith, a_small, b_small, c_small, d_small) in
    ap₂ (λ (x y : ℕ). x ∷ y ∷ c ∷ d ∷ []) first second ∙ ap₂ (λ (x y : ℕ). value / 16777216 % 256 ∷ value / 65536 % 256 ∷ x ∷ y ∷ []) third fourth
    ∙ ap (bytes_high_first 4) whole

pub eqb-to : (a b : ℕ) → nat_eq a b ≡ true → a ≡ b
eqb-to a b is = grind (arith, nat_tests)

-- a number of a known width is spelled as the bytes are that it is in
by_width : (size : ℕ) (one two four : Bool) → nat_eq size 1 ≡ one → nat_eq size 2 ≡ two → nat_eq size 4 ≡ four → (one || (two || four)) ≡ true
    → (bytes : List ℕ) → AreBytes bytes → size ≤ length bytes → take size bytes ≡ bytes_high_first size (big_number size bytes)
by_width size true two four p q r known bytes small some =
    let is : size ≡ 1 = eqb-to size 1 p in
    subst (λ (n : ℕ). take n bytes ≡ bytes_high_first n (big_number n bytes)) (sym is) (one_back bytes small (omega (arith, is, some)))
by_width size false true four p q r known bytes small some =
    let is : size ≡ 2 = eqb-to size 2 q in
    subst (λ (n : ℕ). take n bytes ≡ bytes_high_first n (big_number n bytes)) (sym is) (two_back bytes small (omega (arith, is, some)))
by_width size false false true p q r known bytes small some =
    let is : size ≡ 4 = eqb-to size 4 r in
    subst (λ (n : ℕ). take n bytes ≡ bytes_high_first n (big_number n bytes)) (sym is) (four_back bytes small (omega (arith, is, some)))
by_width size false false false p q r known bytes small some = absurd cc

pub number_back : (size : ℕ) → is_width size ≡ true → (bytes : List ℕ) → AreBytes bytes → size ≤ length bytes → take size bytes ≡ bytes_high_first size (big_number size bytes)
number_back size known bytes small some = by_width size (nat_eq size 1) (nat_eq size 2) (nat_eq size 4) refl refl refl known bytes small some

-- the address in six bytes
pub small_front : (n : ℕ) (bytes : List ℕ) → AreBytes bytes → (i : ℕ) → slice_index (take n bytes) i < 256
small_front zero bytes small i = omega arith
small_front (suc n) [] small i = omega arith
small_front (suc n) (byte ∷ bytes) small zero = small 0 0 (omega arith)
small_front (suc n) (byte ∷ bytes) small (suc i) = small_front n bytes (small_tail byte bytes small) i

-- the number, the priority and the spare bit of a fragment's byte
pub fragment_back : (byte : ℕ) → byte < 256 → (16 * (byte / 16) + 2 * (byte / 2 % 8) + byte % 2 ≡ byte) × (byte / 16 ≤ 15) × (byte / 2 % 8 ≤ 7)
fragment_back byte small = (omega arith, omega (arith, small), omega arith)

-- one byte or more
pub first_byte : (bytes : List ℕ) → 1 ≤ length bytes → (take 1 bytes ≡ slice_index bytes 0 ∷ []) × (big_number 1 bytes ≡ slice_index bytes 0)
first_byte [] some = absurd (omega (arith, some))
first_byte (byte ∷ bytes) some = (refl, omega arith)
