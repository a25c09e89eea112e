-- What single words say.
use Rattle.std.specs.Char.{is_ascii_alphabetic, is_ascii_digit}
use Rattle.std.proofs.Common.{◌≡◌, ℕ, ◌+◌, ◌*◌, ◌-◌, ◌<◌, ◌≤◌, Bool, true, false, List, [], ◌∷◌, length, get_or, drop, take, refl, ap, sym, arith}
use Rattle.std.specs.Prelude.{◌==◌, ◌&&◌, Some, None, if◌then◌else◌}
use Rattle.std.specs.List.{list_all}
use Rattle.std.proofs.lemmas.Bool.{le-leb, lt-ltb, eqb-false, eqb-true}
use Rattle.std.proofs.lemmas.List.Sums.{fold_more}
use Rattle.mesh_model.specs.Scenario.Terms.{is_mark, is_pattern, is_name, is_name_character, number_of, digits_value}
use Rattle.mesh_model.specs.Scenario.Fields.{kept_number}

-- only the middle one of three tests is open
and_true : (x y z : Bool) → x ≡ true → z ≡ true → (x && y && z) ≡ y
and_true true true true p q = refl
and_true true false true p q = refl
and_true false y z p q = cc
and_true true y false p q = cc

-- a word of the right length that begins with a letter is a name where its other characters may stand in one
pub is_name-from_letter : (word : List ℕ) → 0 < length word → is_ascii_alphabetic (get_or word 0 0) ≡ true → length word ≤ 16
    → list_all is_name_character (drop 1 word) ≡ is_name word
is_name-from_letter [] some letter short = absurd (omega arith)
is_name-from_letter (first ∷ rest) some letter short =
    sym (and_true (is_ascii_alphabetic first) (list_all is_name_character rest) _ letter (le-leb (length (first ∷ rest)) 16 short))

-- only the last one of three tests is open
both_true : (x y z : Bool) → x ≡ true → y ≡ true → (x && y && z) ≡ z
both_true true true z p q = refl
both_true true false z p q = cc
both_true false y z p q = cc

-- a word of the right length is a pattern where its characters are marks
pub is_pattern-sized : (word : List ℕ) → (length word == 0) ≡ false → length word ≤ 64
    → list_all is_mark word ≡ is_pattern word
is_pattern-sized word some short =
    let long : 0 < length word = omega (arith, eqb-false (length word) 0 some) in
    sym (both_true _ _ (list_all is_mark word) (lt-ltb 0 (length word) long) (le-leb (length word) 64 short))

-- digits, at least one, spell their value
pub number_of-digits : (word : List ℕ) → (length word == 0) ≡ false → list_all is_ascii_digit word ≡ true
    → number_of word ≡ Some (digits_value word)
number_of-digits [] some all = cc
number_of-digits (first ∷ rest) some all =
    ap (λ b. if b then Some (digits_value (first ∷ rest)) else None) all

-- no word spells no number
pub number_of-empty : (word : List ℕ) → (length word == 0) ≡ true → number_of word ≡ None
number_of-empty [] none = refl
number_of-empty (first ∷ rest) none = absurd (omega (arith, eqb-true _ 0 none))

-- a word with another character than a digit spells no number
pub number_of-other : (word : List ℕ) → list_all is_ascii_digit word ≡ false → number_of word ≡ None
number_of-other [] all = refl
number_of-other (first ∷ rest) all = ap (λ b. if b then Some (digits_value (first ∷ rest)) else None) all

-- one more digit
pub digits_value-more : (digits : List ℕ) (i value : ℕ) → i < length digits → value ≡ kept_number (digits_value (take i digits))
    → kept_number (kept_number (value * 10) + (get_or digits i 0 - 48)) ≡ kept_number (digits_value (take (i + 1) digits))
digits_value-more digits i value below is =
    let more = fold_more (λ value digit. 10 * value + (digit - 48)) 0 digits i 0 below in
    omega (arith, more, is)
