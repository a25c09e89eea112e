-- Lemmas on the pieces between newlines.
use Rattle.std.proofs.Common.{◌≡◌, ℕ, suc, ◌+◌, ◌-◌, ◌<◌, ◌≤◌, ◌==◌, Bool, true, false, List, [], ◌∷◌, ◌++◌, length, get_or, take, drop, Some, None, refl, sym, ap, ◌∙◌, subst, append_assoc, take-append-drop, length-drop, length-take, arith}
use Rattle.std.proofs.lemmas.Bool.{eqb-true}
use Rattle.std.proofs.lemmas.List.{drop_more, get_or-take, take_rest}
use Rattle.memchr.specs.Find.{IsFirstByte, is_byte}
use Rattle.mesh_laws.specs.Cuts.{IsUnbroken}
use Rattle.mesh_model.specs.Scenario.Lines.{newline}

by_test : (b : ℕ) (test : Bool) → (b == newline) ≡ test → (test ≡ true → ⊥) → (b == newline) ≡ false
by_test b true is h = absurd (h refl)
by_test b false is h = is

-- bytes at none of whose places a newline stands
pub unbroken-from : (xs : List ℕ) → ((k : ℕ) → k < length xs → (get_or xs k 0 == newline) ≡ true → ⊥) → IsUnbroken xs
unbroken-from [] none = tt
unbroken-from (x ∷ xs) none =
    (by_test x (x == newline) refl (none 0 (omega arith)), unbroken-from xs (λ k lt is. none (suc k) (omega (arith, lt)) is))

-- no newline was found
pub unbroken-none : (xs : List ℕ) → IsFirstByte (is_byte newline) xs None → IsUnbroken xs
unbroken-none xs h = unbroken-from xs (λ k lt is. h k (omega arith) lt is)

-- what stands before the first newline
pub unbroken-front : (xs : List ℕ) (i : ℕ) → IsFirstByte (is_byte newline) xs (Some i) → IsUnbroken (take i xs)
unbroken-front xs i h =
    let long : length (take i xs) ≤ i = omega (arith, length-take i xs) in
    unbroken-from (take i xs) (λ k lt is.
    let within : k < i = omega (arith, lt, long) in
    h.0.before k (omega arith) within (subst (λ (b : ℕ). (b == newline) ≡ true) (get_or-take i xs k 0 within) is))

-- the bytes by their first newline
pub split-newline : (xs : List ℕ) (i : ℕ) → IsFirstByte (is_byte newline) xs (Some i) → xs ≡ take i xs ++ newline ∷ drop (i + 1) xs
split-newline xs i h =
    let at : get_or xs i 0 ≡ newline = eqb-true (get_or xs i 0) newline h.1 in
    sym (take-append-drop i xs) ∙ ap (λ ys. take i xs ++ ys) (drop_more xs i 0 h.0.high ∙ ap (λ b. b ∷ drop (i + 1) xs) at)

-- one line more of the bytes is done
pub piece-step : (bytes done rest : List ℕ) (i : ℕ) → bytes ≡ done ++ rest → IsFirstByte (is_byte newline) rest (Some i)
    → bytes ≡ (done ++ (take i rest ++ newline ∷ [])) ++ take (length rest - (i + 1)) (drop (i + 1) rest)
piece-step bytes done rest i is h =
    let line = take i rest ++ newline ∷ [] in
    let later = drop (i + 1) rest in
    is ∙ ap (λ r. done ++ r) (split-newline rest i h ∙ sym (append_assoc (take i rest) (newline ∷ []) later))
    ∙ sym (append_assoc done line later) ∙ ap (λ r. (done ++ line) ++ r) (sym (take_rest rest (i + 1)))

pub piece-length : (rest : List ℕ) (i : ℕ) → i < length rest → length (take (length rest - (i + 1)) (drop (i + 1) rest)) + (length (take i rest) + 1) ≡ length rest
piece-length rest i lt = omega (arith, ap length (take_rest rest (i + 1)), length-drop (i + 1) rest, length-take i rest, lt)
