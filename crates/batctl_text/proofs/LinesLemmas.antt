-- The lines of a list, one element at a time, and lists of lines as text.
use Rattle.std.proofs.Common.{◌≡◌, ℕ, zero, suc, ◌+◌, ◌<◌, List, [], ◌∷◌, ◌++◌, length, take, refl, sym, ap, ◌∙◌, arith, append_assoc}
use Rattle.std.specs.Prelude.{Some, None, option_map, slice_get, map}
use Rattle.std.specs.List.{flat_map, concat}
use Rattle.std.proofs.lemmas.List.{append-nil}

-- there is an element at each place below the length
pub some_at : {X Y : Type 0} (g : X → Y) (xs : List X) (i : ℕ) → i < length xs → option_map g (slice_get xs i) ≡ None → ⊥
some_at g [] i within none = absurd (omega (arith, within))
some_at g (x ∷ xs) zero within none = absurd cc
some_at g (x ∷ xs) (suc i) within none = some_at g xs i (omega (arith, within)) none

-- the lines of one element more
lines_more : {X Y : Type 0} (g : X → Y) (line : Y → List ℕ) (xs : List X) (i : ℕ) (y : Y) → option_map g (slice_get xs i) ≡ Some y
    → flat_map (λ x. line (g x)) (take (suc i) xs) ≡ flat_map (λ x. line (g x)) (take i xs) ++ line y
lines_more g line [] i y is = absurd cc
lines_more g line (x ∷ xs) zero y is = append-nil (line (g x)) ∙ ap line (cc)
lines_more g line (x ∷ xs) (suc i) y is =
    ap (λ rest. line (g x) ++ rest) (lines_more g line xs i y is)
    ∙ sym (append_assoc (line (g x)) (flat_map (λ x. line (g x)) (take i xs)) (line y))

-- the line of one element more is appended
pub appended_more : {X Y : Type 0} (g : X → Y) (line : Y → List ℕ) (xs : List X) (i : ℕ) (y : Y) (old text new : List ℕ)
    → option_map g (slice_get xs i) ≡ Some y → text ≡ old ++ flat_map (λ x. line (g x)) (take i xs) → new ≡ text ++ line y
    → new ≡ old ++ flat_map (λ x. line (g x)) (take (i + 1) xs)
appended_more g line xs i y old text new is so_far more =
    let next : suc i ≡ i + 1 = omega arith in
    more ∙ ap (λ front. front ++ line y) so_far ∙ append_assoc old (flat_map (λ x. line (g x)) (take i xs)) (line y)
    ∙ ap (λ lines. old ++ lines) (sym (lines_more g line xs i y is))
    ∙ ap (λ n. old ++ flat_map (λ x. line (g x)) (take n xs)) next

-- two lists of lines, one behind the other
pub concat-append : (xs ys : List (List ℕ)) → concat (xs ++ ys) ≡ concat xs ++ concat ys
concat-append [] ys = refl
concat-append (x ∷ xs) ys = ap (λ more. x ++ more) (concat-append xs ys) ∙ sym (append_assoc x (concat xs) (concat ys))

-- a line for each element
pub concat-map : {X : Type 0} (line : X → List ℕ) (xs : List X) → concat (map line xs) ≡ flat_map line xs
concat-map line [] = refl
concat-map line (x ∷ xs) = ap (λ more. line x ++ more) (concat-map line xs)
