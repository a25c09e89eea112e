-- Lists that are read or spelled one element at a time.
use Rattle.std.proofs.Common.{◌≡◌, ℕ, zero, suc, ◌+◌, ◌<◌, Bool, true, false, nat_lt, List, [], ◌∷◌, ◌++◌, length, take, refl, sym, ap, ap₂, subst, ◌∙◌, arith, append_assoc}
use Rattle.std.specs.Prelude.{Some, None, Option, option_map, slice_get, map, fold}
use Rattle.std.specs.List.{flat_map}
use Rattle.std.proofs.lemmas.List.{append-nil}
use Rattle.std.proofs.lemmas.Bool.{ltb-false, ltb-true}
use Rattle.std.proofs.lemmas.Option.{same_Some}

-- there is an element at each place below the length
pub some_at : {X Y : Type 0} (g : X → Y) (xs : List X) (i : ℕ) → i < length xs → option_map g (slice_get xs i) ≡ None → ⊥
some_at g [] i within none = absurd (omega (arith, within))
some_at g (x ∷ xs) zero within none = absurd cc
some_at g (x ∷ xs) (suc i) within none = some_at g xs i (omega (arith, within)) none

-- a list is folded up to one element more
folded_next : {X Y Z : Type 0} (g : X → Y) (step : Z → Y → Z) (xs : List X) (i : ℕ) (y : Y) (begin : Z) → option_map g (slice_get xs i) ≡ Some y
    → fold (λ z x. step z (g x)) begin (take (suc i) xs) ≡ step (fold (λ z x. step z (g x)) begin (take i xs)) y
folded_next g step [] i y begin is = absurd cc
folded_next g step (x ∷ xs) zero y begin is = ap (step begin) (cc)
folded_next g step (x ∷ xs) (suc i) y begin is = folded_next g step xs i y (step begin (g x)) is

pub folded_more : {X Y Z : Type 0} (g : X → Y) (step : Z → Y → Z) (xs : List X) (i : ℕ) (y : Y) (begin : Z) → option_map g (slice_get xs i) ≡ Some y
    → fold (λ z x. step z (g x)) begin (take (i + 1) xs) ≡ step (fold (λ z x. step z (g x)) begin (take i xs)) y
folded_more g step xs i y begin is =
    let next : i + 1 ≡ suc i = omega arith in
    ap (λ n. fold (λ z x. step z (g x)) begin (take n xs)) next ∙ folded_next g step xs i y begin is

-- a list is mapped up to one element more
mapped_next : {X Y Z : Type 0} (g : X → Y) (h : Y → Z) (xs : List X) (i : ℕ) (y : Y) → option_map g (slice_get xs i) ≡ Some y
    → map (λ x. h (g x)) (take (suc i) xs) ≡ map (λ x. h (g x)) (take i xs) ++ h y ∷ []
mapped_next g h [] i y is = absurd cc
mapped_next g h (x ∷ xs) zero y is = ap (λ z. z ∷ []) (ap h cc)
mapped_next g h (x ∷ xs) (suc i) y is = ap (λ zs. h (g x) ∷ zs) (mapped_next g h xs i y is)

pub mapped_more : {X Y Z : Type 0} (g : X → Y) (h : Y → Z) (xs : List X) (i : ℕ) (y : Y) → option_map g (slice_get xs i) ≡ Some y
    → map (λ x. h (g x)) (take (i + 1) xs) ≡ map (λ x. h (g x)) (take i xs) ++ h y ∷ []
mapped_more g h xs i y is =
    let next : i + 1 ≡ suc i = omega arith in
    ap (λ n. map (λ x. h (g x)) (take n xs)) next ∙ mapped_next g h xs i y is

-- what is spelled for each element of a list is put for one element more
spelled_next : {X Y : Type 0} (g : X → Y) (spell : Y → List ℕ) (xs : List X) (i : ℕ) (y : Y) → option_map g (slice_get xs i) ≡ Some y
    → flat_map (λ x. spell (g x)) (take (suc i) xs) ≡ flat_map (λ x. spell (g x)) (take i xs) ++ spell y
spelled_next g spell [] i y is = absurd cc
spelled_next g spell (x ∷ xs) zero y is = append-nil (spell (g x)) ∙ ap spell (cc)
spelled_next g spell (x ∷ xs) (suc i) y is = ap (λ rest. spell (g x) ++ rest) (spelled_next g spell xs i y is)
    ∙ sym (append_assoc (spell (g x)) (flat_map (λ x. spell (g x)) (take i xs)) (spell y))

pub spelled_more : {X Y : Type 0} (g : X → Y) (spell : Y → List ℕ) (xs : List X) (i : ℕ) (y : Y) (old out new : List ℕ) → option_map g (slice_get xs i) ≡ Some y
    → out ≡ old ++ flat_map (λ x. spell (g x)) (take i xs) → new ≡ out ++ spell y → new ≡ old ++ flat_map (λ x. spell (g x)) (take (i + 1) xs)
spelled_more g spell xs i y old out new is so_far more =
    let next : suc i ≡ i + 1 = omega arith in
    more ∙ ap (λ front. front ++ spell y) so_far ∙ append_assoc old (flat_map (λ x. spell (g x)) (take i xs)) (spell y)
    ∙ ap (λ rest. old ++ rest) (sym (spelled_next g spell xs i y is)) ∙ ap (λ n. old ++ flat_map (λ x. spell (g x)) (take n xs)) next

-- what is spelled for each of mapped elements
pub spelled_mapped : {X Y : Type 0} (g : X → Y) (spell : Y → List ℕ) (xs : List X) → flat_map spell (map g xs) ≡ flat_map (λ x. spell (g x)) xs
spelled_mapped g spell [] = refl
spelled_mapped g spell (x ∷ xs) = ap (λ rest. spell (g x) ++ rest) (spelled_mapped g spell xs)

pub same_option : {X : Type 0} (o : Option X) → option_map (λ x. x) o ≡ o
same_option None = refl
same_option (Some x) = refl

-- lists with the same at each place are the same
pub same_lists : {X Y : Type 0} (g : X → Y) (xs ys : List X) → ((x y : X) → g x ≡ g y → x ≡ y) → length xs ≡ length ys → ((i : ℕ) → i < length xs → option_map g (slice_get xs i) ≡ option_map g (slice_get ys i)) → xs ≡ ys
same_lists g [] [] exact counted same = refl
same_lists g [] (y ∷ ys) exact counted same = absurd (omega (arith, counted))
same_lists g (x ∷ xs) [] exact counted same = absurd (omega (arith, counted))
same_lists g (x ∷ xs) (y ∷ ys) exact counted same =
    ap₂ (λ z zs. z ∷ zs) (exact x y (same_Some (g x) (g y) (same 0 (omega arith)))) (same_lists g xs ys exact (omega (arith, counted)) (λ i lt. same (suc i) (omega (arith, lt))))

-- what is the same below a number, and at it, is the same up to it
pub same_up_to : {X : Type 0} (p q : ℕ → X) (n : ℕ) → ((i : ℕ) → i < n → p i ≡ q i) → p n ≡ q n → (i : ℕ) → i < n + 1 → p i ≡ q i
same_up_to p q n below here i lt = go (nat_lt i n) refl
  where
    go : (b : Bool) → nat_lt i n ≡ b → p i ≡ q i
    go true e = below i (ltb-true i n e)
    go false e = let at : n ≡ i = (let past = ltb-false i n e in omega (arith, past, lt)) in subst (λ k. p k ≡ q k) at here
