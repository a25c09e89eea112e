-- Look-ups by place.
use Rattle.std.proofs.Common.{◌≡◌, ℕ, zero, suc, ◌<◌, List, [], ◌∷◌, length, get_or, slice_get, None, Some, refl, sym, ap, ◌∙◌, arith}

pub some_one : {X : Type 0} (x y : X) → Some x ≡ Some y → x ≡ y
some_one x y e = cc

-- an item that is read by its place is what a look-up finds
pub got : {X : Type 0} (xs : List X) (i : ℕ) (x : X) → i < length xs → x ≡ get_or xs i x → slice_get xs i ≡ Some x
got [] i x l e = absurd (omega (arith, l))
got (y ∷ ys) zero x l e = ap Some (sym e)
got (y ∷ ys) (suc i) x l e = got ys i x (omega (arith, l)) e

-- two look-ups at one place find one
pub same_got : {X : Type 0} (xs : List X) (i : ℕ) (x y : X) → slice_get xs i ≡ Some x → i < length xs → y ≡ get_or xs i y → x ≡ y
same_got xs i x y e l g = some_one x y (sym e ∙ got xs i y l g)

-- an item stands at each place of a list
pub got_there : {X : Type 0} (xs : List X) (i : ℕ) → i < length xs → (x : X) × (slice_get xs i ≡ Some x)
got_there [] i l = absurd (omega (arith, l))
got_there (x ∷ xs) zero l = (x, refl)
got_there (x ∷ xs) (suc i) l = got_there xs i (omega (arith, l))

-- something found is not nothing found
pub some_none : {X : Type 0} (x : X) → Some x ≡ None → ⊥
some_none x e = cc
