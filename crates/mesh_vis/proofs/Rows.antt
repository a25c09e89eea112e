-- What is made of lists, item by item: values that are pushed one after another.
use Rattle.std.proofs.Common.{◌≡◌, ℕ, zero, suc, ◌+◌, ◌<◌, List, [], ◌∷◌, ◌++◌, length, get_or, take, map, slice_get, refl, sym, ap, ◌∙◌, arith}
use Rattle.std.proofs.lemmas.List.{append-nil, map-append}
use Rattle.std.specs.List.{cons_option}
use Rattle.std.specs.Prelude.{Option, Some, None, filter_map}
use Rattle.serde_json.specs.Data.{Data}
use Rattle.serde_json.specs.View.{view}
use Rattle.serde_json.specs.declared.value.Value.{Value}

-- what is made of one item more
map_more : {X Y : Type 0} (f : X → Y) (xs : List X) (i : ℕ) (x : X) → slice_get xs i ≡ Some x
    → map f (take (i + 1) xs) ≡ map f (take i xs) ++ f x ∷ []
map_more f [] i x is = cc
map_more f (y ∷ ys) zero x is = let same : y ≡ x = cc in ap (λ z. f z ∷ []) same
map_more f (y ∷ ys) (suc i) x is =
    let next : suc i + 1 ≡ suc (i + 1) = omega arith in
    ap (λ n. map f (take n (y ∷ ys))) next ∙ ap (λ zs. f y ∷ zs) (map_more f ys i x is)

-- a value more that shows an item more
pub one_more : {X : Type 0} (f : X → Data) (items new : List Value) (xs : List X) (i : ℕ) (x : X) (v : Value)
    → map view items ≡ map f (take i xs) → new ≡ items ++ v ∷ [] → slice_get xs i ≡ Some x → view v ≡ f x
    → map view new ≡ map f (take (i + 1) xs)
one_more f items new xs i x v before pushed at shows =
    ap (map view) pushed ∙ map-append view items (v ∷ []) ∙ ap (λ ds. ds ++ view v ∷ []) before
    ∙ ap (λ d. map f (take i xs) ++ d ∷ []) shows ∙ sym (map_more f xs i x at)

-- what is picked of one item more
picked : {X Y Z : Type 0} (h : Y → Option Z) (g : X → Y) (xs : List X) (i : ℕ) (x : X) → i < length xs → x ≡ get_or xs i x
    → filter_map h (map g (take (i + 1) xs)) ≡ filter_map h (map g (take i xs)) ++ cons_option (h (g x)) []
picked h g [] i x within is = absurd (omega (arith, within))
picked h g (y ∷ ys) zero x within is = ap (λ z. cons_option (h (g z)) []) (sym is)
picked h g (y ∷ ys) (suc i) x within is =
    let next : suc i + 1 ≡ suc (i + 1) = omega arith in
    ap (λ n. filter_map h (map g (take n (y ∷ ys)))) next
    ∙ ap (cons_option (h (g y))) (picked h g ys i x (omega (arith, within)) is)
    ∙ behind (h (g y)) (filter_map h (map g (take i ys))) (cons_option (h (g x)) [])
  where
    behind : {Z : Type 0} (o : Option Z) (front back : List Z) → cons_option o (front ++ back) ≡ cons_option o front ++ back
    behind None front back = refl
    behind (Some z) front back = refl

-- a value more that shows what is picked of an item more
pub picks_more : {X Y : Type 0} (h : Y → Option Data) (g : X → Y) (items new : List Value) (xs : List X) (i : ℕ) (x : X) (v : Value)
    → map view items ≡ filter_map h (map g (take i xs)) → i < length xs → x ≡ get_or xs i x
    → new ≡ items ++ v ∷ [] → h (g x) ≡ Some (view v) → map view new ≡ filter_map h (map g (take (i + 1) xs))
picks_more h g items new xs i x v before within at pushed shows =
    ap (map view) pushed ∙ map-append view items (v ∷ []) ∙ ap (λ ds. ds ++ view v ∷ []) before
    ∙ ap (λ o. filter_map h (map g (take i xs)) ++ cons_option o []) (sym shows) ∙ sym (picked h g xs i x within at)

-- of an item more nothing is picked
pub picks_none : {X Y : Type 0} (h : Y → Option Data) (g : X → Y) (items : List Value) (xs : List X) (i : ℕ) (x : X)
    → map view items ≡ filter_map h (map g (take i xs)) → i < length xs → x ≡ get_or xs i x
    → h (g x) ≡ None → map view items ≡ filter_map h (map g (take (i + 1) xs))
picks_none h g items xs i x before within at shows =
    before ∙ sym (append-nil (filter_map h (map g (take i xs))))
    ∙ ap (λ o. filter_map h (map g (take i xs)) ++ cons_option o []) (sym shows) ∙ sym (picked h g xs i x within at)

-- what is made of what is made
pub map_twice : {X Y Z : Type 0} (f : Y → Z) (g : X → Y) (xs : List X) → map (λ x. f (g x)) xs ≡ map f (map g xs)
map_twice f g [] = refl
map_twice f g (x ∷ xs) = ap (λ zs. f (g x) ∷ zs) (map_twice f g xs)
