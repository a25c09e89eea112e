-- Lists in an order, each value once. The main word is `in_order`.
use Rattle.std.specs.Prelude.{List, [], ◌∷◌}
use Rattle.std.specs.Ordering.{match_ordering}
use Rattle.std.specs.declared.cmp.Ordering.{Ordering}

-- a list in an order with one more value, unless it is there
abbrev pub placed : {A : Type 0} → (A → A → Ordering) → A → List A → List A
placed order value [] = value ∷ []
placed order value (first ∷ rest) =
    match_ordering (order value first) (value ∷ first ∷ rest) (first ∷ rest)
    (first ∷ placed order value rest)

-- values in an order, each once
abbrev pub in_order : {A : Type 0} → (A → A → Ordering) → List A → List A
in_order order [] = []
in_order order (value ∷ rest) = placed order value (in_order order rest)
