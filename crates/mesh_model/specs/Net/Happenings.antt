-- The order of happenings: by moment, then class, then place. Of one moment, link frames are
-- delivered first, in the order of sending; then LAN frames, in the order of putting; then nodes
-- tick, in the order of their lines. The main words are `Before` and `earliest`.
use Rattle.std.specs.Prelude.{◌≡◌, ℕ, Bool, List, [], ◌∷◌, Option, Some, None, if◌then◌else◌}
use Rattle.std.specs.Ordering.{nat_cmp, ordering_then, is_lt}
use Rattle.std.specs.declared.cmp.Ordering.{Ordering}
use Rattle.std.specs.declared.cmp.Ordering.TheVariants.{Less}
use Rattle.mesh_model.specs.declared.happening.Class.{Class}
use Rattle.mesh_model.specs.declared.happening.Class.TheVariants.{LinkDelivery, LanDelivery, NodeTick}
use Rattle.mesh_model.specs.declared.happening.Happening.{Happening}

-- a class's place in the order of one moment
abbrev pub class_number : Class → ℕ
class_number LinkDelivery = 0
class_number LanDelivery = 1
class_number NodeTick = 2

-- the order of two happenings
abbrev pub happening_order : Happening → Happening → Ordering
happening_order a b =
    ordering_then (nat_cmp a.moment b.moment)
    (ordering_then (nat_cmp (class_number a.class) (class_number b.class))
    (nat_cmp a.place b.place))

-- whether a happening comes before another
abbrev pub is_before : Happening → Happening → Bool
is_before a b = is_lt (happening_order a b)

-- a happening comes before another
abbrev pub Before : Happening → Happening → Type 0
Before a b = happening_order a b ≡ Less

-- the earlier of a happening and what is there
abbrev pub earlier : Happening → Option Happening → Happening
earlier h None = h
earlier h (Some other) = if is_before other h then other else h

-- the earliest of a list
abbrev pub earliest : List Happening → Option Happening
earliest [] = None
earliest (h ∷ rest) = Some (earlier h (earliest rest))
