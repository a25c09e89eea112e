-- The primaries of the fact store. A node is known as one for less than 60,000 ms after it last
-- announced itself. The best is the known one of the greatest route metric above 0, in a tie that of
-- the smaller address. The main word is `best_primary`.
use Rattle.std.specs.Prelude.{ℕ, ◌-◌, ◌&&◌, ◌||◌, nat_lt, nat_eq, Bool, List, [], ◌∷◌, Option, Some, None, option_map, if◌then◌else◌}
use Rattle.mesh_base.specs.declared.address.Mac.{Mac}
use Rattle.mesh_model.specs.declared.service.PrimaryRow.{PrimaryRow}
use Rattle.mesh_model.specs.Routes.Addresses.{is_smaller}

-- how long a primary is known, in milliseconds
abbrev pub primary_age : ℕ
primary_age = 60000

-- whether a primary is known at a moment, and a route leads to it
abbrev pub is_eligible : ℕ → PrimaryRow → Bool
is_eligible now row = nat_lt (now - row.announced) primary_age && nat_lt 0 row.metric

-- the better of a primary and what is best of others
abbrev pub better_primary : PrimaryRow → Option PrimaryRow → PrimaryRow
better_primary row None = row
better_primary row (Some other) =
    if nat_lt other.metric row.metric
    || (nat_eq other.metric row.metric && is_smaller row.orig other.orig) then row else other

-- the best of some primaries at a moment
abbrev pub best_primary_row : ℕ → List PrimaryRow → Option PrimaryRow
best_primary_row now [] = None
best_primary_row now (row ∷ rest) =
    if is_eligible now row then Some (better_primary row (best_primary_row now rest))
    else best_primary_row now rest

-- its address
abbrev pub best_primary : ℕ → List PrimaryRow → Option Mac
best_primary now rows = option_map (λ row. row.orig) (best_primary_row now rows)
