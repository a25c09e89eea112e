-- The throughput of the link back, among the links of a mesh. The main word is `back_over`.
use Rattle.std.specs.Prelude.{ℕ, ◌&&◌, nat_eq, Bool, List, [], ◌∷◌, find, map, slice_get, if◌then◌else◌}
use Rattle.std.specs.Option.{option_map_or}
use Rattle.mesh_post.specs.declared.row.Row.{Row}

-- whether a link leads from the node at one place to the node at another
abbrev pub between : ℕ → ℕ → Row → Bool
between from to row = nat_eq row.from from && nat_eq row.to to

-- the throughput of the first link from one node to another, or 0 where there is none
abbrev pub throughput_of : ℕ → ℕ → List Row → ℕ
throughput_of from to rows =
    option_map_or (λ (row : Row). row.tp) (find (between from to) rows) 0

-- the throughput of the link back, among some links
abbrev pub back_among : List Row → Row → ℕ
back_among rows row = throughput_of row.to row.from rows

-- that of each of them
abbrev pub backs_of : List Row → List ℕ
backs_of rows = map (back_among rows) rows

-- that of the one at a place, or 0 where there is none
abbrev pub back_over : List Row → ℕ → ℕ
back_over rows place = option_map_or (back_among rows) (slice_get rows place) 0

-- the numbers beside links, where that of each that passes a test is another
abbrev pub noted : (Row → Bool) → ℕ → List Row → List ℕ → List ℕ
noted test tp [] numbers = numbers
noted test tp (row ∷ rows) [] = []
noted test tp (row ∷ rows) (number ∷ numbers) =
    (if test row then tp else number) ∷ noted test tp rows numbers
