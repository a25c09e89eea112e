-- The rows of pairs, and what each says of the hearings. The main word is `path_row`.
use Rattle.std.specs.Prelude.{ℕ, ◌-◌, ◌/◌, ◌==◌, nat_lt, nat_le, max, List, [], ◌∷◌, take, sum, count_by, slice_index, Option, Some, None, if◌then◌else◌}
use Rattle.mesh_base.specs.declared.address.Mac.{Mac}
use Rattle.mesh_model.specs.Routes.Life.{HeardOgm, numbers_from, value_at}
use Rattle.mesh_model.specs.Routes.Numbers.{greatest, window}
use Rattle.mesh_iv.specs.declared.path.Path.{Path}

-- the value of the number so far below the greatest heard from a neighbour, 0 below number 0
abbrev pub value_below : ℕ → Mac → List HeardOgm → ℕ
value_below back k alive =
    if nat_le back (greatest (numbers_from k alive)) then
    value_at (greatest (numbers_from k alive) - back) k alive
    else 0

-- a value for each of five places
abbrev pub five : (ℕ → ℕ) → List ℕ
five value = value 0 ∷ value 1 ∷ value 2 ∷ value 3 ∷ value 4 ∷ []

-- a row of a pair by the numbers heard, where there are any, and the values
abbrev pub row_of : List ℕ → List ℕ → Option Path
row_of [] values = None
row_of (number ∷ numbers) values =
    Some (record { heard = window (number ∷ numbers); values = values })

-- the row of an originator and a neighbour, by the originator's last life
abbrev pub path_row : Mac → List HeardOgm → Option Path
path_row k alive = row_of (numbers_from k alive) (five (λ back. value_below back k alive))

-- the row of an own number's echoes, which have no values
abbrev pub echo_row : List ℕ → Option Path
echo_row echoes = row_of echoes (five (λ back. 0))

-- a row of nothing heard
abbrev pub blank : Path
blank = record { heard = []; values = five (λ back. 0) }

-- the value at a place of a row whose values move so far back
abbrev pub value_moved : List ℕ → ℕ → ℕ → ℕ
value_moved values i by = if nat_lt i by then 0 else slice_index values (i - by)

-- the value at a place of a row after a number is heard
abbrev pub value_with : Path → ℕ → ℕ → ℕ → ℕ
value_with path seq value i =
    let top = max (greatest path.heard) seq in
    if i == (top - seq) then value else value_moved path.values i (top - greatest path.heard)

-- a row after a number is heard
abbrev pub path_with : Path → ℕ → ℕ → Path
path_with path seq value = record {
  heard = window (seq ∷ path.heard);
  values = five (value_with path seq value);
}

-- the floored mean of the values above 0
abbrev pub mean_of : List ℕ → ℕ
mean_of values =
    if count_by (λ value. nat_lt 0 value) values == 0 then 0
    else sum values / count_by (λ value. nat_lt 0 value) values

-- the mean of a row's good values among the newest five numbers
abbrev pub average_of : ℕ → Path → ℕ
average_of top path = mean_of (take (5 - (top - greatest path.heard)) path.values)

-- the score of a neighbour's row, by the originator's newest number
abbrev pub path_score : ℕ → Mac → Path → ℕ
path_score top k path = average_of top path
