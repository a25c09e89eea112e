-- The rows of the two tables, and what each says of the hearings and the ELPs. The main words are
-- `orig_with` and `path_row`.
use Rattle.std.specs.Prelude.{⊤, ℕ, ◌+◌, ◌-◌, ◌<◌, nat_le, nat_lt, Bool, false, List, [], ◌∷◌, Option, Some, None, if◌then◌else◌}
use Rattle.std.specs.Map.{lookup}
use Rattle.mesh_base.specs.declared.address.Mac.{Mac}
use Rattle.mesh_model.specs.Routes.Addresses.{same_mac}
use Rattle.mesh_model.specs.Routes.Life.{HeardOgm, numbers_from, value_at}
use Rattle.mesh_model.specs.Routes.Neighbours.{ElpHeard, elp_age}
use Rattle.mesh_model.specs.Routes.Numbers.{greatest, window}
use Rattle.mesh_model.specs.Routes.Quality.{average_length}
use Rattle.mesh_algo.specs.declared.best.Best.{Best}
use Rattle.mesh_algo.specs.declared.life.Life.{Life}
use Rattle.mesh_algo.specs.LifeRows.{life_at}
use Rattle.mesh_v.specs.declared.path.Path.{Path}
use Rattle.mesh_v.specs.declared.row.LastElp.{LastElp}
use Rattle.mesh_v.specs.declared.row.Orig.{Orig}

-- ---- originators
-- the row of an ELP
abbrev pub elp_row : Option ElpHeard → Option LastElp
elp_row None = None
elp_row (Some elp) = Some (record { moment = elp.moment; throughput = elp.throughput })

-- the row of an originator with a life, an ELP or both
abbrev pub orig_with : Option Life → Option LastElp → Option Orig
orig_with None None = None
orig_with None (Some elp) = Some (record { life = None; elp = Some elp })
orig_with (Some life) elp = Some (record { life = Some life; elp = elp })

-- the life in a row, if there are both
abbrev pub life_in : Option Orig → Option Life
life_in None = None
life_in (Some row) = row.life

-- the ELP in a row, if there are both
abbrev pub elp_in : Option Orig → Option LastElp
elp_in None = None
elp_in (Some row) = row.elp

-- a life at a moment, if it is one then
abbrev pub still_life : ℕ → Option Life → Option Life
still_life moment None = None
still_life moment (Some life) = life_at moment life

-- whether an ELP is young enough at a moment
abbrev pub is_young_row : ℕ → LastElp → Bool
is_young_row moment elp = nat_lt (moment - elp.moment) elp_age

-- whether a neighbour of this ELP is up at a moment
abbrev pub is_up_by : ℕ → Option LastElp → Bool
is_up_by moment None = false
is_up_by moment (Some elp) = is_young_row moment elp

-- whether a neighbour is up at a moment, by the rows of originators
abbrev pub up_in : ℕ → List (Mac × Orig) → Mac → Bool
up_in moment rows k = is_up_by moment (elp_in (lookup (same_mac k) rows))

-- ---- pairs
-- a row of a pair by the numbers heard, where there are any, and the value of each
abbrev pub row_of : List ℕ → (ℕ → ℕ) → Option Path
row_of [] value = None
row_of (number ∷ numbers) value = Some (record {
  heard = window (number ∷ numbers);
  value = value (greatest (number ∷ numbers));
})

-- the row of an originator and a neighbour, by the originator's last life
abbrev pub path_row : Mac → List HeardOgm → Option Path
path_row k alive = row_of (numbers_from k alive) (λ number. value_at number k alive)

-- a row of nothing heard
abbrev pub blank : Path
blank = record { heard = []; value = 0 }

-- a row after a number is heard for the first time
abbrev pub path_with : Path → ℕ → ℕ → Path
path_with path seq value = record {
  heard = window (seq ∷ path.heard);
  value = if nat_le (greatest path.heard) seq then value else path.value;
}

-- what the greatest number of a row is worth, while it is among the originator's newest five
abbrev pub value_in : ℕ → Path → ℕ
value_in top path = if nat_lt top (greatest path.heard + average_length) then path.value else 0

-- the score of a neighbour's row, by the originator's newest number
abbrev pub path_score : (Mac → Bool) → ℕ → Mac → Path → ℕ
path_score up top k path = if up k then value_in top path else 0

-- a neighbour of a score if it wins, else what is best
abbrev pub winner : Bool → Option Best → Mac → ℕ → Option Best
winner wins best k score = if wins then Some (record { from = k; score = score }) else best

-- what is best has a score above 0
abbrev pub IsPositive : Option Best → Type 0
IsPositive None = ⊤
IsPositive (Some best) = 0 < best.score
