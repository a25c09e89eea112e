-- The rows of originators: each keeps a life, and beside it the best neighbour in that life. The
-- tables that stand for a log show the two apart. The main words are `lives_of` and `bests_of`.
use Rattle.std.specs.Prelude.{ℕ, List, map, Option, Some, None, option_map}
use Rattle.mesh_base.specs.declared.address.Mac.{Mac}
use Rattle.mesh_model.specs.Routes.Life.{HeardOgm}
use Rattle.mesh_model.specs.Routes.Quality.{average_quality}
use Rattle.mesh_algo.specs.declared.best.Best.{Best}
use Rattle.mesh_algo.specs.declared.life.Life.{Life}
use Rattle.mesh_algo.specs.LifeRows.{life_at, life_row}
use Rattle.mesh_algo.specs.Walk.{best_in}
use Rattle.mesh_iv.specs.declared.row.Orig.{Orig}

-- the life in each row
abbrev pub lives_of : List (Mac × Orig) → List (Mac × Life)
lives_of rows = map (λ row. (row.0, row.1.life)) rows

-- the best neighbour that each row keeps
abbrev pub bests_of : List (Mac × Orig) → List (Mac × Option Best)
bests_of rows = map (λ row. (row.0, row.1.best)) rows

-- a row, if its life is one at a moment
abbrev pub orig_at : ℕ → Orig → Option Orig
orig_at moment row =
    option_map (λ life. record { life = life; best = row.best }) (life_at moment row.life)

-- the row of an originator of this life, if it is one
abbrev pub row_of_life : List HeardOgm → Option Orig
row_of_life alive =
    option_map (λ life. record { life = life; best = best_in (average_quality alive) alive })
    (life_row alive)

-- the life in a row, if there is one
abbrev pub life_in : Option Orig → Option Life
life_in None = None
life_in (Some row) = Some row.life

-- the best neighbour that a row keeps, if there are both
abbrev pub best_kept : Option Orig → Option Best
best_kept None = None
best_kept (Some row) = row.best
