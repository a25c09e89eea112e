-- What is written into the tables for an OGM that is the first of its number from its neighbour. No
-- public clause cites this module.
use Rattle.std.specs.Prelude.{◌≡◌, ℕ, ◌&&◌, nat_lt, max, Bool, false, List, Option, Some, None, IsSome, is_none, if◌then◌else◌}
use Rattle.std.specs.List.Sorted.{IsStrictlySortedBy}
use Rattle.std.specs.Map.{keys_of, lookup}
use Rattle.mesh_base.specs.declared.address.Mac.{Mac}
use Rattle.mesh_model.specs.Routes.Addresses.{same_mac}
use Rattle.mesh_algo.specs.declared.best.Best.{Best}
use Rattle.mesh_algo.specs.declared.life.Life.{Life}
use Rattle.mesh_algo.specs.declared.pair.Pair.{Pair}
use Rattle.mesh_algo.specs.LifeRows.{forwarded_by, life_with, newest_by}
use Rattle.mesh_algo.specs.Pairs.{pair_order, path_put, rows_kept, same_pair}
use Rattle.mesh_algo.specs.Walk.{is_best, walk}
use Rattle.mesh_iv.specs.declared.ogm.OgmCame.{OgmCame}
use Rattle.mesh_iv.specs.declared.path.Path.{Path}
use Rattle.mesh_iv.specs.Hears.{goes_on}
use Rattle.mesh_iv.specs.Rows.{path_score}

-- the originator and the neighbour of an OGM
abbrev pub pair_of : OgmCame → Pair
pair_of came = record { orig = came.orig; from = came.from }

-- the best neighbour is then this
abbrev pub best_after : OgmCame → Option Life → List (Pair × Path) → Option Best
best_after came life rows =
    walk (path_score (max (newest_by life) came.seq)) came.orig None rows

-- whether a neighbour was the best, with a greater score than this
abbrev pub has_fallen : Option Best → Mac → ℕ → Bool
has_fallen None k score = false
has_fallen (Some best) k score = same_mac best.from k && nat_lt score best.score

-- this was the best neighbour in the originator's life, where there was one
pub record IsKept (came : OgmCame) (life : Option Life) (kept : Option Best)
    (rows : List (Pair × Path)) : Type 0 where
  pub best_is : IsSome life → kept ≡ walk (path_score (newest_by life)) came.orig None rows

-- the row of an OGM was put among rows that ascend, of which this was the best neighbour
pub record IsPut (came : OgmCame) (life : Option Life) (kept : Option Best) (row : Path)
    (old new : List (Pair × Path)) : Type 0 where
  pub kept_is : IsKept came life kept old
  pub rows_are : (pair : Pair) → lookup (same_pair pair) new
      ≡ path_put (pair_of came) row (rows_kept (is_none life) came.orig old) pair
  pub rise : IsStrictlySortedBy pair_order (keys_of old)
  pub rise_then : IsStrictlySortedBy pair_order (keys_of new)

-- the best neighbour is put among those to the originators
abbrev pub IsBestPut : OgmCame → Option Life → List (Pair × Path) → List (Mac × Option Best)
    → List (Mac × Option Best) → Type 0
IsBestPut came life rows old new =
    (orig : Mac) → lookup (same_mac orig) new
    ≡ (if same_mac came.orig orig then Some (best_after came life rows)
    else lookup (same_mac orig) old)

-- whether that is the one from which the OGM came
abbrev pub is_over_after : OgmCame → Option Life → List (Pair × Path) → Bool
is_over_after came life rows = is_best came.from (best_after came life rows)

-- the originator's row is then this, in a life that began with a restart at a moment, if so
abbrev pub life_then : OgmCame → Option ℕ → Option Life → ℕ → List (Pair × Path) → Life
life_then came restarted life value rows =
    life_with came.moment came.seq restarted life
    (goes_on came value (forwarded_by life) (is_over_after came life rows))
