-- What is written into the tables for an OGM that is the first of its number from its neighbour. No
-- public clause cites this module.
use Rattle.std.specs.Prelude.{ℕ, max, Bool, List, Option, Some, None}
use Rattle.mesh_base.specs.declared.address.Mac.{Mac}
use Rattle.mesh_algo.specs.declared.life.Life.{Life}
use Rattle.mesh_algo.specs.declared.pair.Pair.{Pair}
use Rattle.mesh_algo.specs.LifeRows.{forwarded_by, life_with, newest_by}
use Rattle.mesh_algo.specs.Walk.{is_best, walk}
use Rattle.mesh_v.specs.declared.ogm.OgmCame.{OgmCame}
use Rattle.mesh_v.specs.declared.path.Path.{Path}
use Rattle.mesh_v.specs.declared.row.LastElp.{LastElp}
use Rattle.mesh_v.specs.declared.row.Orig.{Orig}
use Rattle.mesh_v.specs.Hears.{goes_on}
use Rattle.mesh_v.specs.Rows.{path_score, up_in}

-- the originator and the neighbour of an OGM
abbrev pub pair_of : OgmCame → Pair
pair_of came = record { orig = came.orig; from = came.from }

-- whether the best neighbour is then that from which the OGM came
abbrev pub is_over_after : OgmCame → Option Life → List (Mac × Orig) → List (Pair × Path) → Bool
is_over_after came life origs paths =
    is_best came.from (walk (path_score (up_in came.moment origs) (max (newest_by life) came.seq))
    came.orig None paths)

-- the originator's row is then this, in a life that began with a restart at a moment, if so
abbrev pub orig_then : OgmCame → Option LastElp → Option ℕ → Option Life → ℕ → List (Mac × Orig)
    → List (Pair × Path) → Orig
orig_then came elp restarted life value origs paths = record {
  life = Some (life_with came.moment came.seq restarted life
      (goes_on came value (forwarded_by life) (is_over_after came life origs paths)));
  elp = elp;
}
