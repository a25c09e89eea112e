-- Each key of the two tables is the originator, or the originator and the neighbour, of an OGM in
-- the log. So the tables grow with originators times neighbours alone. The main word is
-- `HasKeysOfOgms`.
use Rattle.std.specs.Prelude.{◌&&◌, ◌||◌, Bool, false, [], ◌∷◌, Option, Some, None, IsSome, IsTrue}
use Rattle.std.specs.Map.{lookup}
use Rattle.mesh_base.specs.declared.address.Mac.{Mac}
use Rattle.mesh_model.specs.Routes.Addresses.{same_mac}
use Rattle.mesh_model.specs.Routes.Ogm.{Ogm, ogm_of_head}
use Rattle.mesh_model.specs.Routes.RouteLog.{RouteLog, OwnTick, HeadCame}
use Rattle.mesh_algo.specs.declared.pair.Pair.{Pair}
use Rattle.mesh_algo.specs.Pairs.{same_pair}
use Rattle.mesh_iv.specs.Tables.{Tables}

-- whether an OGM is of an originator
abbrev pub is_of : Mac → Option Ogm → Bool
is_of orig None = false
is_of orig (Some m) = same_mac orig m.orig

-- whether an OGM of an originator is in a log
abbrev pub names_orig : Mac → RouteLog → Bool
names_orig orig [] = false
names_orig orig (OwnTick moment index ∷ older) = names_orig orig older
names_orig orig (HeadCame moment from throughput head ∷ older) =
    is_of orig (ogm_of_head head) || names_orig orig older

-- whether an OGM of an originator that came from a neighbour is in a log
abbrev pub names_pair : Pair → RouteLog → Bool
names_pair pair [] = false
names_pair pair (OwnTick moment index ∷ older) = names_pair pair older
names_pair pair (HeadCame moment from throughput head ∷ older) =
    (is_of pair.orig (ogm_of_head head) && same_mac pair.from from) || names_pair pair older

-- every key of tables that stand for a log is of an OGM in it
pub record HasKeysOfOgms (tables : Tables) (log : RouteLog) : Type 0 where
  pub lives : (orig : Mac) → IsSome (lookup (same_mac orig) tables.lives)
      → IsTrue (names_orig orig log)
  pub paths : (pair : Pair) → IsSome (lookup (same_pair pair) tables.paths)
      → IsTrue (names_pair pair log)
