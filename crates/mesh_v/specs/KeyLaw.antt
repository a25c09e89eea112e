-- Each key of the two tables is the originator of an OGM or an ELP in the log, or the originator and
-- the neighbour of an OGM. So the tables grow with originators times neighbours alone. The main word
-- is `HasKeysOfHeads`.
use Rattle.std.specs.Prelude.{◌&&◌, ◌||◌, Bool, false, [], ◌∷◌, Option, Some, None, IsSome, IsTrue}
use Rattle.std.specs.Map.{lookup}
use Rattle.mesh_base.specs.declared.address.Mac.{Mac}
use Rattle.mesh_model.specs.Routes.Addresses.{same_mac}
use Rattle.mesh_model.specs.Routes.Ogm2.{OgmV, elp_of_head, ogm2_of_head}
use Rattle.mesh_model.specs.Routes.RouteLog.{RouteLog, OwnTick, HeadCame}
use Rattle.mesh_algo.specs.declared.pair.Pair.{Pair}
use Rattle.mesh_algo.specs.Pairs.{same_pair}
use Rattle.mesh_v.specs.Tables.{Tables}

-- whether an OGM is of an originator
abbrev pub is_of : Mac → Option OgmV → Bool
is_of orig None = false
is_of orig (Some m) = same_mac orig m.orig

-- whether an ELP is of an originator
abbrev pub is_elp_of : Mac → Option Mac → Bool
is_elp_of orig None = false
is_elp_of orig (Some sender) = same_mac orig sender

-- whether an OGM or an ELP of an originator is in a log
abbrev pub names_orig : Mac → RouteLog → Bool
names_orig orig [] = false
names_orig orig (OwnTick moment index ∷ older) = names_orig orig older
names_orig orig (HeadCame moment from throughput head ∷ older) =
    is_of orig (ogm2_of_head head) || (is_elp_of orig (elp_of_head head) || names_orig orig older)

-- whether an OGM of an originator that came from a neighbour is in a log
abbrev pub names_pair : Pair → RouteLog → Bool
names_pair pair [] = false
names_pair pair (OwnTick moment index ∷ older) = names_pair pair older
names_pair pair (HeadCame moment from throughput head ∷ older) =
    (is_of pair.orig (ogm2_of_head head) && same_mac pair.from from) || names_pair pair older

-- every key of tables that stand for a log is of an OGM or an ELP in it
pub record HasKeysOfHeads (tables : Tables) (log : RouteLog) : Type 0 where
  pub origs : (orig : Mac) → IsSome (lookup (same_mac orig) tables.origs)
      → IsTrue (names_orig orig log)
  pub paths : (pair : Pair) → IsSome (lookup (same_pair pair) tables.paths)
      → IsTrue (names_pair pair log)
