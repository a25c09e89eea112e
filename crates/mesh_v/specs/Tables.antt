-- How the two tables of algorithm V stand for a log: each row is what the hearings and the ELPs say
-- of its key, and the keys ascend. An originator has a row from its first hearing or its first own
-- ELP on. The main word is `StandsFor`.
use Rattle.std.specs.Prelude.{◌≡◌, ℕ, List, Option}
use Rattle.std.specs.List.Sorted.{IsStrictlySortedBy}
use Rattle.std.specs.Map.{keys_of, lookup}
use Rattle.mesh_base.specs.declared.address.Mac.{Mac}
use Rattle.mesh_model.specs.Routes.Addresses.{mac_order, same_mac}
use Rattle.mesh_model.specs.Routes.HearingsV.{heard_v}
use Rattle.mesh_model.specs.Routes.Life.{HeardOgm, of}
use Rattle.mesh_model.specs.Routes.Neighbours.{last_elp}
use Rattle.mesh_model.specs.Routes.Quality.{own_ogms}
use Rattle.mesh_model.specs.Routes.RouteLog.{RouteLog, own_ticks}
use Rattle.mesh_algo.specs.declared.pair.Pair.{Pair}
use Rattle.mesh_algo.specs.LifeRows.{latest, life_row}
use Rattle.mesh_algo.specs.Pairs.{pair_order, same_pair}
use Rattle.mesh_v.specs.declared.path.Path.{Path}
use Rattle.mesh_v.specs.declared.row.Orig.{Orig}
use Rattle.mesh_v.specs.Rows.{elp_row, orig_with, path_row}

-- a node's own address and last numbers, and the rows of its two tables
pub record Tables : Type 0 where
  pub me : Mac
  pub ogms : ℕ
  pub elps : ℕ
  pub origs : List (Mac × Orig)
  pub paths : List (Pair × Path)

-- the row of an originator, by the hearings and by the ELPs in a log
abbrev pub orig_at : List HeardOgm → RouteLog → Mac → Option Orig
orig_at hearings log orig =
    orig_with (life_row (latest (of orig hearings))) (elp_row (last_elp orig log))

-- these rows of originators are what the hearings and the ELPs say
pub record OrigsStand (hearings : List HeardOgm) (log : RouteLog) (origs : List (Mac × Orig))
    : Type 0 where
  pub are : (orig : Mac) → lookup (same_mac orig) origs ≡ orig_at hearings log orig
  pub rise : IsStrictlySortedBy mac_order (keys_of origs)

-- these rows of pairs are what the hearings say
pub record PathsStand (hearings : List HeardOgm) (paths : List (Pair × Path)) : Type 0 where
  pub are : (pair : Pair) →
      lookup (same_pair pair) paths ≡ path_row pair.from (latest (of pair.orig hearings))
  pub rise : IsStrictlySortedBy pair_order (keys_of paths)

-- these tables are those of the node of an address by its log
pub record StandsFor (me : Mac) (tables : Tables) (log : RouteLog) : Type 0 where
  pub me_is : tables.me ≡ me
  pub ogms_are : tables.ogms ≡ own_ogms log
  pub elps_are : tables.elps ≡ own_ticks log
  pub origs_stand : OrigsStand (heard_v me log) log tables.origs
  pub paths_stand : PathsStand (heard_v me log) tables.paths
