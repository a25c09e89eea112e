-- How the tables of algorithm IV stand for a log: each row is what the hearings say of its key, and
-- the keys ascend. An originator has a row from its first hearing on, and beside it the best neighbour
-- of its last life. The rows under the node's own address are for its echoes. The main word is
-- `StandsFor`.
use Rattle.std.specs.Prelude.{◌≡◌, ℕ, List, [], ◌∷◌, Option, Some, None, if◌then◌else◌}
use Rattle.std.specs.List.Sorted.{IsStrictlySortedBy}
use Rattle.std.specs.Map.{keys_of, lookup}
use Rattle.mesh_base.specs.declared.address.Mac.{Mac}
use Rattle.mesh_model.specs.Routes.Addresses.{mac_order, same_mac}
use Rattle.mesh_model.specs.Routes.Hearings.{heard}
use Rattle.mesh_model.specs.Routes.Life.{HeardOgm, of}
use Rattle.mesh_model.specs.Routes.Quality.{average_quality, own_ogms, echoes_from}
use Rattle.mesh_model.specs.Routes.RouteLog.{RouteLog}
use Rattle.mesh_algo.specs.declared.best.Best.{Best}
use Rattle.mesh_algo.specs.declared.life.Life.{Life}
use Rattle.mesh_algo.specs.declared.pair.Pair.{Pair}
use Rattle.mesh_algo.specs.LifeRows.{latest, life_row}
use Rattle.mesh_algo.specs.Pairs.{pair_order, same_pair}
use Rattle.mesh_algo.specs.Walk.{best_in}
use Rattle.mesh_iv.specs.declared.path.Path.{Path}
use Rattle.mesh_iv.specs.Rows.{path_row, echo_row}

-- a node's own address and last number, the rows of its two tables, and the best neighbours
pub record Tables : Type 0 where
  pub me : Mac
  pub sent : ℕ
  pub lives : List (Mac × Life)
  pub paths : List (Pair × Path)
  pub bests : List (Mac × Option Best)

-- these rows of originators are what the hearings say
pub record LivesStand (hearings : List HeardOgm) (lives : List (Mac × Life)) : Type 0 where
  pub are : (orig : Mac) → lookup (same_mac orig) lives ≡ life_row (latest (of orig hearings))
  pub rise : IsStrictlySortedBy mac_order (keys_of lives)

-- the row of a pair at the node of an address, by the hearings, and by the echoes from each
-- neighbour
abbrev pub path_at : Mac → List HeardOgm → (Mac → List ℕ) → Pair → Option Path
path_at me hearings echoes pair =
    if same_mac pair.orig me then echo_row (echoes pair.from)
    else path_row pair.from (latest (of pair.orig hearings))

-- these rows of pairs are what the hearings and the echoes say
pub record PathsStand (me : Mac) (hearings : List HeardOgm) (echoes : Mac → List ℕ)
    (paths : List (Pair × Path)) : Type 0 where
  pub are : (pair : Pair) → lookup (same_pair pair) paths ≡ path_at me hearings echoes pair
  pub rise : IsStrictlySortedBy pair_order (keys_of paths)

-- the best neighbour of a life, if there is one, where it is a life
abbrev pub best_row : List HeardOgm → Option (Option Best)
best_row [] = None
best_row (h ∷ older) = Some (best_in (average_quality (h ∷ older)) (h ∷ older))

-- these are the best neighbours to the originators
abbrev pub BestsStand : List HeardOgm → List (Mac × Option Best) → Type 0
BestsStand hearings bests =
    (orig : Mac) → lookup (same_mac orig) bests ≡ best_row (latest (of orig hearings))

-- these tables are those of the node of an address by its log
pub record StandsFor (me : Mac) (tables : Tables) (log : RouteLog) : Type 0 where
  pub me_is : tables.me ≡ me
  pub sent_is : tables.sent ≡ own_ogms log
  pub lives_stand : LivesStand (heard me log) tables.lives
  pub paths_stand : PathsStand me (heard me log) (λ k. echoes_from me k log) tables.paths
  pub bests_stand : BestsStand (heard me log) tables.bests
