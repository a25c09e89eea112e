-- Walks over next nodes, and the least node of a loop, with which it begins. No clause of a public
-- call cites this file. The main word is `IsNoted`.
use Rattle.std.specs.Prelude.{◌≡◌, true, false, List, [], ◌∷◌, Option, None, Some, ◌⊎◌}
use Rattle.std.specs.List.{list_any}
use Rattle.mesh_base.specs.declared.address.Mac.{Mac}
use Rattle.mesh_model.specs.declared.route_line.RoutePair.{RoutePair}
use Rattle.mesh_model.specs.Loops.Routes.{is_least_of, same_pair}
use Rattle.mesh_model.specs.Routes.Addresses.{same_mac}
use Rattle.mesh_loops.specs.declared.when.When.{When}
use Rattle.mesh_loops.specs.Changed.{nexts_at, pair_of}
use Rattle.mesh_loops.specs.Watch.{Kept}

-- next nodes lead to a goal from a node over others, none of which is the goal
abbrev pub Leads : (Mac → Option Mac) → Mac → Mac → List Mac → Type 0
Leads next goal node [] = next node ≡ Some goal
Leads next goal node (after ∷ rest) =
    (next node ≡ Some after) × (same_mac after goal ≡ false) × Leads next goal after rest

-- a node is in a loop, of which this is the least
pub record HasHead (next : Mac → Option Mac) (node head : Mac) : Type 0 where
  pub rest : List Mac
  pub leads : Leads next node node rest
  pub among : list_any (same_mac head) (node ∷ rest) ≡ true
  pub least : is_least_of (node ∷ rest) head ≡ true

-- the least node of a pair's loop, if it has one, is among these
abbrev pub IsNoted : Kept → When → List RoutePair → RoutePair → Type 0
IsNoted kept when heads pair =
    (head : Mac) → HasHead (nexts_at kept when pair.orig) pair.node head →
    list_any (same_pair (pair_of pair.orig head)) heads ≡ true

-- those of all these pairs are
abbrev pub AreNoted : Kept → When → List RoutePair → List RoutePair → Type 0
AreNoted kept when heads pairs =
    (pair : RoutePair) → list_any (same_pair pair) pairs ≡ true → IsNoted kept when heads pair

-- each of some pairs is among others
abbrev pub AreAmong : List RoutePair → List RoutePair → Type 0
AreAmong some others = (pair : RoutePair) →
    list_any (same_pair pair) some ≡ true → list_any (same_pair pair) others ≡ true

-- ---- a walk that notes where it was

-- the least node of a pair's loop is among these, or is that of the loop of the pair where a walk is
abbrev pub IsOnWay : Kept → When → List RoutePair → RoutePair → RoutePair → Type 0
IsOnWay kept when heads here pair =
    (head : Mac) → HasHead (nexts_at kept when pair.orig) pair.node head →
    (list_any (same_pair (pair_of pair.orig head)) heads ≡ true)
    ⊎ ((pair.orig ≡ here.orig) × HasHead (nexts_at kept when here.orig) here.node head)

-- a walk from a pair is here, and so is all that was seen on its way
pub record IsWay (kept : Kept) (when : When) (heads seen : List RoutePair)
    (start here : RoutePair) : Type 0 where
  pub all : (pair : RoutePair) → list_any (same_pair pair) seen ≡ true →
      IsOnWay kept when heads here pair
  pub first : IsOnWay kept when heads here start

-- a walk from a pair ended where the least nodes of the loops of all that was seen are noted; or
-- it is where it was before
abbrev pub HasMet :
    Kept → When → List RoutePair → List RoutePair → RoutePair → Option RoutePair → Type 0
HasMet kept when heads seen start None =
    AreNoted kept when heads seen × IsNoted kept when heads start
HasMet kept when heads seen start (Some here) = IsWay kept when heads seen start here
