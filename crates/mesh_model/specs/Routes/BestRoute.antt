-- The best route to an originator: over the neighbour of greatest score above 0, in a tie over that
-- of the smaller address. Its metric is that score. Both algorithms choose so; they differ in the
-- score. The main word is `best_route`.
use Rattle.std.specs.Prelude.{ℕ, ◌-◌, ◌&&◌, ◌||◌, nat_eq, nat_lt, Bool, false, List, [], ◌∷◌, map, Option, Some, None, if◌then◌else◌}
use Rattle.mesh_base.specs.declared.address.Mac.{Mac}
use Rattle.mesh_model.specs.declared.route.OrigRow.{OrigRow}
use Rattle.mesh_model.specs.Routes.Addresses.{is_smaller, same_mac}
use Rattle.mesh_model.specs.Routes.Life.{HeardOgm, newest}

-- the better of a neighbour and what is best of others
abbrev pub better : (Mac → ℕ) → Mac → Option Mac → Option Mac
better score k None = if nat_lt 0 (score k) then Some k else None
better score k (Some j) =
    if nat_lt (score j) (score k) || (nat_eq (score j) (score k) && is_smaller k j) then Some k
    else Some j

-- the best of some neighbours
abbrev pub best : (Mac → ℕ) → List Mac → Option Mac
best score [] = None
best score (k ∷ rest) = better score k (best score rest)

-- the best of the neighbours from which an originator was heard in a life
unfoldable pub best_route : (Mac → ℕ) → List HeardOgm → Option Mac
best_route score alive = best score (map (λ h. h.from) alive)

-- the metric of a route, 0 without one
abbrev pub route_metric : (Mac → ℕ) → Option Mac → ℕ
route_metric score None = 0
route_metric score (Some k) = score k

-- whether a route goes over a neighbour
abbrev pub is_over : Mac → Option Mac → Bool
is_over k None = false
is_over k (Some j) = same_mac j k

-- an originator's row at a moment, by the life that it then has
abbrev pub orig_row : (Mac → ℕ) → ℕ → Mac → List HeardOgm → Option OrigRow
orig_row score moment orig [] = None
orig_row score moment orig (h ∷ older) = Some (record {
  orig = orig;
  seq = newest (h ∷ older);
  seen = moment - h.moment;
  next = best_route score (h ∷ older);
  metric = route_metric score (best_route score (h ∷ older));
})
