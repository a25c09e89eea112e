-- The walk over the rows of one originator, which finds the best neighbour by each row's score. The
-- main word is `walk`.
use Rattle.std.specs.Prelude.{ℕ, ◌&&◌, ◌||◌, nat_eq, nat_lt, Bool, false, List, [], ◌∷◌, Option, Some, None, option_map, if◌then◌else◌}
use Rattle.mesh_base.specs.declared.address.Mac.{Mac}
use Rattle.mesh_model.specs.Routes.Addresses.{same_mac, is_smaller}
use Rattle.mesh_model.specs.Routes.BestRoute.{best_route}
use Rattle.mesh_model.specs.Routes.Life.{HeardOgm}
use Rattle.mesh_algo.specs.declared.best.Best.{Best}
use Rattle.mesh_algo.specs.declared.pair.Pair.{Pair}

-- the best neighbour in a life, with its score
abbrev pub best_in : (Mac → ℕ) → List HeardOgm → Option Best
best_in score alive =
    option_map (λ k. record { from = k; score = score k }) (best_route score alive)

-- whether the best neighbour is this one
abbrev pub is_best : Mac → Option Best → Bool
is_best k None = false
is_best k (Some best) = same_mac best.from k

-- whether a neighbour of a score is better than what is best
abbrev pub is_better : Option Best → Mac → ℕ → Bool
is_better None k score = nat_lt 0 score
is_better (Some best) k score =
    nat_lt best.score score || (nat_eq best.score score && is_smaller k best.from)

-- the better of the two
abbrev pub better_row : Option Best → Mac → ℕ → Option Best
better_row best k score =
    if is_better best k score then Some (record { from = k; score = score }) else best

-- whether a row, if there is one, is an originator's
abbrev pub is_row_of : {X : Type 0} → Mac → Option (Pair × X) → Bool
is_row_of orig None = false
is_row_of orig (Some e) = same_mac e.0.orig orig

-- the best of an originator's rows, after what is best before, by the score of each neighbour's row
abbrev pub walk : {X : Type 0} → (Mac → X → ℕ) → Mac → Option Best → List (Pair × X) → Option Best
walk score orig best [] = best
walk score orig best (e ∷ rows) =
    if same_mac e.0.orig orig
    then walk score orig (better_row best e.0.from (score e.0.from e.1)) rows
    else walk score orig best rows

-- the same up to the first row of another originator
abbrev pub walk_front : {X : Type 0} → (Mac → X → ℕ) → Mac → Option Best → List (Pair × X)
    → Option Best
walk_front score orig best [] = best
walk_front score orig best (e ∷ rows) =
    if same_mac e.0.orig orig
    then walk_front score orig (better_row best e.0.from (score e.0.from e.1)) rows
    else best
