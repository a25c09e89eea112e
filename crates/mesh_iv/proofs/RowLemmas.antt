-- The rows of originators, whose lives and best neighbours the tables show apart: a row that is put,
-- the keys, and the row of a live originator.
use Rattle.std.proofs.Common.{◌≡◌, ◌∙◌, ℕ, ◌-◌, nat_lt, Bool, true, false, cond, List, [], ◌∷◌, map, Option, Some, None, option_and_then, option_map, unwrap_or, refl, sym, ap, ap₂, subst}
use Rattle.std.specs.List.Sorted.{IsStrictlySortedBy}
use Rattle.std.specs.Map.{keys_of, lookup}
use Rattle.std.proofs.lemmas.Map.Made.{keys_of-map_values, lookup-map_values}
use Rattle.mesh_base.specs.declared.address.Mac.{Mac}
use Rattle.mesh_model.specs.Routes.Addresses.{mac_order, same_mac}
use Rattle.mesh_model.specs.Routes.AlgorithmIv.{iv_life}
use Rattle.mesh_model.specs.Routes.BestRoute.{best_route}
use Rattle.mesh_model.specs.Routes.Hearings.{heard}
use Rattle.mesh_model.specs.Routes.Life.{HeardOgm, life, life_span, of, since}
use Rattle.mesh_model.specs.Routes.Quality.{average_quality}
use Rattle.mesh_model.specs.Routes.RouteLog.{RouteLog}
use Rattle.mesh_algo.specs.declared.life.Life.{Life}
use Rattle.mesh_algo.specs.LifeRows.{latest, life_row}
use Rattle.mesh_algo.specs.Walk.{best_in}
use Rattle.mesh_iv.specs.declared.row.Orig.{Orig}
use Rattle.mesh_iv.specs.Origs.{best_kept, bests_of, life_in, lives_of, orig_at, row_of_life}
use Rattle.mesh_iv.specs.Tables.{StandsFor, Tables, best_row}

-- a part of each row after one is put
pub part_put : {X : Type 0} (part : Orig → X) (orig : Mac) (row : Orig) (old new : List (Mac × Orig))
    → ((q : Mac) → lookup (same_mac q) new ≡ cond (same_mac orig q) (Some row) (lookup (same_mac q) old))
    → (q : Mac) → lookup (same_mac q) (map (λ e. (e.0, part e.1)) new) ≡ cond (same_mac orig q) (Some (part row)) (lookup (same_mac q) (map (λ e. (e.0, part e.1)) old))
part_put {X = X} part orig row old new updated q =
    lookup-map_values part (same_mac q) new ∙ ap (option_map part) (updated q) ∙ go (same_mac orig q)
  where
    go : (b : Bool) → option_map part (cond b (Some row) (lookup (same_mac q) old)) ≡ cond b (Some (part row)) (lookup (same_mac q) (map (λ e. (e.0, part e.1)) old))
    go true = refl
    go false = sym (lookup-map_values part (same_mac q) old)

-- the keys of the lives are those of the rows
pub keys_of_lives : (rows : List (Mac × Orig)) → keys_of (lives_of rows) ≡ keys_of rows
keys_of_lives rows = keys_of-map_values (λ (row : Orig). row.life) rows

-- so a row that is put leaves the lives in order as it does the rows
pub lives_rise : (old new : List (Mac × Orig)) → (IsStrictlySortedBy mac_order (keys_of old) → IsStrictlySortedBy mac_order (keys_of new))
    → IsStrictlySortedBy mac_order (keys_of (lives_of old)) → IsStrictlySortedBy mac_order (keys_of (lives_of new))
lives_rise old new rise sorted =
    subst (IsStrictlySortedBy mac_order) (sym (keys_of_lives new)) (rise (subst (IsStrictlySortedBy mac_order) (keys_of_lives old) sorted))

-- ---- the row of a live originator
-- one whose parts are those of the last life
row_now : (moment : ℕ) (hearings : List HeardOgm) (o : Option Orig) → option_map (λ (row : Orig). row.life) o ≡ life_row (latest hearings) → option_map (λ (row : Orig). row.best) o ≡ best_row (latest hearings)
    → option_and_then (orig_at moment) o ≡ row_of_life (life moment hearings)
row_now moment [] None life_is best_is = refl
row_now moment [] (Some row) life_is best_is = cc
row_now moment (h ∷ older) None life_is best_is = cc
row_now moment (h ∷ older) (Some row) life_is best_is =
    ap₂ (λ l b. orig_at moment (record { life = l; best = b })) (ap (λ o. unwrap_or o row.life) life_is) (ap (λ o. unwrap_or o row.best) best_is)
    ∙ elim (nat_lt (moment - h.moment) life_span) as (λ b. option_map (with_best (h ∷ since h older)) (cond b (life_row (h ∷ since h older)) None) ≡ row_of_life (cond b (h ∷ since h older) [])) [
      | true ↦ refl
      | false ↦ refl
    ]
  where
    with_best : List HeardOgm → Life → Orig
    with_best alive life = record { life = life; best = best_in (average_quality alive) alive }

-- by the table
pub live_row : (me : Mac) (tables : Tables) (log : RouteLog) (rows : List (Mac × Orig)) → StandsFor me tables log → lives_of rows ≡ tables.lives → bests_of rows ≡ tables.bests
    → (moment : ℕ) (orig : Mac) → option_and_then (orig_at moment) (lookup (same_mac orig) rows) ≡ row_of_life (iv_life me log moment orig)
live_row me tables log rows stands lives bests moment orig =
    row_now moment (of orig (heard me log)) (lookup (same_mac orig) rows)
    (sym (lookup-map_values (λ (row : Orig). row.life) (same_mac orig) rows) ∙ ap (lookup (same_mac orig)) lives ∙ stands.lives_stand.are orig)
    (sym (lookup-map_values (λ (row : Orig). row.best) (same_mac orig) rows) ∙ ap (lookup (same_mac orig)) bests ∙ stands.bests_stand orig)

-- its life and its best neighbour
pub life_kept : (alive : List HeardOgm) → life_in (row_of_life alive) ≡ life_row alive
life_kept [] = refl
life_kept (h ∷ older) = refl

pub best_is_kept : (alive : List HeardOgm) → best_kept (row_of_life alive) ≡ best_in (average_quality alive) alive
unfolding best_route
best_is_kept [] = refl
best_is_kept (h ∷ older) = refl

pub row_life : (alive : List HeardOgm) (row : Orig) → row_of_life alive ≡ Some row → life_row alive ≡ Some row.life
row_life alive row e = sym (life_kept alive) ∙ ap life_in e

pub row_best : (alive : List HeardOgm) (row : Orig) → row_of_life alive ≡ Some row → row.best ≡ best_in (average_quality alive) alive
row_best alive row e = sym (ap best_kept e) ∙ best_is_kept alive

pub no_row : (alive : List HeardOgm) → row_of_life alive ≡ None → life_row alive ≡ None
no_row alive e = sym (life_kept alive) ∙ ap life_in e
