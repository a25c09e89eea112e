-- What tables that stand for a log answer.
use Rattle.std.proofs.Common.{◌≡◌, ℕ, Bool, List, [], Some, None, refl, sym, ap, ◌∙◌, subst}
use Rattle.std.specs.List.Sorted.{IsStrictlySortedBy}
use Rattle.std.specs.Map.{keys_of, lookup}
use Rattle.mesh_base.specs.declared.address.Mac.{Mac}
use Rattle.mesh_model.specs.Routes.Addresses.{mac_order, same_mac}
use Rattle.mesh_model.specs.Routes.AlgorithmV.{v_life, v_score}
use Rattle.mesh_model.specs.Routes.BestRoute.{best_route}
use Rattle.mesh_model.specs.Routes.HearingsV.{heard_v, path_throughput}
use Rattle.mesh_model.specs.Routes.Life.{HeardOgm, of, newest, numbers_from, value_at}
use Rattle.mesh_model.specs.Routes.Neighbours.{is_up}
use Rattle.mesh_model.specs.Routes.RouteLog.{RouteLog}
use Rattle.mesh_algo.specs.declared.life.Life.{Life}
use Rattle.mesh_algo.specs.declared.pair.Pair.{Pair}
use Rattle.mesh_algo.specs.LifeRows.{latest, life_row}
use Rattle.mesh_algo.specs.Pairs.{pair_order, same_pair}
use Rattle.mesh_algo.specs.Walk.{best_in, walk}
use Rattle.mesh_algo.proofs.BestWalk.{walk_best}
use Rattle.mesh_algo.proofs.LifeRows.{life_is_latest, newest_of_row, no_life}
use Rattle.mesh_v.specs.declared.path.Path.{Path}
use Rattle.mesh_v.specs.declared.row.Orig.{Orig}
use Rattle.mesh_v.specs.Rows.{path_score, up_in}
use Rattle.mesh_v.specs.Tables.{PathsStand, StandsFor, Tables}
use Rattle.mesh_v.proofs.RowLemmas.{no_row, no_score, score_row, up_is}

-- the walk finds the best route of a life
pub walk_finds : (up : Mac → Bool) (hearings : List HeardOgm) (paths : List (Pair × Path)) (o : Mac) → PathsStand hearings paths
    → walk (path_score up (newest (latest (of o hearings)))) o None paths ≡ best_in (path_throughput up (latest (of o hearings))) (latest (of o hearings))
walk_finds up hearings paths o stand =
    let alive = latest (of o hearings) in
    walk_best (path_score up (newest alive)) (path_throughput up alive) o paths alive stand.rise
    (λ k path found. score_row up k alive path (sym (stand.are (record { orig = o; from = k })) ∙ found))
    (λ k none. no_score up k alive (no_row (numbers_from k alive) (λ n. value_at n k alive) (sym (stand.are (record { orig = o; from = k })) ∙ none)))
    (λ k none. no_score up k alive none)

pub best_none : (score : List HeardOgm → Mac → ℕ) (alive : List HeardOgm) → life_row alive ≡ None → None ≡ best_in (score alive) alive
unfolding best_route
best_none score alive e = sym (ap (λ l. best_in (score l) l) (no_life alive e))

pub best_some : (me : Mac) (tables : Tables) (log : RouteLog) (moment : ℕ) (o : Mac) (row : Life) → StandsFor me tables log → life_row (v_life me log moment o) ≡ Some row
    → walk (path_score (up_in moment tables.origs) row.newest) o None tables.paths ≡ best_in (v_score log moment (v_life me log moment o)) (v_life me log moment o)
best_some me tables log moment o row stands e =
    let alive = v_life me log moment o in
    let last = life_is_latest moment (of o (heard_v me log)) row e in
    let up : up_in moment tables.origs ≡ (λ k. is_up moment k log) = λ i k. up_is me tables log stands moment k i in
    ap (λ n. walk (path_score (up_in moment tables.origs) n) o None tables.paths) (newest_of_row alive row e ∙ ap (λ l. newest l) last)
    ∙ ap (λ u. walk (path_score u (newest (latest (of o (heard_v me log))))) o None tables.paths) up
    ∙ walk_finds (λ k. is_up moment k log) (heard_v me log) tables.paths o stands.paths_stand
    ∙ ap (λ l. best_in (v_score log moment l) l) (sym last)

-- ---- the first tables
pub new_stands : (me : Mac) (origs : List (Mac × Orig)) (paths : List (Pair × Path)) → origs ≡ [] → paths ≡ [] → StandsFor me (record { me = me; ogms = 0; elps = 0; origs = origs; paths = paths }) []
unfolding IsStrictlySortedBy
new_stands me origs paths none empty = record {
  me_is = refl;
  ogms_are = refl;
  elps_are = refl;
  origs_stand = record {
    are = λ o. ap (λ rows. lookup (same_mac o) rows) none;
    rise = subst (λ rows. IsStrictlySortedBy mac_order (keys_of rows)) (sym none) tt;
  };
  paths_stand = record {
    are = λ pair. ap (λ rows. lookup (same_pair pair) rows) empty;
    rise = subst (λ rows. IsStrictlySortedBy pair_order (keys_of rows)) (sym empty) tt;
  };
}
