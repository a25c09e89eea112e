-- An OGM that is the first of its number from its neighbour: whether it is sent on, and the tables
-- after it.
use Rattle.std.proofs.Common.{◌≡◌, ℕ, max, nat_lt, Bool, true, false, cond, not, ◌&&◌, List, ◌∷◌, is_none, Option, Some, None, arith, refl, sym, ap, ap₂, ◌∙◌}
use Rattle.std.specs.Map.{lookup}
use Rattle.mesh_base.specs.declared.address.Mac.{Mac}
use Rattle.mesh_model.specs.Routes.Addresses.{same_mac}
use Rattle.mesh_model.specs.Routes.AlgorithmV.{answer_to_v}
use Rattle.mesh_model.specs.Routes.BestRoute.{best_route, is_over}
use Rattle.mesh_model.specs.Routes.HearingsV.{path_throughput}
use Rattle.mesh_model.specs.Routes.Life.{HeardOgm, began_wild, of, is_live, newest, is_accepted, is_first, forwarded}
use Rattle.mesh_model.specs.Routes.Numbers.{has}
use Rattle.mesh_model.specs.Routes.RouteLog.{RouteLog}
use Rattle.mesh_laws.proofs.MacLemmas.{same_exact, same_equiv, same_self}
use Rattle.mesh_algo.specs.declared.life.Life.{Life}
use Rattle.mesh_algo.specs.declared.pair.Pair.{Pair}
use Rattle.mesh_algo.specs.LifeRows.{first_hearing, forwarded_by, latest, life_row, life_with, newest_by}
use Rattle.mesh_algo.specs.Pairs.{rows_kept, same_pair}
use Rattle.mesh_algo.specs.Walk.{best_in, is_best, walk}
use Rattle.mesh_algo.proofs.BestWalk.{best_is_over}
use Rattle.mesh_algo.proofs.HearingLemmas.{answered, has_sent, next_life, timely_from}
use Rattle.mesh_algo.proofs.LifeLemmas.{next_newest, of_same}
use Rattle.mesh_algo.proofs.LifeRows.{before_is_latest, forwarded_by_row, newest_by_row, no_life}
use Rattle.mesh_algo.proofs.PutLemmas.{kept_own, put_other, put_own}
use Rattle.mesh_v.specs.declared.ogm.OgmCame.{OgmCame}
use Rattle.mesh_v.specs.declared.path.Path.{Path}
use Rattle.mesh_v.specs.declared.row.LastElp.{LastElp}
use Rattle.mesh_v.specs.Hears.{IsHeard, goes_on, head_on, hearing_of, input_of, kept_row, life_before, sent_on_as, up_then}
use Rattle.mesh_v.specs.Rows.{path_row, path_score, path_with, up_in}
use Rattle.mesh_v.specs.Tables.{PathsStand, StandsFor, Tables}
use Rattle.mesh_algo.specs.Writing.{IsWritten}
use Rattle.mesh_v.specs.Writing.{is_over_after, orig_then, pair_of}
use Rattle.mesh_v.proofs.RowLemmas.{first_row, other_row, up_is}
use Rattle.mesh_v.proofs.StandLemmas.{walk_finds}
use Rattle.mesh_v.proofs.StepLemmas.{hearings, is_met, origs_step, paths_step, step_stands, v}

-- the best route in a life, by which neighbours are up
abbrev route_by : (Mac → Bool) → List HeardOgm → Option Mac
route_by up alive = best_route (path_throughput up alive) alive

-- the mark of being sent on changes no route
marked_route : (up : Mac → Bool) (g : HeardOgm) (b : Bool) (l : List HeardOgm) → route_by up (record g { sent_on = b } ∷ l) ≡ route_by up (g ∷ l)
unfolding best_route path_throughput
marked_route up g b l = refl

module _ (me : Mac) (log : RouteLog) (came : OgmCame) (first : is_first (hearing_of me log came) (life_before me log came) ≡ true) where
  abbrev own : HeardOgm
  own = hearing_of me log came

  abbrev lived : List HeardOgm
  lived = life_before me log came

  abbrev up : Mac → Bool
  up = up_then log came

  on_time : own.late ≡ false
  on_time = timely_from own lived first

  newest_then : newest (own ∷ lived) ≡ max came.seq (newest lived)
  newest_then = next_newest came.from own lived on_time

  -- ---- whether it is sent on
  sent_is : (row : Option Life) → row ≡ life_row lived → own.sent_on ≡ goes_on came own.value (forwarded_by row) (is_over came.from (route_by up (own ∷ lived)))
  sent_is row e =
      let g = v me log came in
      let rest : Option Mac → Bool → Bool = λ route sent. nat_lt 1 came.ttl && (nat_lt 0 own.value && (is_over came.from route && not sent)) in
      ap (λ b. b && rest (route_by up (g ∷ lived)) (has came.seq (forwarded lived))) first
      ∙ ap (λ route. rest route (has came.seq (forwarded lived))) (sym (marked_route up g own.sent_on lived))
      ∙ ap (λ b. rest (route_by up (own ∷ lived)) b) (sym (has_sent own (of came.orig (hearings me log came)) (is_met me log came) on_time) ∙ ap (λ l. has came.seq l) (sym (forwarded_by_row lived row e)))

  -- ---- the tables
  module _ (elp : Option LastElp) (restarted : Option ℕ) (row : Option Life) (path : Path) (value : ℕ) (old new : Tables)
      (is : IsHeard me old log came elp row) (path_is : path ≡ kept_row came.from lived) (value_is : value ≡ own.value)
      (written : IsWritten (pair_of came) (is_none row) (path_with path came.seq value) (orig_then came elp restarted row value old.origs new.paths) (old.origs, old.paths) (new.origs, new.paths)) where
    put_row : (pair : Pair) → same_mac came.from pair.from ≡ true → Some (path_with path came.seq value) ≡ path_row pair.from (own ∷ lived)
    put_row pair t =
        ap₂ (λ p n. Some (path_with p came.seq n)) (path_is ∙ ap (λ k. kept_row k lived) (same_exact came.from pair.from t)) value_is
        ∙ sym (first_row pair.from own lived first t)

    kept_path : (r : Option Life) → r ≡ life_row lived → (pair : Pair) → same_mac came.orig pair.orig ≡ true → lookup (same_pair pair) (rows_kept (is_none r) came.orig old.paths) ≡ path_row pair.from lived
    kept_path None e pair t =
        kept_own came.orig pair old.paths (same_equiv.symm pair.orig came.orig ∙ t) ∙ sym (ap (λ l. path_row pair.from l) (no_life lived (sym e)))
    kept_path (Some r) e pair t =
        is.stands.paths_stand.are pair
        ∙ ap (λ o. path_row pair.from (latest (of o (hearings me log came)))) (sym (same_exact came.orig pair.orig t))
        ∙ ap (λ l. path_row pair.from l) (sym (before_is_latest own (of came.orig (hearings me log came)) r (sym e)))

    own_rows : (pair : Pair) → same_mac came.orig pair.orig ≡ true → lookup (same_pair pair) new.paths ≡ path_row pair.from (own ∷ lived)
    own_rows pair t =
        put_own (pair_of came) (path_with path came.seq value) (is_none row) old.paths new.paths written.paths_are (path_row pair.from (own ∷ lived)) pair t
        (put_row pair) (λ s. kept_path row is.row_is pair t ∙ sym (other_row pair.from own lived s))

    others : (pair : Pair) → same_mac came.orig pair.orig ≡ false → lookup (same_pair pair) new.paths ≡ lookup (same_pair pair) old.paths
    others = put_other (pair_of came) (path_with path came.seq value) (is_none row) old.paths new.paths written.paths_are

    paths_then : PathsStand (own ∷ hearings me log came) new.paths
    paths_then = paths_step me log came old.paths new.paths is.stands.paths_stand own_rows others (written.paths_rise is.stands.paths_stand.rise)

    -- the best neighbour is then that of the route
    over_then : is_over_after came row old.origs new.paths ≡ is_over came.from (route_by up (own ∷ lived))
    over_then =
        let last : latest (of came.orig (own ∷ hearings me log came)) ≡ own ∷ lived
        = ap (λ l. latest l) (of_same came.orig own (hearings me log came) (same_self came.orig)) in
        let top : max (newest_by row) came.seq ≡ newest (own ∷ lived)
        = (let n = newest_by_row lived row is.row_is in let t = newest_then in omega (arith, n, t)) in
        let ups : up_in came.moment old.origs ≡ up = λ i k. up_is me old log is.stands came.moment k i in
        ap₂ (λ u n. is_best came.from (walk (path_score u n) came.orig None new.paths)) ups (top ∙ ap (λ l. newest l) (sym last))
        ∙ ap (λ b. is_best came.from b) (walk_finds up (own ∷ hearings me log came) new.paths came.orig paths_then)
        ∙ ap (λ l. is_best came.from (best_in (path_throughput up l) l)) last
        ∙ best_is_over came.from (path_throughput up (own ∷ lived)) (own ∷ lived)

    sent_then : goes_on came value (forwarded_by row) (is_over_after came row old.origs new.paths) ≡ own.sent_on
    sent_then = ap₂ (λ n b. goes_on came n (forwarded_by row) b) value_is over_then ∙ sym (sent_is row is.row_is)

    pub first_stands : restarted ≡ began_wild (own ∷ lived) → new.me ≡ old.me → new.ogms ≡ old.ogms → new.elps ≡ old.elps → StandsFor me new (input_of came ∷ log)
    first_stands began same_me same_ogms same_elps =
        step_stands me log came old new is.stands is.passing same_me same_ogms same_elps
        (origs_step me log came old.origs new.origs elp (life_with came.moment came.seq restarted row (goes_on came value (forwarded_by row) (is_over_after came row old.origs new.paths)))
        is.stands.origs_stand is.elp_is (next_life own lived row restarted _ is.row_is began on_time sent_then)
        (λ q. written.origs_are q is.stands.paths_stand.rise) (written.origs_rise is.stands.origs_stand.rise))
        paths_then

    -- ---- the answer
    pub first_answer : (f : Option _) → f ≡ sent_on_as came value (forwarded_by row) (is_over_after came row old.origs new.paths) → first_hearing came.seq row f ≡ answer_to_v came.flags own lived
    first_answer f sent =
        answered own lived row is.row_is on_time f
        ∙ ap (λ y. record { accepted = is_accepted own lived; began = not (is_live lived); forward = y })
        (sent ∙ ap₂ (λ s n. cond s (Some (head_on came n)) None) sent_then value_is)
