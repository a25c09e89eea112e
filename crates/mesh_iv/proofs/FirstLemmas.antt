-- An OGM that is the first of its number from its neighbour: its value, whether it is sent on, and the
-- tables after it.
use Rattle.std.proofs.Common.{◌≡◌, ℕ, max, nat_lt, Bool, true, false, cond, not, ◌&&◌, ◌||◌, List, ◌∷◌, is_none, Option, Some, None, arith, refl, sym, ap, ap₂, ◌∙◌}
use Rattle.std.specs.Map.{lookup}
use Rattle.mesh_base.specs.declared.address.Mac.{Mac}
use Rattle.mesh_model.specs.Routes.Addresses.{same_mac}
use Rattle.mesh_model.specs.Routes.AlgorithmIv.{answer_to, iv_route}
use Rattle.mesh_model.specs.Routes.BestRoute.{best_route, is_over}
use Rattle.mesh_model.specs.Routes.Life.{HeardOgm, began_wild, of, is_live, newest, is_accepted, is_first, forwarded}
use Rattle.mesh_model.specs.Routes.Numbers.{has, among}
use Rattle.mesh_model.specs.Routes.Quality.{average_quality}
use Rattle.mesh_model.specs.Routes.RouteLog.{RouteLog}
use Rattle.mesh_algo.proofs.LifeLemmas.{next_newest, of_same}
use Rattle.mesh_laws.proofs.MacLemmas.{same_exact, same_equiv, same_self}
use Rattle.mesh_algo.specs.LifeRows.{first_hearing, forwarded_by, latest, life_row, newest_by}
use Rattle.mesh_algo.specs.Pairs.{rows_kept, same_pair}
use Rattle.mesh_algo.specs.Walk.{best_in, is_best, walk}
use Rattle.mesh_algo.proofs.BestWalk.{best_is_over}
use Rattle.mesh_algo.proofs.HearingLemmas.{answered, has_sent, next_life, timely_from}
use Rattle.mesh_algo.proofs.LifeRows.{before_is_latest, forwarded_by_row, newest_by_row, no_life}
use Rattle.mesh_algo.proofs.PutLemmas.{kept_own, put_other, put_own}
use Rattle.mesh_iv.specs.declared.ogm.OgmCame.{OgmCame}
use Rattle.mesh_iv.specs.declared.path.Path.{Path}
use Rattle.mesh_algo.specs.declared.life.Life.{Life}
use Rattle.mesh_algo.specs.declared.pair.Pair.{Pair}
use Rattle.mesh_iv.specs.Hears.{IsHeard, input_of, life_before, hearing_of, kept_row, goes_on, head_on, sent_on_as}
use Rattle.mesh_iv.specs.Rows.{path_row, path_score, path_with, echo_row}
use Rattle.mesh_iv.specs.Tables.{Tables, StandsFor, PathsStand}
use Rattle.mesh_algo.specs.Writing.{IsWritten}
use Rattle.mesh_iv.specs.Writing.{is_over_after, life_then, pair_of}
use Rattle.mesh_iv.proofs.BestWalk.{walk_finds}
use Rattle.mesh_iv.proofs.HeardRows.{first_row, other_row}
use Rattle.mesh_iv.proofs.ValueLemmas.{is_met}
use Rattle.mesh_iv.proofs.StepLemmas.{bests_step, hearings, echoes, v, other_orig, lives_step, paths_step, step_stands}

-- the mark of being sent on changes no route
marked_route : (g : HeardOgm) (b : Bool) (l : List HeardOgm) → iv_route (record g { sent_on = b } ∷ l) ≡ iv_route (g ∷ l)
unfolding best_route average_quality among
marked_route g b l = refl

module _ (me : Mac) (log : RouteLog) (came : OgmCame) (first : is_first (hearing_of me log came) (life_before me log came) ≡ true) where
  abbrev own : HeardOgm
  own = hearing_of me log came

  abbrev lived : List HeardOgm
  lived = life_before me log came

  on_time : own.late ≡ false
  on_time = timely_from own lived first

  newest_then : newest (own ∷ lived) ≡ max came.seq (newest lived)
  newest_then = next_newest came.from own lived on_time

  -- ---- whether it is sent on
  pub sent_is : (row : Option Life) → row ≡ life_row lived → own.sent_on ≡ goes_on came own.value (forwarded_by row) (is_over came.from (iv_route (own ∷ lived)))
  sent_is row e =
      let g = v me log came in
      let rest : Option Mac → List HeardOgm → Bool = λ route l. nat_lt 1 came.ttl && (same_mac came.from came.orig || (nat_lt 0 own.value && (is_over came.from route && not (has came.seq (forwarded l))))) in
      ap (λ b. b && rest (iv_route (g ∷ lived)) lived) first
      ∙ ap (λ route. rest route lived) (sym (marked_route g own.sent_on lived))
      ∙ ap (λ b. nat_lt 1 came.ttl && (same_mac came.from came.orig || (nat_lt 0 own.value && (is_over came.from (iv_route (own ∷ lived)) && not b)))) (sym (has_sent own (of came.orig (hearings me log came)) (is_met me log came) on_time) ∙ ap (λ l. has came.seq l) (sym (forwarded_by_row lived row e)))

  -- ---- the tables
  module _ (restarted : Option ℕ) (row : Option Life) (path : Path) (value : ℕ) (old new : Tables)
      (is : IsHeard me old log came row) (path_is : path ≡ kept_row came.from lived) (value_is : value ≡ own.value)
      (written : IsWritten (pair_of came) (is_none row) (path_with path came.seq value) (life_then came restarted row value new.paths) (old.lives, old.paths) (new.lives, new.paths)) where
    put_row : (pair : Pair) → same_mac came.from pair.from ≡ true → Some (path_with path came.seq value) ≡ path_row pair.from (own ∷ lived)
    put_row pair t =
        ap₂ (λ p n. Some (path_with p came.seq n)) (path_is ∙ ap (λ k. kept_row k lived) (same_exact came.from pair.from t)) value_is
        ∙ sym (first_row pair.from own lived first t)

    kept_path : (r : Option Life) → r ≡ life_row lived → (pair : Pair) → same_mac came.orig pair.orig ≡ true → lookup (same_pair pair) (rows_kept (is_none r) came.orig old.paths) ≡ path_row pair.from lived
    kept_path None e pair t =
        kept_own came.orig pair old.paths (same_equiv.symm pair.orig came.orig ∙ t) ∙ sym (ap (λ l. path_row pair.from l) (no_life lived (sym e)))
    kept_path (Some r) e pair t =
        let same = same_exact came.orig pair.orig t in
        is.stands.paths_stand.are pair
        ∙ ap (λ b. cond b (echo_row (echoes me log came pair.from)) (path_row pair.from (latest (of pair.orig (hearings me log came))))) (ap (λ o. same_mac o me) (sym same) ∙ other_orig me log came is.passing)
        ∙ ap (λ o. path_row pair.from (latest (of o (hearings me log came)))) (sym same)
        ∙ ap (λ l. path_row pair.from l) (sym (before_is_latest own (of came.orig (hearings me log came)) r (sym e)))

    own_rows : (pair : Pair) → same_mac came.orig pair.orig ≡ true → lookup (same_pair pair) new.paths ≡ path_row pair.from (own ∷ lived)
    own_rows pair t =
        put_own (pair_of came) (path_with path came.seq value) (is_none row) old.paths new.paths written.paths_are (path_row pair.from (own ∷ lived)) pair t
        (put_row pair) (λ s. kept_path row is.row_is pair t ∙ sym (other_row pair.from own lived s))

    others : (pair : Pair) → same_mac came.orig pair.orig ≡ false → lookup (same_pair pair) new.paths ≡ lookup (same_pair pair) old.paths
    others = put_other (pair_of came) (path_with path came.seq value) (is_none row) old.paths new.paths written.paths_are

    paths_then : PathsStand me (own ∷ hearings me log came) (echoes me log came) new.paths
    paths_then =
        paths_step me log came old.paths new.paths is.stands.paths_stand (other_orig me log came is.passing) own_rows others (written.paths_rise is.stands.paths_stand.rise)

    -- the best neighbour is then that of the route
    pub over_then : is_over_after came row new.paths ≡ is_over came.from (iv_route (own ∷ lived))
    over_then =
        let last : latest (of came.orig (own ∷ hearings me log came)) ≡ own ∷ lived
        = ap (λ l. latest l) (of_same came.orig own (hearings me log came) (same_self came.orig)) in
        let top : max (newest_by row) came.seq ≡ newest (own ∷ lived)
        = (let n = newest_by_row lived row is.row_is in let t = newest_then in omega (arith, n, t)) in
        ap (λ n. is_best came.from (walk (path_score n) came.orig None new.paths)) (top ∙ ap (λ l. newest l) (sym last))
        ∙ ap (λ b. is_best came.from b) (walk_finds me (own ∷ hearings me log came) (echoes me log came) new.paths came.orig paths_then (other_orig me log came is.passing))
        ∙ ap (λ l. is_best came.from (best_in (average_quality l) l)) last
        ∙ best_is_over came.from (average_quality (own ∷ lived)) (own ∷ lived)

    sent_then : goes_on came value (forwarded_by row) (is_over_after came row new.paths) ≡ own.sent_on
    sent_then = ap₂ (λ n b. goes_on came n (forwarded_by row) b) value_is over_then ∙ sym (sent_is row is.row_is)

    life_is : restarted ≡ began_wild (own ∷ lived) → Some (life_then came restarted row value new.paths) ≡ life_row (own ∷ lived)
    life_is began = next_life own lived row restarted _ is.row_is began on_time sent_then

    top_is : max (newest_by row) came.seq ≡ newest (own ∷ lived)
    top_is = let n = newest_by_row lived row is.row_is in let t = newest_then in omega (arith, n, t)

    pub first_stands : (tp : ℕ) → restarted ≡ began_wild (own ∷ lived) → new.me ≡ old.me → new.sent ≡ old.sent
        → ((q : Mac) → lookup (same_mac q) new.bests ≡ cond (same_mac came.orig q) (Some (walk (path_score (max (newest_by row) came.seq)) came.orig None new.paths)) (lookup (same_mac q) old.bests)) → StandsFor me new (input_of came tp ∷ log)
    first_stands tp began same_me same_sent bests =
        step_stands me log came tp old new is.stands is.passing same_me same_sent
        (lives_step me log came old.lives new.lives is.stands.lives_stand
        (λ q. written.origs_are q is.stands.paths_stand.rise ∙ ap (λ r. cond (same_mac came.orig q) r (lookup (same_mac q) old.lives)) (life_is began))
        (written.origs_rise is.stands.lives_stand.rise))
        paths_then
        (bests_step me log came old.bests new.bests new.paths (max (newest_by row) came.seq) is.stands.bests_stand paths_then (other_orig me log came is.passing) top_is bests)

    -- ---- the answer
    pub first_answer : (f : Option _) → f ≡ sent_on_as came value (forwarded_by row) (is_over_after came row new.paths) → first_hearing came.seq row f ≡ answer_to own lived
    first_answer f sent =
        answered own lived row is.row_is on_time f
        ∙ ap (λ y. record { accepted = is_accepted own lived; began = not (is_live lived); forward = y })
        (sent ∙ ap₂ (λ b o. cond b (Some (head_on came value o)) None) sent_then over_then ∙ ap (λ n. cond own.sent_on (Some (head_on came n (is_over came.from (iv_route (own ∷ lived))))) None) value_is)
