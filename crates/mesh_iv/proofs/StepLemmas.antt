-- The tables after an OGM is heard: what each part has to have, and an OGM that only keeps a life up.
use Rattle.std.proofs.Common.{◌≡◌, ⊎_elim, ℕ, nat_lt, nat_le, Bool, true, false, cond, not, ◌&&◌, ◌||◌, List, ◌∷◌, Option, Some, None, refl, sym, ap, ap₂, ◌∙◌, subst}
use Rattle.std.specs.List.Sorted.{IsStrictlySortedBy}
use Rattle.std.specs.Map.{keys_of, lookup}
use Rattle.std.proofs.lemmas.Bool.{cases_Bool, and_parts, not-true}
use Rattle.mesh_base.specs.declared.address.Mac.{Mac}
use Rattle.mesh_model.specs.Routes.Addresses.{mac_order, same_mac}
use Rattle.mesh_model.specs.Routes.AlgorithmIv.{answer_to, forward_head}
use Rattle.mesh_model.specs.Routes.BestRoute.{best_route, is_over}
use Rattle.mesh_model.specs.Routes.Hearings.{before, heard, sends_on, valued}
use Rattle.mesh_model.specs.Routes.Life.{HeardOgm, of, since, is_live, is_first, forwarded, newest}
use Rattle.mesh_model.specs.Routes.Numbers.{has}
use Rattle.mesh_model.specs.Routes.Ogm.{passes, has_flag}
use Rattle.mesh_model.specs.Packets.Numbers.{directlink_flag}
use Rattle.mesh_model.specs.Routes.Queries.{unheard}
use Rattle.mesh_model.specs.Routes.Quality.{average_quality, echo_quality, echoes_from, own_ogms}
use Rattle.mesh_model.specs.Routes.RouteLog.{RouteLog}
use Rattle.mesh_laws.proofs.MacLemmas.{same_exact, same_self}
use Rattle.mesh_algo.specs.Walk.{best_in, walk}
use Rattle.mesh_algo.proofs.LifeLemmas.{of_same}
use Rattle.mesh_algo.specs.declared.best.Best.{Best}
use Rattle.mesh_algo.specs.LifeRows.{latest, life_row, newest_by, touched}
use Rattle.mesh_algo.specs.Pairs.{pair_order, same_pair}
use Rattle.mesh_algo.proofs.HearingLemmas.{lives_on, not_accepted, touched_life}
use Rattle.mesh_algo.proofs.LifeRows.{before_is_latest, stays}
use Rattle.mesh_iv.specs.declared.ogm.OgmCame.{OgmCame}
use Rattle.mesh_iv.specs.declared.path.Path.{Path}
use Rattle.mesh_algo.specs.declared.life.Life.{Life}
use Rattle.mesh_algo.specs.declared.pair.Pair.{Pair}
use Rattle.mesh_iv.specs.Came.{ogm_in}
use Rattle.mesh_iv.specs.Hears.{IsHeard, input_of, life_before, hearing_of}
use Rattle.mesh_iv.specs.Rows.{path_row, path_score, echo_row}
use Rattle.mesh_iv.specs.Tables.{BestsStand, Tables, StandsFor, LivesStand, PathsStand, best_row, path_at}
use Rattle.mesh_iv.proofs.BestWalk.{walk_finds}
use Rattle.mesh_iv.proofs.HeardRows.{touched_row}

-- what isn't the first of its number isn't sent on
first_to_send : (g : HeardOgm) (l : List HeardOgm) → is_first g l ≡ false → sends_on g l ≡ false
first_to_send g l e =
    ap (λ b. b && (nat_lt 1 g.ttl && (same_mac g.from g.orig || (nat_lt 0 g.value && (is_over g.from (best_route (average_quality (g ∷ l)) (g ∷ l)) && not (has g.seq (forwarded l))))))) e

module _ (me : Mac) (log : RouteLog) (came : OgmCame) where
  abbrev pub hearings : List HeardOgm
  hearings = heard me log

  abbrev pub echoes : Mac → List ℕ
  echoes k = echoes_from me k log

  abbrev pub h : HeardOgm
  h = hearing_of me log came

  abbrev pub alive : List HeardOgm
  alive = life_before me log came

  -- the hearing before it is decided whether it is sent on
  abbrev pub v : HeardOgm
  v = valued came.moment came.from (ogm_in came) hearings (echo_quality me came.from log)

  pub other_orig : passes me (ogm_in came) ≡ true → same_mac came.orig me ≡ false
  other_orig p = not-true (same_mac came.orig me) (and_parts (not (same_mac came.orig me)) _ p).0

  heard_is : (tp : ℕ) → passes me (ogm_in came) ≡ true → heard me (input_of came tp ∷ log) ≡ h ∷ hearings
  heard_is tp p = ap (λ b. cond b (h ∷ hearings) hearings) p

  no_echo : (tp : ℕ) → same_mac came.orig me ≡ false → (k : Mac) → echoes_from me k (input_of came tp ∷ log) ≡ echoes k
  no_echo tp other k = ap (λ b. cond ((b && (has_flag directlink_flag came.flags && (nat_lt 0 came.seq && nat_le came.seq (own_ogms log)))) && same_mac came.from k) (came.seq ∷ echoes k) (echoes k)) other

  -- ---- the rows of originators
  pub lives_step : (old new : List (Mac × Life)) → LivesStand hearings old
      → ((q : Mac) → lookup (same_mac q) new ≡ cond (same_mac came.orig q) (life_row (h ∷ alive)) (lookup (same_mac q) old))
      → IsStrictlySortedBy mac_order (keys_of new) → LivesStand (h ∷ hearings) new
  lives_step old new stand updated sorted = record {
    are = λ q. updated q
        ∙ elim (same_mac came.orig q) as (λ b. same_mac came.orig q ≡ b → cond b (life_row (h ∷ alive)) (lookup (same_mac q) old) ≡ life_row (latest (cond b (h ∷ of q hearings) (of q hearings)))) [
          | true ↦ λ t. ap (λ o. life_row (h ∷ since h (of o hearings))) (same_exact came.orig q t)
          | false ↦ λ t. stand.are q
        ] refl;
    rise = sorted;
  }

  -- ---- the rows of pairs
  own_row : (pair : Pair) → same_mac came.orig me ≡ false → same_mac came.orig pair.orig ≡ true → path_row pair.from (h ∷ alive) ≡ path_at me (h ∷ hearings) echoes pair
  own_row pair other t =
      let own = same_exact came.orig pair.orig t in
      let not_me : same_mac pair.orig me ≡ false = ap (λ o. same_mac o me) (sym own) ∙ other in
      ap (λ o. path_row pair.from (h ∷ since h (of o hearings))) own
      ∙ ap (λ b. path_row pair.from (latest (cond b (h ∷ of pair.orig hearings) (of pair.orig hearings)))) (sym t)
      ∙ ap (λ b. cond b (echo_row (echoes pair.from)) (path_row pair.from (latest (of pair.orig (h ∷ hearings))))) (sym not_me)

  other_row : (pair : Pair) → same_mac came.orig pair.orig ≡ false → path_at me hearings echoes pair ≡ path_at me (h ∷ hearings) echoes pair
  other_row pair t = ap (λ b. cond (same_mac pair.orig me) (echo_row (echoes pair.from)) (path_row pair.from (latest (cond b (h ∷ of pair.orig hearings) (of pair.orig hearings))))) (sym t)

  pub paths_step : (old new : List (Pair × Path)) → PathsStand me hearings echoes old → same_mac came.orig me ≡ false
      → ((pair : Pair) → same_mac came.orig pair.orig ≡ true → lookup (same_pair pair) new ≡ path_row pair.from (h ∷ alive))
      → ((pair : Pair) → same_mac came.orig pair.orig ≡ false → lookup (same_pair pair) new ≡ lookup (same_pair pair) old)
      → IsStrictlySortedBy pair_order (keys_of new) → PathsStand me (h ∷ hearings) echoes new
  paths_step old new stand other own others sorted = record {
    are = λ pair. ⊎_elim (λ t. own pair t ∙ own_row pair other t) (λ t. others pair t ∙ stand.are pair ∙ other_row pair t) (cases_Bool (same_mac came.orig pair.orig));
    rise = sorted;
  }

  -- ---- both
  pub step_stands : (tp : ℕ) (old new : Tables) → StandsFor me old log → passes me (ogm_in came) ≡ true → new.me ≡ old.me → new.sent ≡ old.sent
      → LivesStand (h ∷ hearings) new.lives → PathsStand me (h ∷ hearings) echoes new.paths → BestsStand (h ∷ hearings) new.bests → StandsFor me new (input_of came tp ∷ log)
  step_stands tp old new stands p same_me same_sent lives paths bests = record {
    me_is = same_me ∙ stands.me_is;
    sent_is = same_sent ∙ stands.sent_is;
    lives_stand = record {
      are = λ q. lives.are q ∙ sym (ap (λ l. life_row (latest (of q l))) (heard_is tp p));
      rise = lives.rise;
    };
    paths_stand = record {
      are = λ pair. paths.are pair ∙ sym (ap₂ (λ l f. path_at me l f pair) (heard_is tp p) (λ i k. no_echo tp (other_orig p) k i));
      rise = paths.rise;
    };
    bests_stand = subst (λ l. BestsStand l new.bests) (sym (heard_is tp p)) bests;
  }

  -- ---- the best neighbours
  pub bests_step : (old new : List (Mac × Option Best)) (paths : List (Pair × Path)) (n : ℕ) → BestsStand hearings old → PathsStand me (h ∷ hearings) echoes paths → same_mac came.orig me ≡ false → n ≡ newest (h ∷ alive)
      → ((q : Mac) → lookup (same_mac q) new ≡ cond (same_mac came.orig q) (Some (walk (path_score n) came.orig None paths)) (lookup (same_mac q) old)) → BestsStand (h ∷ hearings) new
  bests_step old new paths n stand paths_stand other top updated q = updated q ∙ go (same_mac came.orig q) refl
    where
      last : latest (of came.orig (h ∷ hearings)) ≡ h ∷ alive
      last = ap latest (of_same came.orig h hearings (same_self came.orig))

      best : walk (path_score n) came.orig None paths ≡ best_in (average_quality (h ∷ alive)) (h ∷ alive)
      best =
          ap (λ m. walk (path_score m) came.orig None paths) (top ∙ ap newest (sym last))
          ∙ walk_finds me (h ∷ hearings) echoes paths came.orig paths_stand other
          ∙ ap (λ l. best_in (average_quality l) l) last

      go : (b : Bool) → same_mac came.orig q ≡ b → cond b (Some (walk (path_score n) came.orig None paths)) (lookup (same_mac q) old) ≡ best_row (latest (cond b (h ∷ of q hearings) (of q hearings)))
      go true t = ap Some best ∙ ap (λ o. best_row (h ∷ since h (of o hearings))) (same_exact came.orig q t)
      go false t = stand q

  -- ---- an OGM that is late or repeated
  pub not_sent : is_first h alive ≡ false → h.sent_on ≡ false
  not_sent first = first_to_send v (before v hearings) first

  pub touch_stands : (tp : ℕ) (row : Life) (old new : Tables) → IsHeard me old log came (Some row) → is_first h alive ≡ false → new.me ≡ old.me → new.sent ≡ old.sent
      → ((q : Mac) → lookup (same_mac q) new.lives ≡ cond (same_mac came.orig q) (Some (touched h.moment row)) (lookup (same_mac q) old.lives))
      → IsStrictlySortedBy mac_order (keys_of new.lives) → new.paths ≡ old.paths
      → ((q : Mac) → lookup (same_mac q) new.bests ≡ cond (same_mac came.orig q) (Some (walk (path_score row.newest) came.orig None new.paths)) (lookup (same_mac q) old.bests)) → StandsFor me new (input_of came tp ∷ log)
  touch_stands tp row old new is first same_me same_sent updated sorted same_paths bests =
      let other = other_orig is.passing in
      let last = before_is_latest h (of came.orig hearings) row (sym is.row_is) in
      let life_is : Some (touched h.moment row) ≡ life_row (h ∷ alive) = touched_life h alive row (sym is.row_is) first (not_sent first) (stays h (of came.orig hearings) row (sym is.row_is)) in
      let newest_is : row.newest ≡ newest (h ∷ alive) = ap (λ (o : Option Life). newest_by o) life_is in
      let paths = paths_step old.paths new.paths is.stands.paths_stand other
      (λ pair t. let own = same_exact came.orig pair.orig t in
      ap (λ rows. lookup (same_pair pair) rows) same_paths ∙ is.stands.paths_stand.are pair
      ∙ ap (λ b. cond b (echo_row (echoes pair.from)) (path_row pair.from (latest (of pair.orig hearings)))) (ap (λ o. same_mac o me) (sym own) ∙ other)
      ∙ ap (λ o. path_row pair.from (latest (of o hearings))) (sym own) ∙ ap (λ l. path_row pair.from l) (sym last) ∙ sym (touched_row pair.from h alive first))
      (λ pair t. ap (λ rows. lookup (same_pair pair) rows) same_paths)
      (subst (λ rows. IsStrictlySortedBy pair_order (keys_of rows)) (sym same_paths) is.stands.paths_stand.rise) in
      step_stands tp old new is.stands is.passing same_me same_sent
      (lives_step old.lives new.lives is.stands.lives_stand (λ q. updated q ∙ ap (λ r. cond (same_mac came.orig q) r (lookup (same_mac q) old.lives)) life_is) sorted)
      paths (bests_step old.bests new.bests new.paths row.newest is.stands.bests_stand paths other newest_is bests)

  -- nothing is made of it
  pub touch_answer : (row : Life) → life_row alive ≡ Some row → is_first h alive ≡ false → answer_to h alive ≡ unheard
  touch_answer row e first =
      ap₂ (λ a b. record { accepted = a; began = not (is_live alive); forward = cond b (Some (forward_head h (h ∷ alive))) None })
      (not_accepted h alive row e first) (not_sent first)
      ∙ ap (λ b. record { accepted = false; began = not b; forward = None }) (lives_on h alive alive row e)
