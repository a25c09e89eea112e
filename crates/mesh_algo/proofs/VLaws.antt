-- The answers of algorithm V keep the laws of routing algorithms.
use Rattle.std.proofs.Common.{◌≡◌, ℕ, ◌+◌, ◌&&◌, ◌||◌, Bool, true, false, cond, List, [], ◌∷◌, map, filter_map, is_some, IsSome, IfSome, IsTrue, Option, Some, None, refl, ap}
use Rattle.std.specs.Option.{option_map_or}
use Rattle.std.proofs.lemmas.Bool.{false≢true, true≢false}
use Rattle.mesh_base.specs.declared.address.Mac.{Mac}
use Rattle.mesh_model.specs.declared.packet.Head.{Head}
use Rattle.mesh_model.specs.Routes.Addresses.{insert_mac, same_mac}
use Rattle.mesh_model.specs.Routes.AlgorithmV.{answer_to_v, own_ogm_v, v_answer, v_life, v_queries, v_score}
use Rattle.mesh_model.specs.Routes.BestRoute.{best, best_route, route_metric, orig_row}
use Rattle.mesh_model.specs.Routes.Hearings.{before}
use Rattle.mesh_model.specs.Routes.HearingsV.{heard_v, heard_with_v, hearing_v, passes_v, path_throughput}
use Rattle.mesh_model.specs.Routes.Life.{HeardOgm, of, life, is_live, heard_originators}
use Rattle.mesh_model.specs.Routes.Neighbours.{ElpHeard, elp_senders, is_own_elp, is_up, is_young, last_elp, row_by_elp}
use Rattle.mesh_model.specs.Routes.Ogm2.{OgmV, elp_of_head, ogm2_of_head}
use Rattle.mesh_model.specs.Routes.Quality.{own_ogms}
use Rattle.mesh_model.specs.Routes.Queries.{is_ogm, unheard}
use Rattle.mesh_model.specs.Routes.RouteLog.{RouteLog, HeadCame, is_ogm_tick}
use Rattle.mesh_algo.specs.AlgoLaws.{HasElps, HasRouteByMetric, HasLiveRoutes, HasOgmAtEvenTicks, HasSameAnswers, HearsNoneBut, IgnoresAllBut, SendsElps, SendsOgms}
use Rattle.mesh_algo.proofs.BestLemmas.{is_among, best_is_top}
use Rattle.mesh_algo.proofs.IvLaws.{by_top, even_by, ogm_if}

-- whether a head is heard: an OGM of throughputs, or an ELP
abbrev pub is_heard : Head → Bool
is_heard head = is_some (ogm2_of_head head) || is_some (elp_of_head head)

pub v_routes : (me : Mac) → HasRouteByMetric (v_queries me)
unfolding best_route
v_routes me = λ log moment orig.
    let alive = v_life me log moment orig in
    let senders = map (λ (h : HeardOgm). h.from) alive in
    by_top (v_score log moment alive) (is_among senders) (best (v_score log moment alive) senders) (best_is_top (v_score log moment alive) senders)

live_by : (score : List HeardOgm → Mac → ℕ) (alive : List HeardOgm) → IsSome (best_route (score alive) alive) → IsTrue (is_live alive)
unfolding best_route
live_by score [] some = absurd (false≢true some)
live_by score (h ∷ older) some = refl

pub v_live_routes : (me : Mac) → HasLiveRoutes (v_queries me)
v_live_routes me = λ log moment orig. live_by (v_score log moment) (v_life me log moment orig)

pub v_ogms : (me : Mac) → HasOgmAtEvenTicks (v_queries me)
v_ogms me = λ log index. even_by index _

sent_ogm : (me : Mac) (up : Mac → Bool) (moment : ℕ) (from : Mac) (tp : ℕ) (m : Option OgmV) (older : List HeardOgm) → IfSome (v_answer me up moment from tp m older).forward (λ h. IsTrue (is_ogm h))
sent_ogm me up moment from tp None older = tt
sent_ogm me up moment from tp (Some m) older =
    elim (passes_v me (up from) m) as (λ b. IfSome (cond b (answer_to_v m.flags (hearing_v up moment from tp m older) (before (hearing_v up moment from tp m older) older)) unheard).forward (λ h. IsTrue (is_ogm h))) [
      | true ↦ ogm_if (hearing_v up moment from tp m older).sent_on _ refl
      | false ↦ tt
    ]

pub v_ogm_heads : (me : Mac) → SendsOgms (v_queries me)
v_ogm_heads me = record {
  own = λ log index. ogm_if (is_ogm_tick index) (own_ogm_v me (own_ogms log + 1)) refl;
  forwarded = λ log moment from throughput came. sent_ogm me (λ k. is_up moment k log) moment from throughput (ogm2_of_head came) (heard_v me log);
}

pub v_elps : (me : Mac) → HasElps (v_queries me) true
v_elps me = λ log index. refl

pub v_elp_heads : (me : Mac) → SendsElps (v_queries me)
v_elp_heads me = λ log index. refl

neither : (m : Option OgmV) (elp : Option Mac) → (is_some m || is_some elp) ≡ false → (m ≡ None) × (elp ≡ None)
neither None None e = (refl, refl)
neither None (Some orig) e = absurd (true≢false e)
neither (Some m) elp e = absurd (true≢false e)

module _ (me : Mac) (log : RouteLog) (moment : ℕ) (from : Mac) (tp : ℕ) (head : Head) (other : is_heard head ≡ false) where
  none : (ogm2_of_head head ≡ None) × (elp_of_head head ≡ None)
  none = neither (ogm2_of_head head) (elp_of_head head) other

  other_unheard : (v_queries me).hear log moment from tp head ≡ unheard
  other_unheard = ap (λ m. v_answer me (λ k. is_up moment k log) moment from tp m (heard_v me log)) none.0

  heard_same : heard_v me (HeadCame moment from tp head ∷ log) ≡ heard_v me log
  heard_same = ap (λ m. heard_with_v me (λ k. is_up moment k log) moment from tp m (heard_v me log)) none.0

  elp_same : (k : Mac) → last_elp k (HeadCame moment from tp head ∷ log) ≡ last_elp k log
  elp_same k =
      let came : ElpHeard = record { moment = moment; throughput = tp } in
      ap (λ e. cond (is_own_elp from e && same_mac from k) (Some came) (last_elp k log)) none.1

  up_same : (m : ℕ) (k : Mac) → is_up m k (HeadCame moment from tp head ∷ log) ≡ is_up m k log
  up_same m k = ap (λ e. option_map_or (is_young m) e false) (elp_same k)

  senders_same : elp_senders (HeadCame moment from tp head ∷ log) ≡ elp_senders log
  senders_same = ap (λ e. cond (is_own_elp from e) (insert_mac from (elp_senders log)) (elp_senders log)) none.1

  other_kinds : HasSameAnswers (v_queries me) (HeadCame moment from tp head ∷ log) log
  other_kinds = record {
    beats = λ index. refl;
    hear = λ m f t h i. v_answer me (λ k. up_same m k i) m f t (ogm2_of_head h) (heard_same i);
    metric = λ m o i. (let alive = life m (of o (heard_same i)) in route_metric (path_throughput (λ k. up_same m k i) alive) (best_route (path_throughput (λ k. up_same m k i) alive) alive));
    route = λ m o i. (let alive = life m (of o (heard_same i)) in best_route (path_throughput (λ k. up_same m k i) alive) alive);
    live = λ m o. ap (λ l. is_live (life m (of o l))) heard_same;
    originators = λ m i. filter_map (λ o. orig_row (path_throughput (λ k. up_same m k i) (life m (of o (heard_same i)))) m o (life m (of o (heard_same i)))) (heard_originators (heard_same i));
    neighbours = λ m i. filter_map (λ k. row_by_elp m k (elp_same k i)) (senders_same i);
  }

pub v_other_unheard : (me : Mac) → HearsNoneBut (v_queries me) is_heard
v_other_unheard me = λ log moment from tp head other. other_unheard me log moment from tp head other

pub v_other_kinds : (me : Mac) → IgnoresAllBut (v_queries me) is_heard
v_other_kinds me = λ log moment from tp head other. other_kinds me log moment from tp head other
