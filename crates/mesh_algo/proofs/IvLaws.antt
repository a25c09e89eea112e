-- The answers of algorithm IV keep the laws of routing algorithms.
use Rattle.std.proofs.Common.{◌≡◌, ◌↔◌, ℕ, ◌+◌, ◌%◌, ◌==◌, ◌<◌, nat_lt, Bool, true, false, cond, List, [], ◌∷◌, length, map, filter_map, is_some, IsSome, IfSome, IsTrue, Option, Some, None, arith, refl, sym, ap, ap₂, ◌∙◌}
use Rattle.std.proofs.lemmas.Bool.{eqb-true, eq-eqb, false≢true, true≢false}
use Rattle.mesh_base.specs.declared.address.Mac.{Mac}
use Rattle.mesh_model.specs.declared.packet.Head.{Head}
use Rattle.mesh_model.specs.declared.route.LinkRow.TheVariants.{Iv}
use Rattle.mesh_model.specs.Routes.AlgorithmIv.{iv_queries, iv_route, iv_answer, answer_to, own_ogm}
use Rattle.mesh_model.specs.Routes.BestRoute.{best, best_route, route_metric, orig_row}
use Rattle.mesh_model.specs.Routes.Hearings.{before, heard, heard_with, hearing}
use Rattle.mesh_model.specs.Routes.Life.{HeardOgm, of, life, is_live, heard_originators}
use Rattle.mesh_model.specs.Routes.Numbers.{seen_among, window_length}
use Rattle.mesh_model.specs.Routes.Ogm.{Ogm, ogm_of_head, passes}
use Rattle.mesh_model.specs.Routes.Quality.{average_quality, echo_quality, echoes_with, echoes_from, own_ogms, receive_quality}
use Rattle.mesh_model.specs.Routes.Queries.{is_ogm, unheard}
use Rattle.mesh_model.specs.Routes.RouteLog.{RouteLog, HeadCame}
use Rattle.mesh_algo.specs.AlgoLaws.{HasElps, HasRouteByMetric, HasLiveRoutes, HasOgmAtEvenTicks, HasSameAnswers, HearsNoneBut, IgnoresAllBut, SendsElps, SendsOgms}
use Rattle.mesh_algo.proofs.BestLemmas.{IsTop, is_among, best_is_top}

pub by_top : (score : Mac → ℕ) (among : Mac → Bool) (route : Option Mac) → IsTop score among route → IsSome route ↔ (0 < route_metric score route)
by_top score among None top = (λ e. absurd (false≢true e), λ lt. absurd (omega (arith, lt)))
by_top score among (Some k) top = (λ e. top.0, λ lt. refl)

pub iv_routes : (me : Mac) → HasRouteByMetric (iv_queries me)
unfolding best_route
iv_routes me = λ log moment orig.
    let alive = life moment (of orig (heard me log)) in
    let senders = map (λ (h : HeardOgm). h.from) alive in
    by_top (average_quality alive) (is_among senders) (best (average_quality alive) senders) (best_is_top (average_quality alive) senders)

live_by : (alive : List HeardOgm) → IsSome (iv_route alive) → IsTrue (is_live alive)
unfolding best_route
live_by [] some = absurd (false≢true some)
live_by (h ∷ older) some = refl

pub iv_live_routes : (me : Mac) → HasLiveRoutes (iv_queries me)
iv_live_routes me = λ log moment orig. live_by (life moment (of orig (heard me log)))

pub even_by : (index : ℕ) (head : Head) → IsSome (cond (index % 2 == 0) (Some head) None) ↔ (index % 2 ≡ 0)
even_by index head =
    elim (index % 2 == 0) as (λ b. (index % 2 == 0) ≡ b → IsSome (cond b (Some head) None) ↔ (index % 2 ≡ 0)) [
      | true ↦ λ t. (λ e. eqb-true (index % 2) 0 t, λ e. refl)
      | false ↦ λ t. (λ e. absurd (false≢true e), λ e. absurd (true≢false (sym (eq-eqb (index % 2) 0 e) ∙ t)))
    ] refl

pub iv_ogms : (me : Mac) → HasOgmAtEvenTicks (iv_queries me)
iv_ogms me = λ log index. even_by index _

pub ogm_if : (b : Bool) (head : Head) → IsTrue (is_ogm head) → IfSome (cond b (Some head) None) (λ h. IsTrue (is_ogm h))
ogm_if true head is = is
ogm_if false head is = tt

sent_ogm : (me : Mac) (moment : ℕ) (from : Mac) (m : Option Ogm) (older : List HeardOgm) (echo : ℕ) → IfSome (iv_answer me moment from m older echo).forward (λ h. IsTrue (is_ogm h))
sent_ogm me moment from None older echo = tt
sent_ogm me moment from (Some m) older echo =
    elim (passes me m) as (λ b. IfSome (cond b (answer_to (hearing moment from m older echo) (before (hearing moment from m older echo) older)) unheard).forward (λ h. IsTrue (is_ogm h))) [
      | true ↦ ogm_if (hearing moment from m older echo).sent_on _ refl
      | false ↦ tt
    ]

pub iv_ogm_heads : (me : Mac) → SendsOgms (iv_queries me)
iv_ogm_heads me = record {
  own = λ log index. ogm_if (index % 2 == 0) (own_ogm me (own_ogms log + 1)) refl;
  forwarded = λ log moment from throughput came. sent_ogm me moment from (ogm_of_head came) (heard me log) (echo_quality me from log);
}

no_ogm : (m : Option Ogm) → is_some m ≡ false → m ≡ None
no_ogm None e = refl
no_ogm (Some m) e = absurd (true≢false e)

module _ (me : Mac) (log : RouteLog) (moment : ℕ) (from : Mac) (tp : ℕ) (head : Head) (other : is_some (ogm_of_head head) ≡ false) where
  none : ogm_of_head head ≡ None
  none = no_ogm (ogm_of_head head) other

  other_unheard : (iv_queries me).hear log moment from tp head ≡ unheard
  other_unheard = ap (λ m. iv_answer me moment from m (heard me log) (echo_quality me from log)) none

  heard_same : heard me (HeadCame moment from tp head ∷ log) ≡ heard me log
  heard_same = ap (λ m. heard_with me moment from m (heard me log) (echo_quality me from log)) none

  echoes_same : (k : Mac) → echo_quality me k (HeadCame moment from tp head ∷ log) ≡ echo_quality me k log
  echoes_same k = ap (λ m. length (seen_among (own_ogms log) window_length (echoes_with me k (own_ogms log) from m (echoes_from me k log)))) none

  other_kinds : HasSameAnswers (iv_queries me) (HeadCame moment from tp head ∷ log) log
  other_kinds = record {
    beats = λ index. refl;
    hear = λ m f t h. ap₂ (λ l e. iv_answer me m f (ogm_of_head h) l e) heard_same (echoes_same f);
    metric = λ m o. ap (λ l. route_metric (average_quality (life m (of o l))) (iv_route (life m (of o l)))) heard_same;
    route = λ m o. ap (λ l. iv_route (life m (of o l))) heard_same;
    live = λ m o. ap (λ l. is_live (life m (of o l))) heard_same;
    originators = λ m. ap (λ l. filter_map (λ o. orig_row (average_quality (life m (of o l))) m o (life m (of o l))) (heard_originators l)) heard_same;
    neighbours = λ m i. filter_map (λ k. cond (nat_lt 0 (receive_quality m k (heard_same i))) (Some (Iv k (receive_quality m k (heard_same i)) (echoes_same k i))) None) (heard_originators (heard_same i));
  }

pub iv_elps : (me : Mac) → HasElps (iv_queries me) false
iv_elps me = λ log index. refl

pub iv_elp_heads : (me : Mac) → SendsElps (iv_queries me)
iv_elp_heads me = λ log index. tt

pub iv_other_unheard : (me : Mac) → HearsNoneBut (iv_queries me) (λ head. is_some (ogm_of_head head))
iv_other_unheard me = λ log moment from tp head other. other_unheard me log moment from tp head other

pub iv_other_kinds : (me : Mac) → IgnoresAllBut (iv_queries me) (λ head. is_some (ogm_of_head head))
iv_other_kinds me = λ log moment from tp head other. other_kinds me log moment from tp head other
