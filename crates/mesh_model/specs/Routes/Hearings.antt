-- What a node heard under algorithm IV, with what it decided at each hearing: how its number met
-- the originator's life, its value, and whether it was sent on. It is sent on where it is the first
-- of its number from its neighbour in the life, isn't late, may live longer, and either came from
-- the originator itself, or has a value and came over the best route as it then is, and the number
-- wasn't sent on in the life. The main word is `heard`.
use Rattle.std.specs.Prelude.{ℕ, ◌&&◌, ◌||◌, nat_lt, Bool, false, not, List, [], ◌∷◌, Option, Some, None, if◌then◌else◌}
use Rattle.mesh_base.specs.declared.address.Mac.{Mac}
use Rattle.mesh_model.specs.declared.route.Meeting.{Meeting}
use Rattle.mesh_model.specs.Routes.Addresses.{same_mac}
use Rattle.mesh_model.specs.Routes.BestRoute.{best_route, is_over}
use Rattle.mesh_model.specs.Routes.Life.{HeardOgm, of, since, life, meeting, is_first, forwarded}
use Rattle.mesh_model.specs.Routes.Numbers.{has}
use Rattle.mesh_model.specs.Routes.Ogm.{Ogm, ogm_of_head, passes}
use Rattle.mesh_model.specs.Routes.Quality.{echo_quality, receive_quality, transmit_quality, average_quality}
use Rattle.mesh_model.specs.Routes.RouteLog.{RouteLog, OwnTick, HeadCame}

-- the life before a hearing, of all the hearings before it
abbrev pub before : HeardOgm → List HeardOgm → List HeardOgm
before h older = since h (of h.orig older)

-- an OGM as a hearing after others: how its number meets the life that the originator then has
abbrev pub in_time : ℕ → Mac → Ogm → List HeardOgm → HeardOgm
in_time moment from m older =
    let met : Meeting = meeting moment m.seq (life moment (of m.orig older)) in
    record {
      moment = moment;
      orig = m.orig;
      from = from;
      seq = m.seq;
      ttl = m.ttl;
      late = met.late;
      restart = met.restart;
      value = 0;
      sent_on = false;
    }

-- the same with its value, by the echo quality; the receive quality counts this hearing
abbrev pub valued : ℕ → Mac → Ogm → List HeardOgm → ℕ → HeardOgm
valued moment from m older echo =
    let timed : HeardOgm = in_time moment from m older in
    record timed {
      value = transmit_quality m.tq echo (receive_quality moment from (timed ∷ older));
    }

-- whether a hearing is sent on, by the life before it
abbrev pub sends_on : HeardOgm → List HeardOgm → Bool
sends_on h alive =
    is_first h alive && (nat_lt 1 h.ttl && (same_mac h.from h.orig
    || (nat_lt 0 h.value && (is_over h.from (best_route (average_quality (h ∷ alive)) (h ∷ alive))
    && not (has h.seq (forwarded alive))))))

-- the hearing of an OGM after others
abbrev pub hearing : ℕ → Mac → Ogm → List HeardOgm → ℕ → HeardOgm
hearing moment from m older echo =
    let h : HeardOgm = valued moment from m older echo in
    record h { sent_on = sends_on h (before h older) }

-- what was heard, with an OGM after it
abbrev pub heard_with : Mac → ℕ → Mac → Option Ogm → List HeardOgm → ℕ → List HeardOgm
heard_with me moment from None older echo = older
heard_with me moment from (Some m) older echo =
    if passes me m then hearing moment from m older echo ∷ older else older

-- what the node of an address heard, newest first
abbrev pub heard : Mac → RouteLog → List HeardOgm
heard me [] = []
heard me (OwnTick moment index ∷ older) = heard me older
heard me (HeadCame moment from throughput head ∷ older) =
    heard_with me moment from (ogm_of_head head) (heard me older) (echo_quality me from older)
