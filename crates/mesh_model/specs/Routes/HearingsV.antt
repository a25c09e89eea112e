-- What a node heard under algorithm V, with what it decided at each hearing, as in Hearings. An OGM
-- is heard where its originator is another node and its sender is up. Its value is the lesser of
-- the throughput that it tells and that of the link to its sender. The throughput of the path to an
-- originator over a neighbour is the value of the greatest number among the originator's newest
-- five that was heard from the neighbour, 0 where there is none or the neighbour isn't up. A
-- hearing is sent on where it is the first of its number from its neighbour in the life, isn't
-- late, may live longer, has a value, came over the best route as it then is, and its number wasn't
-- sent on in the life. The main words are `heard_v` and `path_throughput`.
use Rattle.std.specs.Prelude.{ℕ, ◌+◌, ◌&&◌, nat_lt, min, Bool, false, not, List, [], ◌∷◌, Option, Some, None, if◌then◌else◌}
use Rattle.mesh_base.specs.declared.address.Mac.{Mac}
use Rattle.mesh_model.specs.declared.route.Meeting.{Meeting}
use Rattle.mesh_model.specs.Routes.Addresses.{same_mac}
use Rattle.mesh_model.specs.Routes.BestRoute.{best_route, is_over}
use Rattle.mesh_model.specs.Routes.Hearings.{before}
use Rattle.mesh_model.specs.Routes.Life.{HeardOgm, of, life, meeting, newest, numbers_from, value_at, is_first, forwarded}
use Rattle.mesh_model.specs.Routes.Neighbours.{is_up}
use Rattle.mesh_model.specs.Routes.Numbers.{greatest, has}
use Rattle.mesh_model.specs.Routes.Ogm2.{OgmV, ogm2_of_head}
use Rattle.mesh_model.specs.Routes.Quality.{average_length}
use Rattle.mesh_model.specs.Routes.RouteLog.{RouteLog, OwnTick, HeadCame}

-- the greatest number heard from a neighbour, in a life
abbrev pub last_number : List HeardOgm → Mac → ℕ
last_number alive k = greatest (numbers_from k alive)

-- what that number is worth, while it is among the originator's newest five
abbrev pub last_value : List HeardOgm → Mac → ℕ
last_value alive k = if nat_lt (newest alive) (last_number alive k + average_length)
    then value_at (last_number alive k) k alive else 0

-- the throughput of the path over a neighbour, in a life, by which neighbours are up
unfoldable pub path_throughput : (Mac → Bool) → List HeardOgm → Mac → ℕ
path_throughput up alive k = if up k then last_value alive k else 0

-- whether an OGM is heard at the node of an address, from a neighbour that is up or not
abbrev pub passes_v : Mac → Bool → OgmV → Bool
passes_v me up m = not (same_mac m.orig me) && up

-- an OGM as a hearing after others, with its value by the throughput of the link to its sender
abbrev pub valued_v : ℕ → Mac → ℕ → OgmV → List HeardOgm → HeardOgm
valued_v moment from throughput m older =
    let met : Meeting = meeting moment m.seq (life moment (of m.orig older)) in
    record {
      moment = moment;
      orig = m.orig;
      from = from;
      seq = m.seq;
      ttl = m.ttl;
      late = met.late;
      restart = met.restart;
      value = min m.throughput throughput;
      sent_on = false;
    }

-- whether a hearing is sent on, by the life before it and by which neighbours are up
abbrev pub sends_on_v : (Mac → Bool) → HeardOgm → List HeardOgm → Bool
sends_on_v up h alive =
    is_first h alive && (nat_lt 1 h.ttl && (nat_lt 0 h.value
    && (is_over h.from (best_route (path_throughput up (h ∷ alive)) (h ∷ alive))
    && not (has h.seq (forwarded alive)))))

-- the hearing of an OGM after others
abbrev pub hearing_v : (Mac → Bool) → ℕ → Mac → ℕ → OgmV → List HeardOgm → HeardOgm
hearing_v up moment from throughput m older =
    let h : HeardOgm = valued_v moment from throughput m older in
    record h { sent_on = sends_on_v up h (before h older) }

-- what was heard, with an OGM after it
abbrev pub heard_with_v : Mac → (Mac → Bool) → ℕ → Mac → ℕ → Option OgmV → List HeardOgm
    → List HeardOgm
heard_with_v me up moment from throughput None older = older
heard_with_v me up moment from throughput (Some m) older =
    if passes_v me (up from) m then hearing_v up moment from throughput m older ∷ older else older

-- what the node of an address heard, newest first
abbrev pub heard_v : Mac → RouteLog → List HeardOgm
heard_v me [] = []
heard_v me (OwnTick moment index ∷ older) = heard_v me older
heard_v me (HeadCame moment from throughput head ∷ older) =
    heard_with_v me (λ k. is_up moment k older) moment from throughput (ogm2_of_head head)
    (heard_v me older)
