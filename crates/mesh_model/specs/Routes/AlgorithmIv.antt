-- Algorithm IV. At each tick of even index a node sends its OGM, the k-th with number k. A hearing
-- that is sent on has one hop less to live, its neighbour as previous sender, and its value, less a
-- part of 30 in 255, as quality; it is marked DIRECTLINK where it came from the originator itself,
-- and then NOT_BEST_NEXT_HOP too where the best route is another. The main word is `iv_queries`.
use Rattle.std.specs.Prelude.{ℕ, ◌+◌, ◌-◌, ◌*◌, ◌/◌, nat_lt, not, List, ◌∷◌, filter_map, Option, Some, None, if◌then◌else◌}
use Rattle.mesh_base.specs.declared.address.Mac.{Mac}
use Rattle.mesh_model.specs.declared.packet.Head.{Head}
use Rattle.mesh_model.specs.declared.packet.Head.TheVariants.{IvOgm}
use Rattle.mesh_model.specs.declared.route.Beats.{Beats}
use Rattle.mesh_model.specs.declared.route.Hearing.{Hearing}
use Rattle.mesh_model.specs.declared.route.LinkRow.{LinkRow}
use Rattle.mesh_model.specs.declared.route.LinkRow.TheVariants.{Iv}
use Rattle.mesh_model.specs.Routes.Addresses.{same_mac}
use Rattle.mesh_model.specs.Routes.BestRoute.{best_route, route_metric, is_over, orig_row}
use Rattle.mesh_model.specs.Routes.Hearings.{before, hearing, heard}
use Rattle.mesh_model.specs.Routes.Life.{HeardOgm, of, life, is_live, is_accepted, heard_originators}
use Rattle.mesh_model.specs.Routes.Ogm.{Ogm, ogm_of_head, passes}
use Rattle.mesh_model.specs.Packets.Numbers.{first_ttl, not_best_next_hop_flag, directlink_flag}
use Rattle.mesh_model.specs.Routes.Quality.{average_quality, receive_quality, echo_quality, full_quality, own_ogms}
use Rattle.mesh_model.specs.Routes.Queries.{Queries, unheard}
use Rattle.mesh_model.specs.Routes.RouteLog.{RouteLog, is_ogm_tick}

-- the own OGM of a number
abbrev pub own_ogm : Mac → ℕ → Head
own_ogm me number = IvOgm first_ttl 0 number me me full_quality

-- what is sent at a tick of an index
abbrev pub iv_beats : Mac → RouteLog → ℕ → Beats
iv_beats me log index = record {
  elp = None;
  ogm = if is_ogm_tick index then Some (own_ogm me (own_ogms log + 1)) else None;
}

-- the flags of a hearing that is sent on, by its life up to and with it
abbrev pub forward_flags : HeardOgm → List HeardOgm → ℕ
forward_flags h alive =
    if same_mac h.from h.orig then
    (if is_over h.from (best_route (average_quality alive) alive) then directlink_flag
    else directlink_flag + not_best_next_hop_flag)
    else 0

-- what is left of a value after a hop
abbrev pub after_hop : ℕ → ℕ
after_hop value = value * 225 / 255

-- a hearing as it is sent on, by its life up to and with it
abbrev pub forward_head : HeardOgm → List HeardOgm → Head
forward_head h alive =
    IvOgm (h.ttl - 1) (forward_flags h alive) h.seq h.orig h.from (after_hop h.value)

-- what is made of a hearing, by the life before it
abbrev pub answer_to : HeardOgm → List HeardOgm → Hearing
answer_to h alive = record {
  accepted = is_accepted h alive;
  began = not (is_live alive);
  forward = if h.sent_on then Some (forward_head h (h ∷ alive)) else None;
}

-- what is made of an OGM, after others
abbrev pub iv_answer : Mac → ℕ → Mac → Option Ogm → List HeardOgm → ℕ → Hearing
iv_answer me moment from None older echo = unheard
iv_answer me moment from (Some m) older echo =
    if passes me m then
    (let h : HeardOgm = hearing moment from m older echo in answer_to h (before h older))
    else unheard

-- the life of an originator at a moment
abbrev pub iv_life : Mac → RouteLog → ℕ → Mac → List HeardOgm
iv_life me log moment orig = life moment (of orig (heard me log))

-- the best neighbour by a life
abbrev pub iv_route : List HeardOgm → Option Mac
iv_route alive = best_route (average_quality alive) alive

-- a neighbour's row, where anything is received from it
abbrev pub iv_link : Mac → RouteLog → ℕ → Mac → Option LinkRow
iv_link me log moment k =
    let rq = receive_quality moment k (heard me log) in
    if nat_lt 0 rq then Some (Iv k rq (echo_quality me k log)) else None

-- the answers at the node of an address
abbrev pub iv_queries : Mac → Queries
iv_queries me = record {
  beats = iv_beats me;
  hear = λ log moment from throughput head.
      iv_answer me moment from (ogm_of_head head) (heard me log) (echo_quality me from log);
  metric = λ log moment orig.
      let alive = iv_life me log moment orig in
      route_metric (average_quality alive) (iv_route alive);
  route = λ log moment orig. iv_route (iv_life me log moment orig);
  live = λ log moment orig. is_live (iv_life me log moment orig);
  originators = λ log moment. filter_map (λ orig.
      let alive = iv_life me log moment orig in
      orig_row (average_quality alive) moment orig alive) (heard_originators (heard me log));
  neighbours = λ log moment.
      filter_map (iv_link me log moment) (heard_originators (heard me log));
}
