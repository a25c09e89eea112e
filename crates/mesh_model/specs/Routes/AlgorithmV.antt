-- Algorithm V. At each tick a node sends an ELP, the k-th with number k, and at each tick of even
-- index an OGM that tells the greatest throughput, the k-th with number k. A hearing that is sent
-- on has one hop less to live and, as throughput, its value less a part of 30 in 255. Its flags
-- stay. The main word is `v_queries`.
use Rattle.std.specs.Prelude.{ℕ, ◌+◌, ◌-◌, not, Bool, List, filter_map, Option, Some, None, if◌then◌else◌}
use Rattle.mesh_base.specs.declared.address.Mac.{Mac}
use Rattle.mesh_model.specs.declared.packet.Head.{Head}
use Rattle.mesh_model.specs.declared.packet.Head.TheVariants.{Elp, Ogm2}
use Rattle.mesh_model.specs.declared.route.Beats.{Beats}
use Rattle.mesh_model.specs.declared.route.Hearing.{Hearing}
use Rattle.mesh_model.specs.Packets.Numbers.{first_ttl}
use Rattle.mesh_model.specs.Routes.AlgorithmIv.{after_hop}
use Rattle.mesh_model.specs.Routes.BestRoute.{best_route, route_metric, orig_row}
use Rattle.mesh_model.specs.Routes.Hearings.{before}
use Rattle.mesh_model.specs.Routes.HearingsV.{hearing_v, heard_v, passes_v, path_throughput}
use Rattle.mesh_model.specs.Routes.Life.{HeardOgm, of, life, is_live, is_accepted, heard_originators}
use Rattle.mesh_model.specs.Routes.Neighbours.{elp_senders, is_up, last_elp, row_by_elp}
use Rattle.mesh_model.specs.Routes.Ogm2.{OgmV, ogm2_of_head}
use Rattle.mesh_model.specs.Routes.Quality.{own_ogms}
use Rattle.mesh_model.specs.Routes.Queries.{Queries, unheard}
use Rattle.mesh_model.specs.Routes.RouteLog.{RouteLog, is_ogm_tick, own_ticks}

-- the time between two ELPs as each tells it, in milliseconds
abbrev pub elp_interval : ℕ
elp_interval = 500

-- the greatest throughput, in 100 kbit/s
abbrev pub full_throughput : ℕ
full_throughput = 4294967295

-- the own ELP of a number
abbrev pub own_elp : Mac → ℕ → Head
own_elp me number = Elp me number elp_interval

-- the own OGM of a number
abbrev pub own_ogm_v : Mac → ℕ → Head
own_ogm_v me number = Ogm2 first_ttl 0 number me full_throughput

-- what is sent at a tick of an index
abbrev pub v_beats : Mac → RouteLog → ℕ → Beats
v_beats me log index = record {
  elp = Some (own_elp me (own_ticks log + 1));
  ogm = if is_ogm_tick index then Some (own_ogm_v me (own_ogms log + 1)) else None;
}

-- a hearing as it is sent on, with the flags that it came with
abbrev pub forward_head_v : ℕ → HeardOgm → Head
forward_head_v flags h = Ogm2 (h.ttl - 1) flags h.seq h.orig (after_hop h.value)

-- what is made of a hearing of an OGM with these flags, by the life before it
abbrev pub answer_to_v : ℕ → HeardOgm → List HeardOgm → Hearing
answer_to_v flags h alive = record {
  accepted = is_accepted h alive;
  began = not (is_live alive);
  forward = if h.sent_on then Some (forward_head_v flags h) else None;
}

-- what is made of an OGM, after others, by which neighbours are up
abbrev pub v_answer : Mac → (Mac → Bool) → ℕ → Mac → ℕ → Option OgmV → List HeardOgm → Hearing
v_answer me up moment from throughput None older = unheard
v_answer me up moment from throughput (Some m) older =
    if passes_v me (up from) m then
    (let h : HeardOgm = hearing_v up moment from throughput m older in
    answer_to_v m.flags h (before h older))
    else unheard

-- the life of an originator at a moment
abbrev pub v_life : Mac → RouteLog → ℕ → Mac → List HeardOgm
v_life me log moment orig = life moment (of orig (heard_v me log))

-- the throughput of the path over a neighbour at a moment, in a life
abbrev pub v_score : RouteLog → ℕ → List HeardOgm → Mac → ℕ
v_score log moment alive = path_throughput (λ k. is_up moment k log) alive

-- the best neighbour at a moment, in a life
abbrev pub v_route : RouteLog → ℕ → List HeardOgm → Option Mac
v_route log moment alive = best_route (v_score log moment alive) alive

-- the answers at the node of an address
abbrev pub v_queries : Mac → Queries
v_queries me = record {
  beats = v_beats me;
  hear = λ log moment from throughput head. v_answer me (λ k. is_up moment k log) moment from
      throughput (ogm2_of_head head) (heard_v me log);
  metric = λ log moment orig.
      let alive = v_life me log moment orig in
      route_metric (v_score log moment alive) (v_route log moment alive);
  route = λ log moment orig. v_route log moment (v_life me log moment orig);
  live = λ log moment orig. is_live (v_life me log moment orig);
  originators = λ log moment. filter_map (λ orig.
      let alive = v_life me log moment orig in
      orig_row (v_score log moment alive) moment orig alive)
      (heard_originators (heard_v me log));
  neighbours = λ log moment.
      filter_map (λ k. row_by_elp moment k (last_elp k log)) (elp_senders log);
}
