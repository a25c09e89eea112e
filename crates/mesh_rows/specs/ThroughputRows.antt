-- Nodes of algorithm V as one of them, A, hears them: its neighbours B and C, and D, whose OGMs
-- come by them. The throughput of each of A's links is 100. The main word is `log_by_both`.
use Rattle.std.specs.Prelude.{ℕ, [], ◌∷◌, codes, Option}
use Rattle.mesh_base.specs.declared.address.Mac.{Mac}
use Rattle.mesh_model.specs.declared.line_form.Algorithm.TheVariants.{V}
use Rattle.mesh_model.specs.declared.packet.Head.{Head}
use Rattle.mesh_model.specs.declared.packet.Head.TheVariants.{Elp, Ogm2}
use Rattle.mesh_model.specs.Routes.AlgorithmV.{v_life, v_queries, v_score}
use Rattle.mesh_model.specs.Routes.RouteLog.{RouteLog, OwnTick, HeadCame}
use Rattle.mesh_model.specs.Text.Tables.{LinkTable, OrigTable}
use Rattle.mesh_rows.specs.RouteRows.{mac_a, mac_b}

-- the addresses of C and D
abbrev pub mac_c : Mac
mac_c = record { 0 = 2 ∷ 0 ∷ 0 ∷ 0 ∷ 0 ∷ 12 ∷ [] }

abbrev pub mac_d : Mac
mac_d = record { 0 = 2 ∷ 0 ∷ 0 ∷ 0 ∷ 0 ∷ 13 ∷ [] }

-- a node's ELP of a number
abbrev pub elp_of : Mac → ℕ → Head
elp_of orig number = Elp orig number 500

-- D's OGM of a number, which tells a throughput
abbrev pub ogm_of_d : ℕ → ℕ → Head
ogm_of_d number throughput = Ogm2 49 0 number mac_d throughput

-- a head comes to A at a moment, from a neighbour
abbrev pub comes_from : Mac → ℕ → Head → RouteLog → RouteLog
comes_from neighbour moment head older = HeadCame moment neighbour 100 head ∷ older

-- A's log with the first ELP of B, and with those of B and C
abbrev pub log_with_b : RouteLog
log_with_b = comes_from mac_b 501 (elp_of mac_b 1) (OwnTick 500 1 ∷ [])

abbrev pub log_with_both : RouteLog
log_with_both = comes_from mac_c 501 (elp_of mac_c 1) log_with_b

-- and with D's first OGM, which comes by B and by C
abbrev pub log_by_b : RouteLog
log_by_b = comes_from mac_b 1002 (ogm_of_d 1 60) log_with_both

abbrev pub log_by_both : RouteLog
log_by_both = comes_from mac_c 1003 (ogm_of_d 1 80) log_by_b

-- A's answers about D at a moment, and the throughput of the path over a neighbour
abbrev pub route_to_d : RouteLog → ℕ → Option Mac
route_to_d log moment = (v_queries mac_a).route log moment mac_d

abbrev pub metric_of_d : RouteLog → ℕ → ℕ
metric_of_d log moment = (v_queries mac_a).metric log moment mac_d

abbrev pub path_to_d : RouteLog → ℕ → Mac → ℕ
path_to_d log moment neighbour = v_score log moment (v_life mac_a log moment mac_d) neighbour

-- A's tables at a moment
abbrev pub originators_under_v : RouteLog → ℕ → OrigTable
originators_under_v log moment = record {
  name = codes "A";
  algorithm = V;
  rows = (v_queries mac_a).originators log moment;
}

abbrev pub neighbours_under_v : RouteLog → ℕ → LinkTable
neighbours_under_v log moment = record {
  name = codes "A";
  algorithm = V;
  rows = (v_queries mac_a).neighbours log moment;
}
