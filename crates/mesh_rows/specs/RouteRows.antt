-- Two nodes of algorithm IV with links to each other, as one of them, A, hears the other, B. The
-- main word is `log_of_a`.
use Rattle.std.specs.Prelude.{ℕ, List, [], ◌∷◌, codes}
use Rattle.mesh_base.specs.declared.address.Mac.{Mac}
use Rattle.mesh_model.specs.declared.line_form.Algorithm.TheVariants.{Iv}
use Rattle.mesh_model.specs.declared.packet.Head.{Head}
use Rattle.mesh_model.specs.declared.packet.Head.TheVariants.{IvOgm}
use Rattle.mesh_model.specs.Routes.AlgorithmIv.{iv_queries}
use Rattle.mesh_model.specs.Routes.Hearings.{heard}
use Rattle.mesh_model.specs.Routes.Life.{HeardOgm}
use Rattle.mesh_model.specs.Routes.RouteLog.{RouteLog, OwnTick, HeadCame}
use Rattle.mesh_model.specs.Text.Tables.{LinkTable, OrigTable}

-- the addresses of A and B
abbrev pub mac_a : Mac
mac_a = record { 0 = 2 ∷ 0 ∷ 0 ∷ 0 ∷ 0 ∷ 10 ∷ [] }

abbrev pub mac_b : Mac
mac_b = record { 0 = 2 ∷ 0 ∷ 0 ∷ 0 ∷ 0 ∷ 11 ∷ [] }

-- B's OGM of a number, from B itself
abbrev pub ogm_of_b : ℕ → Head
ogm_of_b number = IvOgm 50 0 number mac_b mac_b 255

-- A's OGM of a number as B sends it on, with these flags and this quality
abbrev pub echo_by_b : ℕ → ℕ → ℕ → Head
echo_by_b number flags tq = IvOgm 49 flags number mac_a mac_b tq

-- B's head comes to A at a moment
abbrev pub from_b : ℕ → Head → RouteLog → RouteLog
from_b moment head older = HeadCame moment mac_b 1000 head ∷ older

-- A's log before B's first OGM, with it, before B's second, with it, and with what comes until 3000
abbrev pub log_before_1 : RouteLog
log_before_1 = OwnTick 1000 2 ∷ OwnTick 500 1 ∷ []

abbrev pub log_with_1 : RouteLog
log_with_1 = from_b 1001 (ogm_of_b 1) log_before_1

abbrev pub log_before_2 : RouteLog
log_before_2 = OwnTick 2000 4 ∷ OwnTick 1500 3 ∷ from_b 1002 (echo_by_b 1 5 0) log_with_1

abbrev pub log_with_2 : RouteLog
log_with_2 = from_b 2001 (ogm_of_b 2) log_before_2

abbrev pub log_of_a : RouteLog
log_of_a =
    OwnTick 3000 6 ∷ OwnTick 2500 5 ∷ from_b 2002 (echo_by_b 2 4 9) log_with_2

-- what A heard by a log
abbrev pub heard_by_a : RouteLog → List HeardOgm
heard_by_a log = heard mac_a log

-- A's tables at a moment
abbrev pub originators_of_a : ℕ → OrigTable
originators_of_a moment = record {
  name = codes "A";
  algorithm = Iv;
  rows = (iv_queries mac_a).originators log_of_a moment;
}

abbrev pub neighbours_of_a : ℕ → LinkTable
neighbours_of_a moment = record {
  name = codes "A";
  algorithm = Iv;
  rows = (iv_queries mac_a).neighbours log_of_a moment;
}
