-- Two nodes of algorithm IV of which one reboots, as the other, A, hears it; lives and rounds that a
-- number meets; and a node that commits 256 times. The main words are `log_of_100`, `life_of_100`,
-- `round_of` and `history_of_256`.
use Rattle.std.specs.Prelude.{ℕ, zero, suc, ◌+◌, ◌-◌, ◌*◌, Bool, true, false, List, [], ◌∷◌}
use Rattle.mesh_base.specs.declared.client.Entry.{Entry}
use Rattle.mesh_model.specs.Commits.History.{History, committed, first_history}
use Rattle.mesh_model.specs.Knowledge.Known.{TakenBroadcast, is_new_broadcast}
use Rattle.mesh_model.specs.Routes.Life.{HeardOgm}
use Rattle.mesh_model.specs.Routes.RouteLog.{RouteLog, OwnTick}
use Rattle.mesh_rows.specs.RouteRows.{echo_by_b, from_b, mac_a, mac_b, ogm_of_b}
use Rattle.mesh_rows.specs.TableRows.{client, first, second}

-- ---- what A hears

-- A's log after so many seconds: its two ticks of each second, B's OGM, and its own that B sent on
abbrev pub log_of_seconds : ℕ → RouteLog
log_of_seconds zero = []
log_of_seconds (suc before) =
    from_b (1000 * suc before + 2) (echo_by_b (suc before) 4 225)
    (from_b (1000 * suc before + 1) (ogm_of_b (suc before))
    (OwnTick (1000 * suc before) (2 * suc before) ∷ OwnTick (1000 * suc before - 500) (2 * suc before - 1)
    ∷ log_of_seconds before))

-- A's log after 100 seconds with B's number 1 at 101,001, then with its number 100 again, and then
-- with its number 2
abbrev pub log_of_100 : RouteLog
log_of_100 = from_b 101001 (ogm_of_b 1)
    (OwnTick 101000 202 ∷ OwnTick 100500 201 ∷ log_of_seconds 100)

abbrev pub log_again : RouteLog
log_again = from_b 101001 (ogm_of_b 100) log_of_100

abbrev pub log_of_102 : RouteLog
log_of_102 = from_b 102001 (ogm_of_b 2)
    (OwnTick 102000 204 ∷ OwnTick 101500 203 ∷ from_b 101002 (echo_by_b 101 5 0) log_again)

-- ---- lives

-- a hearing of a number of B at a moment, which may be a restart
abbrev pub heard_at : ℕ → ℕ → Bool → HeardOgm
heard_at moment number restart = record {
  moment = moment;
  orig = mac_b;
  from = mac_b;
  seq = number;
  ttl = 50;
  late = false;
  restart = restart;
  value = 0;
  sent_on = false;
}

-- a life with the number 100, which began 1,000 ms before it and no restart
abbrev pub life_of_100 : List HeardOgm
life_of_100 = heard_at 100001 100 false ∷ heard_at 99001 99 false ∷ []

-- a life of the number 36 alone, which was a restart
abbrev pub life_of_36 : List HeardOgm
life_of_36 = heard_at 101001 36 true ∷ []

-- ---- broadcasts

-- a broadcast of B that was taken
abbrev pub taken_from_b : ℕ → ℕ → Bool → TakenBroadcast
taken_from_b moment number wild =
    record { moment = moment; broadcast = record { orig = mac_b; number = number }; wild = wild }

-- the broadcasts up to number 65 of a round that no wild one began
abbrev pub first_round : List TakenBroadcast
first_round = taken_from_b 5000 65 false ∷ taken_from_b 4000 64 false ∷ []

-- the same and number 1, with which a round begins
abbrev pub second_round : List TakenBroadcast
second_round = taken_from_b 6000 1 true ∷ first_round

-- whether A takes a number of B at a moment, after those that it took
abbrev pub takes : ℕ → ℕ → List TakenBroadcast → Bool
takes now number taken = is_new_broadcast mac_a now (record { orig = mac_b; number = number }) taken

-- ---- commits

-- two further stations, whose sums are together those of the first two
abbrev pub third : Entry
third = client (2 ∷ 0 ∷ 0 ∷ 0 ∷ 1 ∷ 5 ∷ []) 0 0

abbrev pub fourth : Entry
fourth = client (2 ∷ 0 ∷ 0 ∷ 0 ∷ 1 ∷ 6 ∷ []) 0 0

-- three stations are committed, and so many times the fourth comes and goes
abbrev pub after_rounds : ℕ → History
after_rounds zero = committed (first ∷ second ∷ third ∷ []) first_history
after_rounds (suc before) = committed (first ∷ second ∷ third ∷ [])
    (committed (first ∷ second ∷ third ∷ fourth ∷ []) (after_rounds before))

-- the fourth came 128 times, and went 127 times: 256 commits, of which the last is under byte 0
abbrev pub history_of_256 : History
history_of_256 = committed (first ∷ second ∷ third ∷ fourth ∷ []) (after_rounds 127)
