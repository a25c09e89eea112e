-- The neighbours of a node under algorithm V. An ELP counts where its originator itself sent it, as
-- every one of a mesh does: it is never sent on. A neighbour is up while its last ELP is less than
-- 5,000 ms old; the throughput to it is that of the node's own link to it when that ELP came. The
-- main words are `last_elp` and `is_up`.
use Rattle.std.specs.Prelude.{ℕ, ◌-◌, ◌&&◌, nat_lt, Bool, false, List, [], ◌∷◌, Option, Some, None, if◌then◌else◌}
use Rattle.std.specs.Option.{option_map_or}
use Rattle.mesh_base.specs.declared.address.Mac.{Mac}
use Rattle.mesh_model.specs.declared.route.LinkRow.{LinkRow}
use Rattle.mesh_model.specs.declared.route.LinkRow.TheVariants.{V}
use Rattle.mesh_model.specs.Routes.Addresses.{insert_mac, same_mac}
use Rattle.mesh_model.specs.Routes.Ogm2.{elp_of_head}
use Rattle.mesh_model.specs.Routes.RouteLog.{RouteLog, OwnTick, HeadCame}

-- an ELP that counts
pub record ElpHeard : Type 0 where
  -- when it came, in milliseconds
  pub moment : ℕ
  -- the throughput to its sender then, 0 without a link to it
  pub throughput : ℕ

-- how long a neighbour is up after an ELP, in milliseconds
abbrev pub elp_age : ℕ
elp_age = 5000

-- whether the ELP that came from a neighbour, if any, is the neighbour's own
abbrev pub is_own_elp : Mac → Option Mac → Bool
is_own_elp from None = false
is_own_elp from (Some orig) = same_mac orig from

-- the last ELP of a neighbour
abbrev pub last_elp : Mac → RouteLog → Option ElpHeard
last_elp k [] = None
last_elp k (OwnTick moment index ∷ older) = last_elp k older
last_elp k (HeadCame moment from throughput head ∷ older) =
    if is_own_elp from (elp_of_head head) && same_mac from k
    then Some (record { moment = moment; throughput = throughput }) else last_elp k older

-- whether an ELP is young enough at a moment
abbrev pub is_young : ℕ → ElpHeard → Bool
is_young moment elp = nat_lt (moment - elp.moment) elp_age

-- whether a neighbour is up at a moment
abbrev pub is_up : ℕ → Mac → RouteLog → Bool
is_up moment k log = option_map_or (is_young moment) (last_elp k log) false

-- the senders of ELPs, in the order of their addresses and each once
abbrev pub elp_senders : RouteLog → List Mac
elp_senders [] = []
elp_senders (OwnTick moment index ∷ older) = elp_senders older
elp_senders (HeadCame moment from throughput head ∷ older) =
    if is_own_elp from (elp_of_head head) then insert_mac from (elp_senders older)
    else elp_senders older

-- the row of a neighbour by its last ELP, while it is up
abbrev pub row_by_elp : ℕ → Mac → Option ElpHeard → Option LinkRow
row_by_elp moment k None = None
row_by_elp moment k (Some elp) =
    if is_young moment elp then Some (V k elp.throughput (moment - elp.moment)) else None
