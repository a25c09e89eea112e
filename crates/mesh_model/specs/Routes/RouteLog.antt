-- The log of a routing algorithm: all that it was given, newest first. That is its node's ticks,
-- and the heads of the packets that came from neighbours. The main word is `RouteLog`.
use Rattle.std.specs.Prelude.{◌≡◌, ℕ, suc, ◌+◌, ◌%◌, ◌==◌, ◌^◌, ◌<◌, Bool, List, [], ◌∷◌, Option, Some, None}
use Rattle.mesh_base.specs.declared.address.Mac.{Mac}
use Rattle.mesh_model.specs.declared.packet.Head.{Head}

-- what an algorithm is given at a moment, in milliseconds
pub data RouteInput : Type 0 where
  -- a tick of its own node, with the tick's index
  OwnTick : (moment index : ℕ) → RouteInput
  -- a packet's head from a neighbour, with the throughput of the link to it, 0 without such a link
  HeadCame : (moment : ℕ) → (from : Mac) → (throughput : ℕ) → (head : Head) → RouteInput

-- the log of an algorithm, newest first
abbrev pub RouteLog : Type 0
RouteLog = List RouteInput

-- how many ticks there were
abbrev pub own_ticks : RouteLog → ℕ
own_ticks [] = 0
own_ticks (OwnTick moment index ∷ older) = suc (own_ticks older)
own_ticks (HeadCame moment from throughput head ∷ older) = own_ticks older

-- the index of the last tick
abbrev pub last_index : RouteLog → Option ℕ
last_index [] = None
last_index (OwnTick moment index ∷ older) = Some index
last_index (HeadCame moment from throughput head ∷ older) = last_index older

-- an index is at least 1, and one more than the last
abbrev pub FollowsIndex : Option ℕ → ℕ → Type 0
FollowsIndex None index = 0 < index
FollowsIndex (Some last) index = index ≡ last + 1

-- a tick of this index may come after a log: it follows, and the ticks, of which each own number is
-- a count, stay below 2^32
pub record MayTick (log : RouteLog) (index : ℕ) : Type 0 where
  pub follows : FollowsIndex (last_index log) index
  pub few : own_ticks log + 1 < 2 ^ 32

-- whether a node sends its originator message at the tick of this index: at each second one
abbrev pub is_ogm_tick : ℕ → Bool
is_ogm_tick index = index % 2 == 0

-- how many ticks pass between two rounds, in which gateways and the fact store speak to others
abbrev pub ticks_of_round : ℕ
ticks_of_round = 20

-- whether a tick begins a round
abbrev pub is_round : ℕ → Bool
is_round index = index % ticks_of_round == 0
