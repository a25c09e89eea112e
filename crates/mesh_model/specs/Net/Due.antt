-- What is to come. The k-th frame of a link, counted from 0, takes the mark k modulo the pattern's
-- length: `.` delivers it once, at its sending plus the link's delay; `2` there and again at its
-- sending plus twice the delay; `x` never; `h` never by itself. A LAN frame comes 1 ms after it was
-- put. A node that was made at a moment ticks at that moment plus 500 ms times 1, 2, and so on. The
-- next happening is the earliest after the last one, of the deliveries of all frames that were ever
-- sent or put and the first tick to come of each node. The main words are `next_happening` and
-- `next_due`.
use Rattle.std.specs.Prelude.{ℕ, suc, ◌+◌, ◌*◌, ◌%◌, ◌==◌, nat_le, List, [], ◌∷◌, ◌++◌, map, filter, length, slice_get, slice_index_or, Option, Some, None, option_and_then, if◌then◌else◌}
use Rattle.std.specs.Option.{option_map_or}
use Rattle.mesh_model.specs.declared.happening.Class.TheVariants.{LinkDelivery, LanDelivery, NodeTick}
use Rattle.mesh_model.specs.declared.happening.Happening.{Happening}
use Rattle.mesh_model.specs.Scenario.Terms.{once_mark, lost_mark, twice_mark, held_mark}
use Rattle.mesh_model.specs.Clients.Log.{Given, Log, tick_of}
use Rattle.mesh_model.specs.Net.Happenings.{is_before, earliest}
use Rattle.mesh_model.specs.Net.Mesh.{NodeLog, NetLink, SentFrame, LanPut, Mesh}

-- the time between two ticks, in milliseconds
abbrev pub tick_time : ℕ
tick_time = 500

-- what a link does with a frame
pub data Fate : Type 0 where
  Once : Fate
  Never : Fate
  Twice : Fate
  Held : Fate

-- the fate of a mark; a pattern has no other marks
abbrev pub fate_of_mark : ℕ → Fate
fate_of_mark mark =
    if mark == once_mark then Once else if mark == lost_mark then Never
    else if mark == twice_mark then Twice else Held

-- the fate of a link's frame by its turn
abbrev pub fate_of : List ℕ → ℕ → Fate
fate_of pattern turn = fate_of_mark (slice_index_or pattern (turn % length pattern) held_mark)

-- when a frame of this fate arrives, by its sending and the link's delay
abbrev pub arrivals_by : Fate → ℕ → ℕ → List ℕ
arrivals_by Once sent delay = (sent + delay) ∷ []
arrivals_by Never sent delay = []
arrivals_by Twice sent delay = (sent + delay) ∷ (sent + 2 * delay) ∷ []
arrivals_by Held sent delay = []

-- when a frame arrives over a link
abbrev pub arrivals_over : Option NetLink → SentFrame → List ℕ
arrivals_over None frame = []
arrivals_over (Some link) frame =
    arrivals_by (fate_of link.pattern frame.turn) frame.moment link.delay

-- when a frame arrives
abbrev pub arrivals : List NetLink → SentFrame → List ℕ
arrivals links frame = arrivals_over (slice_get links frame.link) frame

-- a delivery of the frame at a place
abbrev pub delivery_at : ℕ → ℕ → Happening
delivery_at place moment = record { moment = moment; class = LinkDelivery; place = place }

-- the deliveries of frames of which the first stands at a place
abbrev pub deliveries : List NetLink → ℕ → List SentFrame → List Happening
deliveries links place [] = []
deliveries links place (frame ∷ rest) =
    map (delivery_at place) (arrivals links frame) ++ deliveries links (suc place) rest

-- how long a LAN frame is on its way, in milliseconds
abbrev pub lan_delay : ℕ
lan_delay = 1

-- the delivery of the LAN frame at a place
abbrev pub lan_delivery_at : ℕ → LanPut → Happening
lan_delivery_at place put =
    record { moment = put.moment + lan_delay; class = LanDelivery; place = place }

-- the deliveries of LAN frames of which the first stands at a place
abbrev pub lan_deliveries : ℕ → List LanPut → List Happening
lan_deliveries place [] = []
lan_deliveries place (put ∷ rest) = lan_delivery_at place put ∷ lan_deliveries (suc place) rest

-- how many ticks an input is
abbrev pub ticks_by : Given → ℕ
ticks_by given = option_map_or (λ index. 1) (tick_of given) 0

-- how many ticks a node has had
abbrev pub ticks_in : Log → ℕ
ticks_in [] = 0
ticks_in (entry ∷ older) = ticks_by entry.given + ticks_in older

-- the tick of the node at a place with this index, from 1
abbrev pub tick_at : ℕ → NodeLog → ℕ → Happening
tick_at place node index =
    record { moment = node.made + tick_time * index; class = NodeTick; place = place }

-- the first ticks to come of nodes of which the first stands at a place
abbrev pub first_ticks : ℕ → List NodeLog → List Happening
first_ticks place [] = []
first_ticks place (node ∷ rest) =
    tick_at place node (suc (ticks_in node.log)) ∷ first_ticks (suc place) rest

-- all deliveries, and the first tick to come of each node
abbrev pub candidates : Mesh → List Happening
candidates mesh = deliveries mesh.links 0 mesh.frames
    ++ (lan_deliveries 0 mesh.puts ++ first_ticks 0 mesh.nodes)

-- the next happening, whenever it is
abbrev pub next_happening : Mesh → Option Happening
next_happening mesh = earliest (filter (is_before mesh.last) (candidates mesh))

-- a happening, where it is until a moment
abbrev pub if_due : ℕ → Happening → Option Happening
if_due t h = if nat_le h.moment t then Some h else None

-- the next happening until a moment
abbrev pub next_due : ℕ → Mesh → Option Happening
next_due t mesh = option_and_then (if_due t) (next_happening mesh)
