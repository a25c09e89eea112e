-- Where among the acts of a node a limit is looked at. That on the clients of a node is looked at
-- where a client is sighted or joins: before all acts, but behind the claim by which a gateway
-- begins what it does with a frame of its LAN. That on its cuts is looked at where a packet would
-- be cut, behind the acts before it. The main word is `node_limit`.
use Rattle.std.specs.Prelude.{ℕ, List, [], Option, Some, None, option_map, if◌then◌else◌}
use Rattle.std.specs.Option.{option_or}
use Rattle.mesh_base.specs.declared.address.Mac.{Mac}
use Rattle.mesh_model.specs.declared.act.Act.{Act}
use Rattle.mesh_model.specs.declared.ending.LimitName.{LimitName}
use Rattle.mesh_model.specs.declared.ending.LimitName.TheVariants.{Cuts}
use Rattle.mesh_model.specs.Acts.Choosing.{claimed_first, cutter_by, whole_acts}
use Rattle.mesh_model.specs.Acts.Cuts.{Cutter, cut_acts, passes_cuts}
use Rattle.mesh_model.specs.Clients.Limits.{passed_limit}
use Rattle.mesh_model.specs.Clients.Log.{Given, Tick, LinkFrame, LanFrame, Line, Log}
use Rattle.mesh_model.specs.Packets.LanFrames.{client_frame_in, lan_message_of}
use Rattle.mesh_model.specs.Routes.Queries.{Queries}

-- a limit that a node passes, and the acts that it puts before
pub record NodeLimit : Type 0 where
  pub acts : List Act
  pub limit : LimitName

-- the acts of an input that come before the sighting of a client
abbrev pub acts_before_sighting : Mac → Log → ℕ → Given → List Act
acts_before_sighting me log now (Tick index) = []
acts_before_sighting me log now (LinkFrame number from throughput bytes) = []
acts_before_sighting me log now (LanFrame bytes) =
    claimed_first me log now (client_frame_in (lan_message_of bytes))
acts_before_sighting me log now (Line line) = []

-- the limit of clients that an input at a moment, right after the log of the node of an address,
-- passes
abbrev pub client_limit : Mac → Log → ℕ → Given → Option NodeLimit
client_limit me log now given = option_map
    (λ limit. record { acts = acts_before_sighting me log now given; limit = limit })
    (passed_limit me log now given)

-- the limit of cuts, where these acts pass it
abbrev pub cut_limit : Cutter → List Act → Option NodeLimit
cut_limit cutter acts = if passes_cuts cutter acts
    then Some (record { acts = cut_acts cutter acts; limit = Cuts }) else None

-- the limit that an input at a moment passes, right after the log of the node of an address with
-- this algorithm
abbrev pub node_limit : Queries → Mac → Log → ℕ → Given → Option NodeLimit
node_limit q me log now given = option_or (client_limit me log now given)
    (cut_limit (cutter_by q me log) (whole_acts q me log now given))
