-- The state of a mesh. A node keeps its log alone; a link carries frames one way, a LAN to all its
-- gateways; a frame stays for ever, and its number is its place in the order of sending, from 1.
-- Frames on LANs are numbered apart. The routes of a mesh may be watched. The main word is `Mesh`.
use Rattle.std.specs.Prelude.{ℕ, Bool, List, [], bytes_eq, replicate, slice_get, Option, None}
use Rattle.std.specs.Option.{option_map_or}
use Rattle.mesh_base.specs.declared.address.Mac.{Mac}
use Rattle.mesh_base.specs.declared.event.Event.{Event}
use Rattle.mesh_model.specs.declared.act.Act.{Act}
use Rattle.mesh_model.specs.declared.happening.Class.TheVariants.{LinkDelivery}
use Rattle.mesh_model.specs.declared.happening.Happening.{Happening}
use Rattle.mesh_model.specs.declared.route.OrigRow.{OrigRow}
use Rattle.mesh_model.specs.declared.route_line.RouteLine.{RouteLine}
use Rattle.mesh_model.specs.Acts.NodeLimits.{NodeLimit}
use Rattle.mesh_model.specs.Clients.Log.{Given, Log}

-- a node: its name, its address, the moment of its line, and its log
pub record NodeLog : Type 0 where
  pub name : List ℕ
  pub mac : Mac
  pub made : ℕ
  pub log : Log

-- a link from the node at one place to the node at another: its delay in milliseconds, the marks of
-- its pattern, and its throughput in units of 100 kbit/s
pub record NetLink : Type 0 where
  pub from : ℕ
  pub to : ℕ
  pub delay : ℕ
  pub pattern : List ℕ
  pub throughput : ℕ

-- a link frame: the place of its link, how many frames the link carried before, the moment of
-- sending, the bytes, and the root that its sender handed on: the tick of the originator by which
-- the bytes came to be
pub record SentFrame : Type 0 where
  pub link : ℕ
  pub turn : ℕ
  pub moment : ℕ
  pub bytes : List ℕ
  pub root : ℕ

-- a LAN: its name, and the places of its gateways, in rising order
pub record NetLan : Type 0 where
  pub name : List ℕ
  pub gateways : List ℕ

-- a frame on a LAN: the place of the LAN, the moment of putting, the bytes, and the place of the
-- gateway that put it, where one did
pub record LanPut : Type 0 where
  pub lan : ℕ
  pub moment : ℕ
  pub bytes : List ℕ
  pub by : Option ℕ

-- nodes, links and LANs in the order of their lines, link frames, LAN frames and events in that of
-- their coming, the last happening that was carried out, and, where routes are watched, the lines
-- that were told of them, newest first
pub record Mesh : Type 0 where
  pub nodes : List NodeLog
  pub links : List NetLink
  pub lans : List NetLan
  pub frames : List SentFrame
  pub puts : List LanPut
  pub events : List Event
  pub last : Happening
  pub watch : Option (List RouteLine)

-- before the first line, with what is watched; nothing happens at the moment 0
abbrev pub begun_mesh : Option (List RouteLine) → Mesh
begun_mesh watch = record {
  nodes = [];
  links = [];
  lans = [];
  frames = [];
  puts = [];
  events = [];
  last = record { moment = 0; class = LinkDelivery; place = 0 };
  watch = watch;
}

-- before the first line, where routes aren't watched
abbrev pub empty_mesh : Mesh
empty_mesh = begun_mesh None

-- what a mesh is run with: the acts of a node with this address and log that is given something at
-- a moment, and the limit of its own that it then passes; the live originators that a node with this
-- address and log has at a moment; and how many frames, and bytes of frames, may be sent
pub record Setup : Type 0 where
  pub acts : Mac → Log → ℕ → Given → List Act
  pub node_limit : Mac → Log → ℕ → Given → Option NodeLimit
  pub originators : Mac → Log → ℕ → List OrigRow
  pub frames_limit : ℕ
  pub bytes_limit : ℕ

-- whether a node has this address
abbrev pub has_address : Mac → NodeLog → Bool
has_address mac node = bytes_eq node.mac.0 mac.0

-- the address of the node at a place; that of no station where there is none
abbrev pub address_at : ℕ → List NodeLog → Mac
address_at place nodes =
    option_map_or (λ node. node.mac) (slice_get nodes place) (record { 0 = replicate 6 0 })
