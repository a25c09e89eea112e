-- What holds of every mesh that lines and happenings lead to: each node had the ticks up to the
-- last happening and no other, places fit 32 bits, each link frame was sent over a link and each
-- LAN frame put on a LAN, and none arrives at the moment of its sending; and every link frame in a
-- log has the bytes that it was sent with. The main words are `IsSound` and `KeepsBytes`.
use Rattle.std.specs.Prelude.{◌≡◌, ℕ, suc, ◌+◌, ◌*◌, ◌-◌, ◌<◌, ◌≤◌, ◌⊎◌, List, length, slice_get, Some, ⊤}
use Rattle.mesh_model.specs.declared.happening.Happening.{Happening}
use Rattle.mesh_model.specs.Clients.Log.{Given, Tick, LinkFrame, LanFrame, Line, LogEntry}
use Rattle.mesh_model.specs.Net.Happenings.{Before, class_number}
use Rattle.mesh_model.specs.Net.Mesh.{NodeLog, NetLink, SentFrame, LanPut, Mesh, Setup}
use Rattle.mesh_model.specs.Net.Due.{ticks_in, tick_at}
use Rattle.mesh_model.specs.Net.Next.{AtMost, Has}

-- one more than the greatest place
abbrev pub places : ℕ
places = 4294967296

-- the ticks of a node until the last happening are the ones that it had
pub record HadItsTicks (last : Happening) (place : ℕ) (node : NodeLog) : Type 0 where
  pub had : (ticks_in node.log ≡ 0) ⊎ AtMost (tick_at place node (ticks_in node.log)) last
  pub to_come : Before last (tick_at place node (suc (ticks_in node.log)))

-- what holds of every mesh that is reached
pub record IsSound (mesh : Mesh) : Type 0 where
  pub ticked : (place : ℕ) (node : NodeLog) → slice_get mesh.nodes place ≡ Some node
      → HadItsTicks mesh.last place node
  pub few_frames : length mesh.frames ≤ places
  pub few_puts : length mesh.puts ≤ places
  pub few_nodes : length mesh.nodes ≤ places
  pub low_last : mesh.last.place < places
  pub on_links : (place : ℕ) (frame : SentFrame) → slice_get mesh.frames place ≡ Some frame
      → frame.link < length mesh.links
  pub on_lans : (place : ℕ) (put : LanPut) → slice_get mesh.puts place ≡ Some put
      → put.lan < length mesh.lans
  pub delays : (place : ℕ) (link : NetLink) → slice_get mesh.links place ≡ Some link
      → 1 ≤ link.delay

-- the limit on frames leaves each a place
abbrev pub FitsPlaces : Setup → Type 0
FitsPlaces setup = setup.frames_limit ≤ places

-- a link frame that is given has the bytes that the frame of its number was sent with
abbrev pub GivesItsBytes : List SentFrame → Given → Type 0
GivesItsBytes frames (Tick index) = ⊤
GivesItsBytes frames (LinkFrame number from throughput bytes) =
    (frame : SentFrame) × (slice_get frames (number - 1) ≡ Some frame) × (frame.bytes ≡ bytes)
GivesItsBytes frames (LanFrame bytes) = ⊤
GivesItsBytes frames (Line line) = ⊤

-- every frame in every log has the bytes that it was sent with
abbrev pub KeepsBytes : Mesh → Type 0
KeepsBytes mesh = (place : ℕ) (node : NodeLog) → slice_get mesh.nodes place ≡ Some node →
    (entry : LogEntry) → Has node.log entry → GivesItsBytes mesh.frames entry.given

-- a happening as one number, which rises with the order where places fit
abbrev pub rank : Happening → ℕ
rank h = h.moment * 1099511627776 + (class_number h.class * places + h.place)
