-- What a net asks of a link before a frame goes on it: the mark of its turn, the delay, and the
-- address at its end; and who gets a frame of a LAN. The main word is `LaneIs`.
use Rattle.std.specs.Prelude.{◌≡◌, ℕ, ◌≤◌, ◌%◌, nat_eq, not, Bool, true, List, length, slice_get, slice_index_or, Option, Some, None}
use Rattle.mesh_model.specs.Net.Mesh.{NetLink, SentFrame, Mesh, address_at}
use Rattle.mesh_model.specs.Net.Runs.{throughput_between}
use Rattle.mesh_model.specs.Net.Sending.{frames_on}
use Rattle.mesh_model.specs.Scenario.LinkOptions.{least_delay, delay_limit}
use Rattle.mesh_model.specs.Scenario.Terms.{held_mark}
use Rattle.mesh_post.specs.declared.row.Arrival.{Arrival}
use Rattle.mesh_post.specs.declared.row.Lane.{Lane}
use Rattle.mesh_post.specs.declared.row.Sending.{Sending}

-- the next frame of the link at a place finds this
pub record LaneIs (mesh : Mesh) (place : ℕ) (link : NetLink) (lane : Lane) : Type 0 where
  pub turn : lane.turn ≡ frames_on place mesh.frames
  pub mark : lane.mark ≡ slice_index_or link.pattern (lane.turn % length link.pattern) held_mark
  pub delay : lane.delay ≡ link.delay
  pub end : lane.end ≡ address_at link.to mesh.nodes
  pub least : least_delay ≤ link.delay
  pub most : link.delay ≤ delay_limit

-- what a frame brings, and whom
pub record ArrivalIs (sendings : List Sending) (mesh : Mesh) (frame : SentFrame) (link : NetLink)
    (arrival : Arrival) : Type 0 where
  pub to : arrival.to ≡ link.to
  pub from : arrival.from ≡ address_at link.from mesh.nodes
  pub throughput : arrival.tp ≡ throughput_between link.to link.from mesh.links
  pub sending : Sending
  pub found : slice_get sendings arrival.sending ≡ Some sending
  pub bytes : sending.bytes ≡ frame.bytes
  pub root : sending.root ≡ frame.root

-- whether a place is another than one, where that is named
abbrev pub is_other : Option ℕ → ℕ → Bool
is_other None place = true
is_other (Some one) place = not (nat_eq one place)
