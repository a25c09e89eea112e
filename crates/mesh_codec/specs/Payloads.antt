-- Frames where they lie, and the law of what packets carry of them: what is written is read again.
-- The main word is `IsFrameReadAgain`.
use Rattle.std.specs.Prelude.{◌≡◌, ◌≤◌, ◌<◌, ◌==◌, ℕ, ◌+◌, ◌⊎◌, false, length, Some}
use Rattle.mesh_base.specs.Address.{mac_size}
use Rattle.mesh_base.specs.Vlan.{untagged, tagged_bit, first_vlan, last_vlan}
use Rattle.mesh_base.specs.declared.client.Vid.{Vid}
use Rattle.mesh_model.specs.Packets.Payload as payload
use Rattle.mesh_model.specs.Packets.Numbers.{vlan_ethertype}
use Rattle.mesh_model.specs.Packets.Payload.{client_frame_of, ether_frame, payload_spelling}
use Rattle.mesh_model.specs.Packets.Ethernet as ether
use Rattle.mesh_codec.specs.declared.ether.EtherFrame.{EtherFrame}
use Rattle.mesh_codec.specs.declared.payload.ClientFrame.{ClientFrame}

-- an Ethernet frame apart from where its rest lies
abbrev pub seen_ether : EtherFrame → ether.EtherFrame
seen_ether frame = record {
  dst = frame.dst;
  src = frame.src;
  vid = frame.vid;
  rest = frame.rest.now;
}

-- a client frame apart from where its text lies
abbrev pub seen_frame : ClientFrame → payload.ClientFrame
seen_frame frame = record {
  dst = frame.dst;
  src = frame.src;
  vid = frame.vid;
  text = frame.text.now;
}

-- a wire number is that of no VLAN, or of a tagged one
abbrev pub IsWireNumber : Vid → Type 0
IsWireNumber vid = (vid.0 ≡ untagged) ⊎ ((number : ℕ)
    × (first_vlan ≤ number) × (number ≤ last_vlan) × (vid.0 ≡ tagged_bit + number))

-- a frame whose addresses are whole and whose VLAN has a number
pub record CanBeSpelled (frame : ether.EtherFrame) : Type 0 where
  pub dst : length frame.dst.0 ≡ mac_size
  pub src : length frame.src.0 ≡ mac_size
  pub vid : IsWireNumber frame.vid

-- a type of two bytes that isn't that of a tag
pub record IsOwnType (ethertype : ℕ) : Type 0 where
  pub fits : ethertype < 65536
  pub no_tag : (ethertype == vlan_ethertype) ≡ false

-- a client frame that a packet can carry
abbrev pub CanBeCarried : payload.ClientFrame → Type 0
CanBeCarried frame = CanBeSpelled (ether_frame frame)

-- what is written is read again
abbrev pub IsFrameReadAgain : Type 0
IsFrameReadAgain = (frame : payload.ClientFrame) → CanBeCarried frame
    → client_frame_of (payload_spelling frame) ≡ Some frame
